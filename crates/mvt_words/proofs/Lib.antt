mod Commands
mod Lines
