-- Definitions between private functions, which no public contract cites.
pub mod Judging
pub mod Strokes
pub mod Grouping
pub mod Building
pub mod Writing
pub mod Validity
pub mod Telling
