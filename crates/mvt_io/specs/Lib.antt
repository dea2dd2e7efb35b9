pub mod Counts
pub mod States
pub mod Hosts
pub mod Devices
pub mod Transfers
