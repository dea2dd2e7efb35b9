pub mod Failures
pub mod Output
pub mod Visits
pub mod Folders
pub mod Checks
