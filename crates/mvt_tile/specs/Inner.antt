-- What the private calls of the crate promise each other.
pub mod Judging
pub mod Feeding
pub mod Wanting
pub mod Taking
