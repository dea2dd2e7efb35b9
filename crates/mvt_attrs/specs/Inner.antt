-- What only the private functions' contracts cite.
pub mod Apart
pub mod Finding
pub mod Fronts
pub mod Found
pub mod Marking
pub mod Choosing
pub mod Places
pub mod UsedTags
