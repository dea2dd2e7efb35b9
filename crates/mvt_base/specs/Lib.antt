pub mod Rules
pub mod Related
pub mod Texts
pub mod Reports
