mod InlineLemmas
pub mod RuleLemmas
pub mod OrderLemmas
pub mod ListLemmas
pub mod GrowingLemmas
pub mod TableLemmas
pub mod SelectionLemmas
pub mod ResultLemmas
pub mod ReportsLemmas
