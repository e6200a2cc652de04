pub mod Entries
pub mod Outcomes
