pub mod Collected
pub mod Ranges
pub mod Records
