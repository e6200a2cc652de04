pub mod Collected
pub mod OfRecords
pub mod Ranges
