pub mod Parts
pub mod Placements
pub mod Records
pub mod Runs
