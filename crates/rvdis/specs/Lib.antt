pub mod Ending
pub mod Making
