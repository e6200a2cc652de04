pub mod Making
pub mod Parsing
