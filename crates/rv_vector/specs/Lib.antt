pub mod Modes
pub mod VState
pub mod VType
pub mod Widths
