pub mod Layouts
pub mod Compressed
pub mod Registers
pub mod Operations
