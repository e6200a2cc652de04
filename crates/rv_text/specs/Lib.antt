pub mod Operands
pub mod Texts
pub mod Lines
