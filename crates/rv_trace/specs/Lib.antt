pub mod Operands
pub mod Instruction
