pub mod Bits
pub mod Splitting
