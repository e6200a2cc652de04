pub mod Elf
pub mod Ends
pub mod Numbers
pub mod Symbols
