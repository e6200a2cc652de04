pub mod Requests
pub mod Turns
pub mod Keeping
pub mod RulesKept
pub mod Temporaries
pub mod Parts
pub mod ClearRegisters
pub mod Units
