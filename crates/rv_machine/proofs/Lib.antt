pub mod DecodeLaws
pub mod Images
pub mod Memory
pub mod Runs
pub mod Products
pub mod Ranges
pub mod States
pub mod UnitOperations
