pub mod Code
pub mod Emitted
pub mod Images
pub mod NewConstants
pub mod Places
pub mod Puts
pub mod Parts
