pub mod Labels
pub mod Places
pub mod Windows
pub mod Reach
pub mod Order
pub mod Queues
