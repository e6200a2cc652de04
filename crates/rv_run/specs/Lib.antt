pub mod Memory
pub mod Outcomes
pub mod Output
pub mod Settled
