mod Beginning
pub mod Grows
pub mod FullGrows
pub mod Writing
pub mod Placing
mod SameWords
pub mod Settled
