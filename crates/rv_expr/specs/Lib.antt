pub mod Value
pub mod Refusal
pub mod Frame
pub mod Running
pub mod Listing
