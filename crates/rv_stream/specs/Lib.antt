pub mod Ends
pub mod InMemory
pub mod Standard
