pub mod Callees
pub mod Computed
pub mod Files
pub mod FullRunning
pub mod Running
pub mod Starting
pub mod Tracing
pub mod Written
