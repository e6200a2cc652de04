pub mod Alone
pub mod AtomicRuns
pub mod Laws
pub mod Passes
pub mod SharedLoops
pub mod SharedRuns
