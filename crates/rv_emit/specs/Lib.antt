pub mod State
pub mod Emission
pub mod Standing
pub mod StackMaps
pub mod EmitRuns
