pub mod Entries
pub mod FloatAccesses
pub mod FullEnds
pub mod FullInstRuns
pub mod FullMeaning
pub mod FullReturns
pub mod Laws
