pub mod AddressCode
pub mod BufferAfterSlots
pub mod LoopCode
pub mod PartsCode
pub mod CodePut
pub mod Encoded
pub mod SlotsPut
pub mod OwnForms
pub mod PlainSlots
pub mod Sequences
mod Terms
