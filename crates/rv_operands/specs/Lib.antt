pub mod Roles
pub mod Operand
pub mod Operands
pub mod Visits
pub mod Shapes
pub mod Meeting
pub mod RegClasses
