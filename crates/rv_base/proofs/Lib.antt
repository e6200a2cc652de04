pub mod RegEquality
