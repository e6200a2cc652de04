pub mod Numbers
pub mod Host
