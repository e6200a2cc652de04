pub mod Answers
pub mod Command
pub mod Hex
pub mod Records
pub mod Report
pub mod Words
