pub mod Answers
pub mod Endings
pub mod Options
pub mod Words
