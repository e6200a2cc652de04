pub mod Marks
pub mod Dump
pub mod Reading
