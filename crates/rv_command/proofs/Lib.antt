pub mod Outcomes
mod Parsing
mod Numbers
