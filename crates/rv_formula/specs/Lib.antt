pub mod Token
pub mod Formula
pub mod Parsing
pub mod Parsers
