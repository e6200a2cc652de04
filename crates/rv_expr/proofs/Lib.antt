pub mod Accepted
pub mod Places
pub mod Validity
pub mod Steps
pub mod Effects
pub mod Operations
pub mod Programs
