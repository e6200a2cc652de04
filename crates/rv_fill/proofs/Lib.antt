pub mod Tables
pub mod Distances
pub mod Accepted
pub mod Images
