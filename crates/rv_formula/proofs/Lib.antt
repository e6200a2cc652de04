pub mod Reading
pub mod Found
pub mod Meanings
pub mod Counts
pub mod Closing
pub mod Fronts
