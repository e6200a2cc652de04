pub mod Words
pub mod Slack
pub mod Lists
pub mod QueueContents
pub mod OrderOfVeneers
