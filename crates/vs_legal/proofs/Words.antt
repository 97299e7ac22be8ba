-- What is spelled of words.
pub mod Spelled
pub mod Operations
pub mod Entries
pub mod Statuses
pub mod Report
