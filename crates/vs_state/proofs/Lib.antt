pub mod Counts
pub mod Hauls
pub mod Least
pub mod Numbered
pub mod Routes
pub mod Statuses
