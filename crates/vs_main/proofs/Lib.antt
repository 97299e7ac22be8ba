pub mod Words
pub mod Memory
pub mod Playing
pub mod Statuses
