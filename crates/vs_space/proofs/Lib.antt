pub mod Entries
pub mod Marks
pub mod Next
pub mod Places
