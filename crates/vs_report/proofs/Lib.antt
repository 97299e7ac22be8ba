pub mod Counts
pub mod Entries
pub mod Listed
pub mod Numbers
pub mod SetLines
