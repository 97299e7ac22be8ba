pub mod Paging
pub mod Resting
