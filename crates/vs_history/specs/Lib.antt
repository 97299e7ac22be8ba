pub mod History
pub mod Means
