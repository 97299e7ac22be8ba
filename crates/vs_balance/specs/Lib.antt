pub mod Disbalance
pub mod Ideal
pub mod Member
pub mod Moves
pub mod Routes
pub mod Sharing
