-- Which events of a run gave the answers.
pub mod Along
pub mod Calls
pub mod Commands
pub mod Moves
pub mod Operators
pub mod Replies
pub mod Transfers
pub mod Turns
