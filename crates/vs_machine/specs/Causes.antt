-- Which events of a run gave the answers that calls and commands got.
pub mod Calls
pub mod Commands
pub mod Events
pub mod Moves
