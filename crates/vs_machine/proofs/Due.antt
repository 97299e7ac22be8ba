-- Whoever is to be answered is there: kept by every event.
pub mod Calls
pub mod Frame
pub mod Moves
pub mod Steps
