-- A round's operator has the balance as its next command: kept by every event.
pub mod Frame
pub mod Moves
pub mod Plans
pub mod Steps
