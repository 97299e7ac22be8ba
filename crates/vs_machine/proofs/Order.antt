-- The order in which a client's calls are placed, kept by every event.
pub mod Calm
pub mod Growing
pub mod Passing
pub mod Steps
pub mod Stops
