-- What is known where an event is possible, kind by kind: each guard, and the state after it.
pub mod Calls
pub mod Others
pub mod Sender
pub mod Stops
