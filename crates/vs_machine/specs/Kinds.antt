-- The kinds of events: of each its guards in order, with their reasons, and its effect.
pub mod Calls
pub mod Faults
pub mod Sender
pub mod Connections
pub mod Recovery
pub mod Collection
pub mod Pinning
pub mod Rebalancing
pub mod Stops
