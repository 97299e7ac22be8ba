-- Asks and the answers under way: kept by every kind of event.
pub mod Changing
pub mod Connecting
pub mod Kinds
