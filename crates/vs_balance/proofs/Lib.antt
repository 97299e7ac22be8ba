mod Examples
pub mod Leaving
pub mod Fewest
pub mod Lines
pub mod Steps
pub mod Rows
pub mod Settled
pub mod Shares
pub mod Walk
pub mod Weighing
