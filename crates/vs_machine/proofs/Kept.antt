-- Each kind of event keeps what holds inside.
pub mod Acting
pub mod Calls
pub mod Closing
pub mod Collecting
pub mod Delivering
pub mod Freezing
pub mod Hearing
pub mod Moving
pub mod Pinning
pub mod Planning
pub mod Recovering
pub mod Restarting
pub mod Sealing
pub mod Sending
pub mod Stopping
pub mod Taking
