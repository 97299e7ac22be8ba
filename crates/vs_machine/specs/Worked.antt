-- Runs that compute, each with its last report or its refusal.
pub mod Cluster
pub mod Commanded
pub mod Moved
pub mod Posted
pub mod Recovered
pub mod Stopped
pub mod Waited
