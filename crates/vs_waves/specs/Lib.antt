pub mod Flows
pub mod Forcing
pub mod Loads
pub mod Plan
