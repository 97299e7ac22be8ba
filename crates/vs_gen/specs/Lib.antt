pub mod Calls
pub mod Configurations
pub mod Draws
pub mod Generated
