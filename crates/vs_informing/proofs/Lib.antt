pub mod Opened
pub mod Causes
pub mod Good
pub mod Ending
