pub mod Causes
pub mod Ending
pub mod Legal
pub mod Files
pub mod Playing
pub mod Possible
pub mod Stopped
pub mod Stopping
