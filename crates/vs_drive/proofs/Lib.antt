pub mod Adding
pub mod Choosing
pub mod Ending
pub mod Learning
pub mod Searching
pub mod Serving
pub mod Turning
