pub mod Keeping
pub mod Numbers
pub mod Posts
pub mod Standing
