pub mod Drawn
pub mod DrawnCalls
pub mod Lawful
pub mod Lettered
