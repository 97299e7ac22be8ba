pub mod Agrees
pub mod Guard
pub mod Moves
pub mod Plain
pub mod Serving
pub mod Sized
pub mod Statuses
pub mod Tables
