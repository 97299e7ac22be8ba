pub mod Chosen
pub mod Clients
pub mod Movers
pub mod Operators
pub mod Plans
pub mod Services
