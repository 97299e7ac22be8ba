pub mod Body
pub mod Change
pub mod Durable
pub mod Fitting
pub mod Reading
pub mod RowTable
pub mod States
