-- What an event writes to the journals.
pub mod Durables
pub mod Faulting
pub mod Fitting
pub mod Kinds
pub mod Laws
pub mod Reopening
pub mod Steps
