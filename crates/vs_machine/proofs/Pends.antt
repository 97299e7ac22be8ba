-- A pending change may still take effect: kept by every kind of event.
pub mod Fitting
pub mod Kinds
pub mod Recording
pub mod Restarting
