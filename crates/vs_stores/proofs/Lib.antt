pub mod Faults
pub mod Lifting
pub mod Lists
pub mod MadeReady
pub mod Opening
