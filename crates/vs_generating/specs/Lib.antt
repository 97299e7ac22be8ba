pub use Rattle.vs_ending.specs.Ending
pub mod Summary
pub mod Disks
pub mod Running
pub mod Faults
pub mod Endings
