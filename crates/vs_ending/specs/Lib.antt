pub use Rattle.vs_host.specs.Calls
pub mod Ending
pub mod Lines
