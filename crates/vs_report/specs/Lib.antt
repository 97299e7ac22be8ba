pub use Rattle.vs_machine.specs.Report
pub use Rattle.vs_state.specs.Plain
pub use Rattle.vs_state.specs.Sized
pub mod Adds
pub mod PlacementText
pub mod SetText
pub mod ReasonText
