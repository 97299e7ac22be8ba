pub use Rattle.vs_ending.specs.Ending
pub use Rattle.vs_waves.specs.Plan
pub use Rattle.vs_inputs.specs.Reading as FileReading
pub mod Reading
pub mod Planning
pub mod Text
pub mod Lines
pub mod Faults
pub mod Names
pub mod Endings
