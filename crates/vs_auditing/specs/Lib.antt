pub use Rattle.vs_ending.specs.Ending
pub use Rattle.vs_audit.specs.Report
pub use Rattle.vs_audit.specs.Legal
pub use Rattle.vs_inputs.specs.Files
pub mod Faults
pub mod Lines
pub mod Texts
pub mod Endings
