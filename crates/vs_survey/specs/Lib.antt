pub use Rattle.vs_core.specs.Core
pub use Rattle.vs_machine.specs.Settling
pub mod Readers
