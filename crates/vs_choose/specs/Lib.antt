pub use Rattle.vs_core.specs.Core
pub use Rattle.vs_machine.specs.Actors
pub mod Client
pub mod Mover
pub mod Operator
pub mod Restart
pub mod Service
