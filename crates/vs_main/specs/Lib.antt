pub use Rattle.vs_command.specs.Command
pub use Rattle.vs_ending.specs.Ending
pub mod Endings
pub mod Good
