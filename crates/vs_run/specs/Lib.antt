pub use Rattle.vs_world.specs.Played
pub mod Runs
pub mod Endings
pub mod Worlds
