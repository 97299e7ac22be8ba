pub use Rattle.toml.specs.Data
pub use Rattle.toml.specs.Errors
pub use Rattle.vs_base.specs.Listed
pub mod Configuration
pub mod Key
pub mod Lawful
pub mod Reading
