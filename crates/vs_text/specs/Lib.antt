pub mod Lines
pub mod Number
pub mod Split
pub use Rattle.vs_base.specs.Listed
