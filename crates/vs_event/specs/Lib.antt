pub mod Adds
pub mod Event
pub mod Fault
pub mod Pieces
pub mod Reading
pub mod Recorded
pub use Rattle.vs_base.specs.Listed
pub use Rattle.vs_base.specs.Numbers
