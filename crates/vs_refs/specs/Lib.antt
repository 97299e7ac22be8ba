pub use Rattle.vs_base.specs.Listed
pub use Rattle.vs_table.specs.Entries
pub mod Calls
pub mod Counts
pub mod Refs
