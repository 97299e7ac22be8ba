pub use Rattle.vs_base.specs.Listed
pub use Rattle.vs_table.specs.Entries
pub mod Asks
pub mod Decision
