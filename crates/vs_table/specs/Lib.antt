pub use Rattle.vs_base.specs.Listed
pub mod Entries
pub mod Lends
pub mod Place
