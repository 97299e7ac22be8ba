pub mod Collect
pub use Rattle.vs_rows.specs.RowMap
