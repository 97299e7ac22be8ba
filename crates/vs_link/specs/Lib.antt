pub mod Connection
pub mod Links
pub use Rattle.vs_rows.specs.RowMap
