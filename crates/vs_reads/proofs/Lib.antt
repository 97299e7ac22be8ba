pub mod RowsAfter
pub mod Numbered
pub mod Served
pub mod Files
pub mod Together
pub mod Reading
pub mod LoggedLines
pub mod Ending
