pub mod Ends
pub mod LoggedLines
