pub mod Class
pub mod Counts
pub mod Entries
pub mod Marks
pub mod Next
pub mod Status
pub mod Table
pub mod Verdict
