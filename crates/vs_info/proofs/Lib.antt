pub mod Counted
pub mod Enumerated
pub mod Texts
