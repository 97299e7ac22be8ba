pub mod Steps
pub mod Words
pub mod Operations
pub mod Scripts
pub mod Reports
