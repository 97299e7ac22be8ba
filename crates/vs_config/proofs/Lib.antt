pub mod Documents
pub mod Doubles
pub mod LawfulLemmas
pub mod NotToml
pub mod SameSets
pub mod SetTables
pub mod Tables
