mod Entries
mod Gathered
mod LawfulLines
mod LawfulOps
mod LawfulScripts
mod Names
mod Numbers
mod OpLists
mod Ranges
pub mod Same
mod SameCommands
mod Steps
mod Texts
