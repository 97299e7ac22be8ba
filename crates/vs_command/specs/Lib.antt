-- words, and the words of each command
pub mod Word
pub mod Verb
pub mod Verbs
pub mod Command
pub mod Usage
-- how clap reads them
pub mod Line
pub mod Parser
