pub mod Commands
pub mod Causes
pub mod ScriptFiles
pub mod Good
pub mod GoodRun
