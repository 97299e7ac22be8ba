mod Changes
mod Counted
mod Locks
