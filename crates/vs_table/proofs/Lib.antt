mod Edits
mod Keys
