pub mod Changed
pub mod Placed
pub mod Pushed
pub mod Rising
pub mod Same
pub mod SameOps
pub mod Scanned
pub mod Values
