pub use Rattle.vs_base.specs.Faults
pub mod Told
pub mod Calls
pub mod Files
pub mod Memory
pub mod Real
