pub use Rattle.vs_base.specs.Faults
pub mod Images
pub mod Kept
pub mod Laws
pub mod Memory
pub mod Model
pub mod Told
