pub use Rattle.vs_auditing.specs.Texts
pub mod Named
pub mod Laws
