pub use Rattle.vs_audit.specs.Legal
pub use Rattle.vs_machine.specs.Runs
pub mod Named
pub mod Account
pub mod Laws
