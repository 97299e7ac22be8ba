pub use Rattle.vs_ending.specs.Ending
pub use Rattle.vs_info.specs.Info
pub use Rattle.vs_top.specs.Plays
pub use Rattle.vs_top.specs.Statuses
pub mod Cluster
pub mod Endings
