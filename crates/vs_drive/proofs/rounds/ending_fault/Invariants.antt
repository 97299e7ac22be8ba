use Rattle.std.proofs.Common.{ℕ, ◌<◌}
use Rattle.std.specs.Prelude.{slice_index_or}
use Rattle.vs_drive.specs.Ends.{EndsRun}
use Rattle.vs_drive.specs.declared.driver.Driver.{Driver}
use Rattle.vs_drive.proofs.rounds.ending_fault.Given as goal

abbrev pub invariant-loop-driver : goal.invariant-loop-driver
invariant-loop-driver g l = (k : ℕ) (d : Driver) → k < l.driver-index → ¬ (EndsRun l.cluster.world (slice_index_or l.drivers k d).fault)
