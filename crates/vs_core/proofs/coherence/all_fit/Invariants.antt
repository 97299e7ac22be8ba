use Rattle.std.proofs.Common.{ℕ, ◌≤◌}
use Rattle.vs_rows.specs.RowMap.{IsRising}
use Rattle.vs_state.specs.Plain.{plain}
use Rattle.vs_core.specs.Opening.{IsFitting}
use Rattle.vs_core.proofs.coherence.all_fit.Given as goal

abbrev pub invariant-loop-index : goal.invariant-loop-index
invariant-loop-index l = (x : ℕ) → 1 ≤ x → x ≤ l.index → IsFitting (plain l.state) l.bucket l.owner x × IsRising (((plain l.state).bucket l.bucket).rows x)
