use Rattle.std.proofs.Common.{ℕ, ◌≤◌}
use Rattle.vs_rows.specs.RowMap.{IsRising}
use Rattle.vs_machine.specs.State.{sets_of}
use Rattle.vs_state.specs.Plain.{plain}
use Rattle.vs_core.specs.Opened.{IsCoherentAt}
use Rattle.vs_core.specs.Opening.{held_in}
use Rattle.vs_core.proofs.coherence.first_incoherent.Given as goal

abbrev pub invariant-loop-before : goal.invariant-loop-before
invariant-loop-before l = (b : ℕ) → 1 ≤ b → b ≤ l.before
    → IsCoherentAt (sets_of (plain l.state)) (held_in (plain l.state)) b × ((x : ℕ) → IsRising (((plain l.state).bucket b).rows x))
