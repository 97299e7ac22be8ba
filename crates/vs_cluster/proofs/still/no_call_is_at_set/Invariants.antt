use Rattle.std.proofs.Common.{◌≡◌, ℕ, ◌≤◌, false}
use Rattle.vs_calls.specs.Progress.{is_at_set}
use Rattle.vs_state.specs.Plain.{plain}
use Rattle.vs_cluster.proofs.still.no_call_is_at_set.Given as goal

abbrev pub invariant-loop-index : goal.invariant-loop-index
invariant-loop-index l = (c : ℕ) → 1 ≤ c → c ≤ l.index → is_at_set ((plain l.state).client c).present.stage ≡ false
