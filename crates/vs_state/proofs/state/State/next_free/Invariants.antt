use Rattle.std.proofs.Common.{◌≡◌, ℕ, ◌<◌, ◌≤◌, ◌-◌, false, unwrap_or}
use Rattle.vs_machine.specs.Kinds.Rebalancing.{is_free}
use Rattle.vs_state.specs.Plain.{plain}
use Rattle.vs_state.proofs.state.State.next_free.Given as goal

-- none up to the last one is free
abbrev pub invariant-loop-bucket : goal.invariant-loop-bucket
invariant-loop-bucket l = (b : ℕ) → 0 < b → b ≤ unwrap_or l.after 0 → is_free (plain l.self) l.set b ≡ false

abbrev pub decreases-loop-bucket : goal.decreases-loop-bucket
decreases-loop-bucket l = 30000 - unwrap_or l.after 0
