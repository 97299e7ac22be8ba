use Rattle.std.proofs.Common.{◌≢◌, ℕ, ◌≤◌}
use Rattle.vs_core.specs.Stopping.{CanCloseBoth}
use Rattle.vs_core.proofs.going_down.can_close.Given as goal

abbrev pub invariant-loop-index : goal.invariant-loop-index
invariant-loop-index l = (y : ℕ) → 1 ≤ y → y ≤ l.index → l.set ≢ y → CanCloseBoth l.links l.set y
