use Rattle.std.proofs.Common.{ℕ, ◌<◌, ◌≤◌}
use Rattle.vs_base.specs.Numbers.{IsBucketId}
use Rattle.vs_record.specs.Durable.{IsSameAt}
use Rattle.vs_record.specs.States.{durable}
use Rattle.vs_record.proofs.set_state.SetState.equals.Given as goal

abbrev pub invariant-loop-number : goal.invariant-loop-number
invariant-loop-number l = record {
  so_far : (b : ℕ) → 1 ≤ b → b < l.number → IsSameAt (durable l.self) (durable l.other) b;
  outside : 1 < l.number → (b : ℕ) → ¬ (IsBucketId b) → IsSameAt (durable l.self) (durable l.other) b;
}
