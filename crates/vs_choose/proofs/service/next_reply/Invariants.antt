use Rattle.std.proofs.Common.{ℕ, ◌≤◌}
use Rattle.vs_event.specs.declared.event.Event.TheVariants as event
use Rattle.vs_core.specs.Core.{means}
use Rattle.vs_machine.specs.Actors.{IsPossible}
use Rattle.vs_choose.proofs.service.next_reply.Given as goal

abbrev pub invariant-loop-index : goal.invariant-loop-index
invariant-loop-index l = (k : ℕ) → 1 ≤ k → k ≤ l.index → IsPossible (means l.core) (event.Hear l.set k) → ⊥
