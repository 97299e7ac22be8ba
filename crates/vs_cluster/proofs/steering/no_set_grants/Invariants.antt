use Rattle.std.proofs.Common.{ℕ, ◌≤◌}
use Rattle.vs_machine.specs.Actors.{WouldGrant}
use Rattle.vs_script.specs.Calls.{call}
use Rattle.vs_state.specs.Plain.{plain}
use Rattle.vs_cluster.proofs.steering.no_set_grants.Given as goal

abbrev pub invariant-loop-index : goal.invariant-loop-index
invariant-loop-index l = (x : ℕ) → 1 ≤ x → x ≤ l.index → WouldGrant (plain l.state) x (call l.call) → ⊥
