use Rattle.std.proofs.Common.{◌≡◌, ◌≤◌, ◌*◌, length}
use Rattle.vs_machine.specs.Tables.{sum_to}
use Rattle.vs_state.specs.Plain.{plain}
use Rattle.vs_generating.proofs.counts.answered.Given as goal

abbrev pub invariant-loop-client : goal.invariant-loop-client
invariant-loop-client l = record {
  sum : l.answered ≡ sum_to (λ c. length ((plain l.state).client c).answered) l.client-index;
  few : l.answered ≤ 200000 * l.client-index;
}
