use Rattle.std.proofs.Common.{◌≡◌, map}
use Rattle.vs_machine.specs.Opening.{operator_at}
use Rattle.vs_state.specs.Plain.{operator}
use Rattle.vs_core.proofs.opening.new_operators.Given as goal

abbrev pub invariant-loop-script : goal.invariant-loop-script
invariant-loop-script l = map operator l.operators.items ≡ map operator_at (map (λ c. c.items) l.yielded)
