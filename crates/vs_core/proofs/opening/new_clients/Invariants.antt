use Rattle.std.proofs.Common.{◌≡◌, map}
use Rattle.vs_machine.specs.Opening.{client_at}
use Rattle.vs_script.specs.Calls.{calls}
use Rattle.vs_state.specs.Plain.{client}
use Rattle.vs_core.proofs.opening.new_clients.Given as goal

abbrev pub invariant-loop-script : goal.invariant-loop-script
invariant-loop-script l = map client l.clients.items ≡ map client_at (map (λ c. calls c.items) l.yielded)
