use Rattle.std.proofs.Common.{◌≡◌, map}
use Rattle.vs_script.specs.Calls.{calls}
use Rattle.vs_script.specs.Gathering.{clients_in, operators_in}
use Rattle.vs_script.specs.Scripts.{script}
use Rattle.vs_script.proofs.gathering.in_order.Given as goal

abbrev pub invariant-loop-one : goal.invariant-loop-one
invariant-loop-one l = record {
  clients : map (λ c. calls c.items) l.clients.items ≡ clients_in (map script l.yielded);
  operators : map (λ c. c.items) l.operators.items ≡ operators_in (map script l.yielded);
}
