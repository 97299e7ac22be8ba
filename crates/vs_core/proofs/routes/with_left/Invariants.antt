use Rattle.std.proofs.Common.{◌≡◌, ◌+◌, ◌≤◌, take, length}
use Rattle.vs_machine.specs.Kinds.Rebalancing.{with_left}
use Rattle.vs_core.proofs.routes.with_left.Given as goal

abbrev pub invariant-loop-route : goal.invariant-loop-route
invariant-loop-route l = record {
  rest : l.rest.items ≡ with_left (take l.route-index l.route-items) l.from l.to l.left;
  room : length l.route-items ≤ l.route-index + l.rest.room;
}
