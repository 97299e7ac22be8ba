use Rattle.std.proofs.Common.{◌≡◌, take}
use Rattle.vs_machine.specs.Kinds.Rebalancing.{left_on}
use Rattle.vs_core.proofs.routes.left_on.Given as goal

abbrev pub invariant-loop-route : goal.invariant-loop-route
invariant-loop-route l = l.left ≡ left_on (take l.route-index l.route-items) l.from l.to
