use Rattle.std.proofs.Common.{◌≡◌}
use Rattle.vs_core.proofs.Closed.{AreClosed}
use Rattle.vs_core.proofs.going_down.close_all.Given as goal

abbrev pub invariant-loop-index : goal.invariant-loop-index
invariant-loop-index l = record {
  sets : l.links.sets ≡ l.initial.links.sets;
  closed : AreClosed l.initial.links l.links l.set l.index;
}
