use Rattle.std.proofs.Common.{take}
use Rattle.vs_router.specs.Said.{IsLowestServing}
use Rattle.vs_router.proofs.router.lowest_serving.Given as goal

abbrev pub invariant-loop-one : goal.invariant-loop-one
invariant-loop-one l = IsLowestServing (take l.one-index l.said) l.lowest
