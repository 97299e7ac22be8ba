use Rattle.std.proofs.Common.{take}
use Rattle.vs_router.specs.Known.{Learns}
use Rattle.vs_router.proofs.router.Router.learn.Given as goal

abbrev pub invariant-loop-id : goal.invariant-loop-id
invariant-loop-id l = Learns l.fn.self l.self-inside.known.items l.set (take l.id-index l.id-items)
