use Rattle.std.proofs.Common.{◌≡◌, map, take}
use Rattle.vs_link.proofs.Table.{plain}
use Rattle.vs_link.proofs.links.Links.try_clone.Given as goal

abbrev pub invariant-loop-connection : goal.invariant-loop-connection
invariant-loop-connection l = map plain l.connections.items ≡ map plain (take l.connection-index l.self-inside.connections.items)
