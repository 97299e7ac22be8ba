use Rattle.std.proofs.Common.{◌≡◌, ◌++◌, map, take}
use Rattle.vs_link.specs.Connection.{sent}
use Rattle.vs_link.proofs.connection.copy_calls.Given as goal

abbrev pub invariant-loop-posted : goal.invariant-loop-posted
invariant-loop-posted l = map sent l.line.items ≡ map sent l.fn.line.items ++ map sent (take l.posted-index l.calls)
