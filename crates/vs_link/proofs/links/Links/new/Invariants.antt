use Rattle.std.proofs.Common.{◌≡◌, map}
use Rattle.std.specs.Prelude.{replicate}
use Rattle.vs_link.specs.Links.{no_line}
use Rattle.vs_link.proofs.Table.{plain}
use Rattle.vs_link.proofs.links.Links.new.Given as goal

abbrev pub invariant-loop : goal.invariant-loop
invariant-loop l = map plain l.connections.items ≡ replicate l.counter (plain no_line)
