use Rattle.std.proofs.Common.{◌≡◌, ◌++◌, take}
use Rattle.vs_report.specs.PlacementText.{places_text}
use Rattle.vs_report.proofs.buckets.put_places.Given as goal

abbrev pub invariant-loop-set : goal.invariant-loop-set
invariant-loop-set l = l.out.items ≡ l.initial.out.items ++ places_text (take l.set-index l.entries)
