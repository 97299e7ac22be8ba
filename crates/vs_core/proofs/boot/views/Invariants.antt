use Rattle.std.proofs.Common.{◌≡◌, ◌++◌, drop}
use Rattle.vs_core.specs.Booted.{views_of}
use Rattle.vs_core.proofs.boot.views.Given as goal

abbrev pub invariant-loop-set : goal.invariant-loop-set
invariant-loop-set l = l.views.items ++ views_of l.count (drop l.set-index l.config.sets.items) ≡ views_of l.config.bucket_count l.config.sets.items
