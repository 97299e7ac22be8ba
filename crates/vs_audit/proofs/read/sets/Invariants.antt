use Rattle.std.proofs.Common.{◌≡◌, ◌+◌, ◌-◌, List}
use Rattle.vs_audit.proofs.Lists.{front}
use Rattle.vs_audit.specs.Reading.{many_at}
use Rattle.vs_audit.specs.Report.{set_at, sets_at}
use Rattle.vs_audit.proofs.read.sets.Given as goal

abbrev pub invariant-loop-n : goal.invariant-loop-n
invariant-loop-n l = (done : List (Unit {0})) × (sets_at l.count l.fn.lines ≡ front done (many_at set_at (λ s _. s + 1) (l.count - l.n) (l.n + 1) l.lines))
