use Rattle.std.proofs.Common.{◌≡◌, ◌+◌, ◌-◌, List}
use Rattle.vs_audit.proofs.Lists.{front}
use Rattle.vs_audit.specs.Reading.{many_at}
use Rattle.vs_audit.specs.ReportLines.{entry_at, entries_at}
use Rattle.vs_audit.proofs.line_kinds.bucket_entries.Given as goal

abbrev pub invariant-loop-set : goal.invariant-loop-set
invariant-loop-set l = (done : List (Unit {0})) × (entries_at l.sets l.fn.words ≡ front done (many_at (entry_at l.sets) (λ s _. s + 1) (l.sets - l.set) (l.set + 1) l.words))
