use Rattle.std.proofs.Common.{◌≡◌, ◌+◌, ◌-◌, List}
use Rattle.vs_audit.proofs.Lists.{front}
use Rattle.vs_audit.specs.Reading.{many_at}
use Rattle.vs_audit.specs.Report.{bucket_at, buckets_at}
use Rattle.vs_audit.proofs.read.buckets.Given as goal

abbrev pub invariant-loop-n : goal.invariant-loop-n
invariant-loop-n l = (done : List (Unit {0})) × (buckets_at l.size.sets l.size.buckets l.fn.lines ≡ front done (many_at (bucket_at l.size.sets) (λ b _. b + 1) (l.size.buckets - l.n) (l.n + 1) l.lines))
