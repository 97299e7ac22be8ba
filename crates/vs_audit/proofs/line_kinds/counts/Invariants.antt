use Rattle.std.proofs.Common.{◌≡◌, ℕ, ◌-◌, List}
use Rattle.vs_audit.proofs.Lists.{front}
use Rattle.vs_audit.specs.Reading.{many_at}
use Rattle.vs_audit.specs.ReportLines.{counts_at}
use Rattle.vs_audit.specs.Words.{count_at}
use Rattle.vs_audit.proofs.line_kinds.counts.Given as goal

abbrev pub invariant-loop-n : goal.invariant-loop-n
invariant-loop-n l = (done : List ℕ) × (counts_at l.count l.fn.words ≡ front done (many_at {T = ℕ} (λ _ words. count_at words) (λ n _. n) (l.count - l.n) 0 l.words))
