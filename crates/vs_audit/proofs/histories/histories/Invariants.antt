use Rattle.std.proofs.Common.{◌≡◌, ◌-◌, map}
use Rattle.std.specs.Prelude.{codes}
use Rattle.vs_audit.proofs.Lists.{front}
use Rattle.vs_audit.specs.Account.{history}
use Rattle.vs_audit.specs.Reading.{all_at}
use Rattle.vs_audit.specs.Report.{begins, history_at, histories_at}
use Rattle.vs_audit.proofs.histories.histories.Given as goal

abbrev pub invariant-loop-n : goal.invariant-loop-n
invariant-loop-n l = histories_at l.buckets l.fn.lines ≡ front (map history l.histories.items) (all_at (begins (codes "history")) (history_at l.buckets) (λ _ h. h.bucket) (l.buckets - l.n) l.last l.lines)
