use Rattle.std.proofs.Common.{◌≡◌, ℕ, ◌-◌}
use Rattle.vs_audit.proofs.Lists.{front}
use Rattle.vs_audit.specs.Account.{entries}
use Rattle.vs_audit.specs.Reading.{many_at}
use Rattle.vs_audit.specs.Report.{entry_at, entries_at}
use Rattle.vs_audit.proofs.histories.entries.Given as goal

abbrev pub invariant-loop-n : goal.invariant-loop-n
invariant-loop-n l = entries_at l.name l.count l.fn.lines ≡ front (entries l.entries.items) (many_at {T = ℕ} (entry_at l.name) (λ n _. n) (l.count - l.n) 0 l.lines)
