use Rattle.std.proofs.Common.{◌≡◌, drop}
use Rattle.vs_history.specs.History.{entries, replay}
use Rattle.vs_history.proofs.history.History.rows_at.Given as goal

abbrev pub invariant-loop-entry : goal.invariant-loop-entry
invariant-loop-entry l = replay l.rows.items (entries (drop l.entry-index l.entry-items)) ≡ replay l.self.base.items (entries l.entry-items)
