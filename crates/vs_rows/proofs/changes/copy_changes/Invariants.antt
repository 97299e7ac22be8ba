use Rattle.std.proofs.Common.{◌≡◌, take}
use Rattle.vs_rows.proofs.changes.copy_changes.Given as goal

abbrev pub invariant-loop-key : goal.invariant-loop-key
invariant-loop-key l = l.copied.items ≡ take l.key-index l.changes
