use Rattle.std.proofs.Common.{◌≡◌, ◌-◌, ℕ, unwrap_or}
use Rattle.std.specs.Prelude.{if◌then◌else◌}
use Rattle.vs_refs.specs.Counts.{no_counts}
use Rattle.vs_refs.specs.Refs.{counts_of}
use Rattle.vs_space.specs.Entries.{status_of}
use Rattle.vs_machine.specs.Kinds.Collection.{is_garbage}
use Rattle.vs_machine.specs.Tables.{is_to}
use Rattle.vs_core.proofs.opening.garbage_locks.Given as goal

-- of the buckets up to the last one those are locked that are garbage
abbrev pub invariant-loop-bucket : goal.invariant-loop-bucket
invariant-loop-bucket l =
    (q : ℕ) → counts_of l.refs.items q
    ≡ (if is_to (unwrap_or l.after 0) q then record no_counts { ro_lock = is_garbage (status_of l.space.entries q) } else no_counts)

abbrev pub decreases-loop-bucket : goal.decreases-loop-bucket
decreases-loop-bucket l = 30000 - unwrap_or l.after 0
