use Rattle.std.proofs.Common.{ℕ, ◌≤◌, ◌-◌, unwrap_or}
use Rattle.vs_core.specs.Core.{means}
use Rattle.vs_choose.specs.Service.{IsIdleAt}
use Rattle.vs_choose.proofs.service.next_of_buckets.Given as goal

-- with those up to the last one there is nothing to do
abbrev pub invariant-loop-bucket : goal.invariant-loop-bucket
invariant-loop-bucket l = (b : ℕ) → 1 ≤ b → b ≤ unwrap_or l.after 0 → IsIdleAt (means l.core) l.set b

abbrev pub decreases-loop-bucket : goal.decreases-loop-bucket
decreases-loop-bucket l = 30000 - unwrap_or l.after 0
