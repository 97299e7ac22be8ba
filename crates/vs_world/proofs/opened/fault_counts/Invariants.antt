use Rattle.std.proofs.Common.{◌≡◌, ℕ, suc, ◌<◌, length, get_or}
use Rattle.vs_stores.specs.Stores.{faults_at}
use Rattle.vs_world.proofs.opened.fault_counts.Given as goal

abbrev pub invariant-loop-i : goal.invariant-loop-i
invariant-loop-i g l = record {
  count : length l.counts.items ≡ l.i;
  counts : (k : ℕ) → k < l.i → get_or l.counts.items k 0 ≡ faults_at l.stores (suc k);
}
