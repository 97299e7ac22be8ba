use Rattle.std.proofs.Common.{◌≡◌, ℕ, ◌-◌, ◌<◌, ◌≤◌, false, None, get_or, length}
use Rattle.vs_space.specs.Class.{is_of}
use Rattle.vs_space.proofs.search.next_place.Given as goal

abbrev pub invariant-loop-index : goal.invariant-loop-index
invariant-loop-index l = (l.from ≤ l.index) × ((k : ℕ) → l.from ≤ k → k < l.index → is_of l.class (get_or l.places k None) ≡ false)

abbrev pub decreases-loop-index : goal.decreases-loop-index
decreases-loop-index l = length l.places - l.index
