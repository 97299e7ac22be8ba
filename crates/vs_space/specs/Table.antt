-- A set's entries in memory: a place for each bucket, in order of the ids.
use Rattle.std.specs.Prelude.{◌≡◌, ℕ, ◌+◌, ◌≤◌, List, [], ◌∷◌, length, Option, Some, None, sum_by}
use Rattle.vs_space.specs.Counts.{number_of, counted}
use Rattle.vs_space.specs.declared.counts.KindCounts.{KindCounts}
use Rattle.vs_space.specs.declared.status.Status.{Status}
use Rattle.vs_space.specs.declared.status.StatusKind.{StatusKind}

-- the entries of the places, of which the first is that of this bucket
abbrev pub entries_from : ℕ → List (Option Status) → List (ℕ × Status)
entries_from id [] = []
entries_from id (None ∷ places) = entries_from (id + 1) places
entries_from id (Some status ∷ places) = (id, status) ∷ entries_from (id + 1) places

-- there is a place for each bucket or none at all, and the statuses in them are counted
pub record IsTable (places : List (Option Status)) (counts : KindCounts) : Type 0 where
  pub whole : 1 ≤ length places → length places ≡ 30000
  pub numbers : (kind : StatusKind) → number_of counts kind ≡ sum_by (counted kind) places
