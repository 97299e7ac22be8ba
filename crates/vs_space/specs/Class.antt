-- The statuses that a set looks for.
use Rattle.std.specs.Prelude.{◌≡◌, ◌<◌, ◌≤◌, ℕ, Bool, true, false, List, length, Option, Some, None, get_or}
use Rattle.vs_space.specs.declared.search.Class.{Class}
use Rattle.vs_space.specs.declared.search.Class.TheVariants as class
use Rattle.vs_space.specs.declared.status.Status.{Status}
use Rattle.vs_space.specs.Status.{is_active, is_open}

-- a status of the class
abbrev pub is_of : Class → Option Status → Bool
is_of class.Active status = is_active status
is_of class.Open status = is_open status

-- the first place of the class from this index on, or none where no place from there on is of it
abbrev pub IsNextPlace : Class → List (Option Status) → ℕ → Option ℕ → Type 0
IsNextPlace class places from None = (k : ℕ) → from ≤ k → is_of class (get_or places k None) ≡ false
IsNextPlace class places from (Some i) =
    (from ≤ i) × (i < length places) × (is_of class (get_or places i None) ≡ true) × ((k : ℕ) → from ≤ k → k < i → is_of class (get_or places k None) ≡ false)
