-- Pages of rows.
use Rattle.std.specs.Prelude.{ℕ, ◌≤◌, List, Option, length, take}
use Rattle.vs_rows.specs.RowMap.{RowMap, IsRising, rows_above}

-- pairs that rise by key, at most 1,000
pub record IsPage (pairs : RowMap) : Type 0 where
  pub rising : IsRising pairs
  pub short : length pairs ≤ 1000

-- the first n rows above a cursor
abbrev pub page_of : RowMap → Option (List ℕ) → ℕ → RowMap
page_of m after n = take n (rows_above m after)
