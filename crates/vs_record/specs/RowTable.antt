-- The rows of a set's buckets: a place for each bucket, in order of the ids.
use Rattle.std.specs.Prelude.{◌≡◌, ℕ, zero, suc, ◌==◌, ◌≤◌, List, [], length, Option, None, slice_index_or, if◌then◌else◌}
use Rattle.std.specs.Option.{option_map_or}
use Rattle.vs_base.specs.Listed.{Listed}
use Rattle.vs_rows.specs.RowMap.{RowMap}

-- rows, and for how many more there is memory
abbrev pub Rows : Type 0
Rows = Listed (List ℕ × List ℕ)

abbrev pub Places : Type 0
Places = List (Option Rows)

-- the rows of a bucket, where it has some or had
abbrev pub rows_at : Places → ℕ → Option Rows
rows_at places zero = None
rows_at places (suc k) = slice_index_or places k None

-- the same without their room: no rows where nothing stands at its place
abbrev pub row_map_at : Places → ℕ → RowMap
row_map_at places id = option_map_or (λ rows. rows.items) (rows_at places id) []

-- the new table has this at the bucket, and at every other bucket what the old one has
abbrev pub Sets : Places → Places → ℕ → Option Rows → Type 0
Sets old new id rows = (b : ℕ) → rows_at new b ≡ (if b == id then rows else rows_at old b)

-- the same without the room of the rows: these are the bucket's rows, and every other bucket has those that it had
abbrev pub SetsRows : Places → Places → ℕ → RowMap → Type 0
SetsRows old new id rows = (b : ℕ) → row_map_at new b ≡ (if b == id then rows else row_map_at old b)

-- each bucket has the rows that it had
abbrev pub HasSameRows : Places → Places → Type 0
HasSameRows old new = (b : ℕ) → row_map_at new b ≡ row_map_at old b

-- there is a place for each bucket
abbrev pub HasPlaces : Places → Type 0
HasPlaces places = length places ≡ 30000

-- there are no more places than buckets
abbrev pub AreOfBuckets : Places → Type 0
AreOfBuckets places = length places ≤ 30000
