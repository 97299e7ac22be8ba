-- The references of a set's buckets, as a map from buckets to counts.
use Rattle.std.specs.Prelude.{◌≡◌, ◌≢◌, ℕ, ◌≤◌, ◌==◌, if◌then◌else◌, List, None, unwrap_or}
use Rattle.std.specs.Ordering.{nat_cmp}
use Rattle.vs_base.specs.Listed.{Listed}
use Rattle.vs_table.specs.Entries.{value_of}
use Rattle.vs_refs.specs.declared.counts.Counts.{Counts}
use Rattle.vs_refs.specs.Counts.{no_counts}

-- the counts of a bucket, which are none where it has no entry
abbrev pub counts_of : List (ℕ × Counts) → ℕ → Counts
counts_of entries id = unwrap_or (value_of nat_cmp entries id) no_counts

-- the bucket has an entry, or there is room for one
abbrev pub HasRoomFor : Listed (ℕ × Counts) → ℕ → Type 0
HasRoomFor refs id = value_of nat_cmp refs.items id ≡ None → 1 ≤ refs.room

-- the bucket has an entry
abbrev pub HasEntry : List (ℕ × Counts) → ℕ → Type 0
HasEntry entries id = value_of nat_cmp entries id ≢ None

-- this bucket has these counts, and each other has those that it had
abbrev pub LeavesCounts : ℕ → Counts → List (ℕ × Counts) → List (ℕ × Counts) → Type 0
LeavesCounts id counts old new = (b : ℕ) → counts_of new b ≡ (if id == b then counts else counts_of old b)
