-- What a set has asked, as a map from buckets to the epoch and the sync number of the question.
use Rattle.std.specs.Prelude.{◌≡◌, ◌≤◌, ◌==◌, ℕ, List, Option, None, if◌then◌else◌}
use Rattle.std.specs.Ordering.{nat_cmp}
use Rattle.vs_base.specs.Listed.{Listed}
use Rattle.vs_table.specs.Entries.{value_of}

-- the ask of a bucket
abbrev pub ask_of : List (ℕ × (ℕ × ℕ)) → ℕ → Option (ℕ × ℕ)
ask_of entries id = value_of nat_cmp entries id

-- the new asks have this at the bucket, and at every other bucket what the old ones have
abbrev pub Sets : List (ℕ × (ℕ × ℕ)) → List (ℕ × (ℕ × ℕ)) → ℕ → Option (ℕ × ℕ) →
    Type 0
Sets old new id ask = (b : ℕ) → ask_of new b ≡ (if id == b then ask else ask_of old b)

-- the bucket has an ask, or there is room for one
abbrev pub HasRoomFor : Listed (ℕ × (ℕ × ℕ)) → ℕ → Type 0
HasRoomFor asks id = ask_of asks.items id ≡ None → 1 ≤ asks.room
