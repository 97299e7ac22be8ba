-- What a set's entries and rows in memory stand for.
use Rattle.std.specs.Prelude.{ℕ}
use Rattle.vs_space.specs.Entries.{status_of}
use Rattle.vs_record.specs.Durable as plain
use Rattle.vs_record.specs.Durable.{Durable}
use Rattle.vs_record.specs.RowTable.{row_map_at}
use Rattle.vs_record.specs.declared.set_state.SetState.{SetState}

-- of each bucket its status and its rows, without the room for more
abbrev pub durable : SetState → Durable
durable s = record { entry = status_of s.space.entries; rows = row_map_at s.rows }

-- it has no entry and no rows of a bucket above n
abbrev pub IsOfBuckets : ℕ → SetState → Type 0
IsOfBuckets n state = plain.IsOfBuckets n (durable state)
