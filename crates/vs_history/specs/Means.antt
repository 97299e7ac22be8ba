-- What the tables of a history stand for, and the room in them.
use Rattle.std.specs.Prelude.{ℕ}
use Rattle.vs_history.specs.History.{History, entries}
use Rattle.vs_history.specs.declared.history.History as code

abbrev pub means : code.History → History
means h = record { base = h.base.items; writes = entries h.writes.items; reads = entries h.reads.items }

-- for how many more writes, and reads, there is room
abbrev pub write_room : code.History → ℕ
write_room h = h.writes.room

abbrev pub read_room : code.History → ℕ
read_room h = h.reads.room
