-- The history of a bucket, as plain data, and its rows at a place.
use Rattle.std.specs.Prelude.{ℕ, ◌+◌, List, [], ◌∷◌, ◌++◌, length, take, map}
use Rattle.vs_base.specs.declared.numbers.CallId.{CallId}
use Rattle.vs_rows.specs.RowMap.{RowMap}
use Rattle.vs_rows.specs.Operations.{rows_after}
use Rattle.vs_rows.specs.Said.{Said, said_all}
use Rattle.vs_rows.specs.declared.op.Op.{Op}
use Rattle.vs_history.specs.declared.entry.Entry as code

-- a call that acted on the bucket, with its answers and its place
pub record Entry : Type 0 where
  pub id : CallId
  pub ops : List Op
  pub answers : List Said
  pub place : ℕ

abbrev pub entry : code.Entry → Entry
entry e = record { id = e.id; ops = e.ops.items; answers = said_all e.answers.items; place = e.place }

abbrev pub entries : List code.Entry → List Entry
entries es = map entry es

pub record History : Type 0 where
  -- the rows at opening
  pub base : RowMap
  -- the writes by place, and the reads in the order in which they acted
  pub writes : List Entry
  pub reads : List Entry

-- the rows after writes, the first of them first
abbrev pub replay : RowMap → List Entry → RowMap
replay rows [] = rows
replay rows (w ∷ ws) = replay (rows_after rows w.ops) ws

-- the number of writes, which is the place of the last
abbrev pub write_count : History → ℕ
write_count h = length h.writes

-- the rows after the writes up to a place
abbrev pub rows_at : History → ℕ → RowMap
rows_at h place = replay h.base (take place h.writes)

-- the rows after all writes
abbrev pub rows_now : History → RowMap
rows_now h = replay h.base h.writes

-- a write has the next place
abbrev pub with_write : History → CallId → List Op → List Said → History
with_write h id ops answers = record h { writes = h.writes ++ (record { id = id; ops = ops; answers = answers; place = length h.writes + 1 }) ∷ [] }

-- a read has the place of the rows that it saw
abbrev pub with_read : History → CallId → List Op → List Said → ℕ → History
with_read h id ops answers place = record h { reads = h.reads ++ (record { id = id; ops = ops; answers = answers; place = place }) ∷ [] }
