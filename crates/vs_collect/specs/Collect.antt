-- When a bucket that was sent may be deleted, step by step, and why it may not.
use Rattle.std.specs.Prelude.{ℕ, ◌==◌, min, Bool, true, false, [], length, Option, Some, Result, Ok, Err, if◌then◌else◌}
use Rattle.vs_rows.specs.RowMap.{RowMap}
use Rattle.vs_space.specs.declared.status.Status.{Status}
use Rattle.vs_space.specs.declared.status.Status.TheVariants.{Sent, Garbage}
use Rattle.vs_collect.specs.declared.unmet.Unmet.{Unmet}
use Rattle.vs_collect.specs.declared.unmet.Unmet.TheVariants.{Unfit, Live, Referenced, NoRows, Rows}

-- by the bucket's status, whether a transfer of it is live, and the number of reads that are running
abbrev pub condemned : Option Status → Bool → ℕ → Result (Unit {0}) Unmet
condemned (Some (Sent to)) true reads = Err Live
condemned (Some (Sent to)) false reads = if reads == 0 then Ok tt else Err (Referenced reads)
condemned status live reads = Err (Unfit status)

-- by the bucket's status and its rows: how many rows go at once
abbrev pub wiped : Option Status → RowMap → Result ℕ Unmet
wiped (Some Garbage) [] = Err NoRows
wiped (Some Garbage) rows = Ok (min 1000 (length rows))
wiped status rows = Err (Unfit status)

-- by the bucket's status and the number of its rows
abbrev pub forgotten : Option Status → ℕ → Result (Unit {0}) Unmet
forgotten (Some Garbage) rows = if rows == 0 then Ok tt else Err (Rows rows)
forgotten status rows = Err (Unfit status)
