-- Which operations and rows are of keys and values.
use Rattle.std.specs.Prelude.{ℕ, ◌≤◌, List}
use Rattle.vs_rows.specs.Names.{IsKey, IsValue}
use Rattle.vs_rows.specs.declared.op.Op.{Op}
use Rattle.vs_rows.specs.declared.op.Op.TheVariants.{Get, Put, Insert, Delete, Swap, Count, Scan}

-- the keys and values are such, and scans ask for 1 to 100 rows
abbrev pub IsNamedOp : Op → Type 0
IsNamedOp (Get k) = IsKey k
IsNamedOp (Put k v) = IsKey k × IsValue v
IsNamedOp (Insert k v) = IsKey k × IsValue v
IsNamedOp (Delete k) = IsKey k
IsNamedOp (Swap k old new) = IsKey k × IsValue old × IsValue new
IsNamedOp Count = Unit {0}
IsNamedOp (Scan k n) = IsKey k × (1 ≤ n) × (n ≤ 100)

abbrev pub IsNamedRow : List ℕ × List ℕ → Type 0
IsNamedRow row = IsKey row.0 × IsValue row.1
