-- Rows stay in the order of their keys.
use Rattle.std.proofs.Common.{ℕ, Bool, true, false, List, [], ◌∷◌, Option, Some, None}
use Rattle.std.specs.Prelude.{if◌then◌else◌}
use Rattle.std.specs.Option.{option_map_or}
use Rattle.vs_rows.specs.RowMap.{RowMap, IsRising, with_value, with_rows, value_of}
use Rattle.vs_rows.specs.Operations.{rows_after, row_map_after, is_same}
use Rattle.vs_rows.specs.declared.op.Op.{Op}
use Rattle.vs_rows.specs.declared.op.Op.TheVariants.{Get, Put, Insert, Delete, Swap, Count, Scan}
use Rattle.vs_rows.proofs.Rising.{rising_with, rising_without}

-- one map or the other
either : (m n : RowMap) (t : Bool) → IsRising m → IsRising n → IsRising (if t then m else n)
either m n true h g = h
either m n false h g = g

rising_one : (m : RowMap) (op : Op) → IsRising m → IsRising (row_map_after m op)
rising_one m (Get k) h = h
rising_one m (Put k v) h = rising_with m k v h
rising_one m (Insert k v) h = by_value (value_of m k)
  where
    by_value : (o : Option (List ℕ)) → IsRising (option_map_or (λ _. m) o (with_value m k v))
    by_value None = rising_with m k v h
    by_value (Some w) = h
rising_one m (Delete k) h = rising_without m k h
rising_one m (Swap k old new) h = by_value (value_of m k)
  where
    by_value : (o : Option (List ℕ)) → IsRising (option_map_or (λ v. if is_same v old then with_value m k new else m) o m)
    by_value None = h
    by_value (Some w) = either (with_value m k new) m (is_same w old) (rising_with m k new h) h
rising_one m Count h = h
rising_one m (Scan k n) h = h

pub rising_after : (m : RowMap) (ops : List Op) → IsRising m → IsRising (rows_after m ops)
rising_after m [] h = h
rising_after m (op ∷ ops) h = rising_after (row_map_after m op) ops (rising_one m op h)

pub rising_rows : (m rows : RowMap) → IsRising m → IsRising (with_rows m rows)
rising_rows m [] h = h
rising_rows m (row ∷ rows) h = rising_rows (with_value m row.0 row.1) rows (rising_with m row.0 row.1 h)
