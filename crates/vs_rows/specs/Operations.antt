-- What operations on a row map answer, and the row map that they leave.
use Rattle.std.specs.Prelude.{ℕ, Bool, List, [], ◌∷◌, length, take, nat_eq, if◌then◌else◌}
use Rattle.std.specs.Cmp.Lexicographic.{pointwise}
use Rattle.std.specs.Option.{option_map_or}
use Rattle.vs_rows.specs.RowMap.{RowMap, value_of, with_value, without_key, rows_from}
use Rattle.vs_rows.specs.Said.{Said, Value, NoValue, Done, Exists, Differs, Number, Pairs}
use Rattle.vs_rows.specs.declared.op.Op.{Op}
use Rattle.vs_rows.specs.declared.op.Op.TheVariants.{Get, Put, Insert, Delete, Swap, Count, Scan}

-- whether two values are the same
abbrev pub is_same : List ℕ → List ℕ → Bool
is_same = pointwise nat_eq

-- what one operation answers
abbrev pub answer_to : RowMap → Op → Said
answer_to m (Get k) = option_map_or Value (value_of m k) NoValue
answer_to m (Put k v) = Done
answer_to m (Insert k v) = option_map_or (λ _. Exists) (value_of m k) Done
answer_to m (Delete k) = option_map_or (λ _. Done) (value_of m k) NoValue
answer_to m (Swap k old new) =
    option_map_or (λ v. if is_same v old then Done else Differs) (value_of m k) NoValue
answer_to m Count = Number (length m)
answer_to m (Scan k n) = Pairs (take n (rows_from m k))

-- the row map that one operation leaves
abbrev pub row_map_after : RowMap → Op → RowMap
row_map_after m (Get k) = m
row_map_after m (Put k v) = with_value m k v
row_map_after m (Insert k v) = option_map_or (λ _. m) (value_of m k) (with_value m k v)
row_map_after m (Delete k) = without_key m k
row_map_after m (Swap k old new) =
    option_map_or (λ v. if is_same v old then with_value m k new else m) (value_of m k) m
row_map_after m Count = m
row_map_after m (Scan k n) = m

-- what operations answer, taken one after the other
abbrev pub answers_to : RowMap → List Op → List Said
answers_to m [] = []
answers_to m (op ∷ ops) = answer_to m op ∷ answers_to (row_map_after m op) ops

-- the row map that they leave
abbrev pub rows_after : RowMap → List Op → RowMap
rows_after m [] = m
rows_after m (op ∷ ops) = rows_after (row_map_after m op) ops
