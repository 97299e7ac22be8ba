-- Changes of rows.
use Rattle.std.specs.Prelude.{ℕ, List, [], ◌∷◌, Option, Some, None}
use Rattle.std.specs.Option.{option_map_or}
use Rattle.vs_rows.specs.RowMap.{RowMap, with_value, without_key}

-- the map with one change: the key has this value, or goes where there is none
abbrev pub with_change : RowMap → List ℕ × Option (List ℕ) → RowMap
with_change m c = option_map_or (λ v. with_value m c.0 v) c.1 (without_key m c.0)

-- the map with changes, made one after the other
abbrev pub with_changes : RowMap → List (List ℕ × Option (List ℕ)) → RowMap
with_changes m [] = m
with_changes m (c ∷ cs) = with_changes (with_change m c) cs

-- the row that a change leaves, if any
abbrev pub row_of : List ℕ × Option (List ℕ) → RowMap
row_of (k, None) = []
row_of (k, Some v) = (k, v) ∷ []
