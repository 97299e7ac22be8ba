-- The rows of a bucket: a map from keys to values.
use Rattle.std.specs.Prelude.{◌≡◌, ℕ, not, List, [], ◌∷◌, Option, Some, None, filter}
use Rattle.std.specs.List.{AllByRecursion}
use Rattle.std.specs.declared.cmp.Ordering.{Ordering}
use Rattle.std.specs.declared.cmp.Ordering.TheVariants.{Less}
use Rattle.std.specs.Ordering.{nat_cmp, is_lt, is_gt}
use Rattle.std.specs.Cmp.Lexicographic.{slice_cmp}
use Rattle.std.specs.Map.{lookup, remove_entry}
use Rattle.std.specs.BTreeMap.{is_at, insert_entry}

-- pairs of a key and a value
abbrev pub RowMap : Type 0
RowMap = List (List ℕ × List ℕ)

-- keys are compared byte by byte
abbrev pub key_cmp : List ℕ → List ℕ → Ordering
key_cmp = slice_cmp nat_cmp

module _ {V : Type 0} where
  -- the keys rise, so none stands twice
  abbrev pub IsRising : List (List ℕ × V) → Type 0
  IsRising [] = Unit {0}
  IsRising (row ∷ rows) =
      AllByRecursion (λ later. key_cmp row.0 later.0 ≡ Less) rows × IsRising rows

  -- the value of a key, if it is there
  abbrev pub value_of : List (List ℕ × V) → List ℕ → Option V
  value_of m k = lookup (is_at (key_cmp k)) m

  -- the map with this value at the key
  abbrev pub with_value : List (List ℕ × V) → List ℕ → V → List (List ℕ × V)
  with_value m k v = insert_entry key_cmp m k v

  -- the map without the key
  abbrev pub without_key : List (List ℕ × V) → List ℕ → List (List ℕ × V)
  without_key m k = remove_entry (is_at (key_cmp k)) m

  -- the map with the values of these rows, set one after the other
  abbrev pub with_rows : List (List ℕ × V) → List (List ℕ × V) → List (List ℕ × V)
  with_rows m [] = m
  with_rows m (row ∷ rows) = with_rows (with_value m row.0 row.1) rows

  -- the rows whose key is below this one
  abbrev pub rows_below : List (List ℕ × V) → List ℕ → List (List ℕ × V)
  rows_below m k = filter (λ row. is_lt (key_cmp row.0 k)) m

  -- the rows whose key isn't below this one
  abbrev pub rows_from : List (List ℕ × V) → List ℕ → List (List ℕ × V)
  rows_from m k = filter (λ row. not (is_lt (key_cmp row.0 k))) m

  -- the rows whose key is above this one; all rows, where there is none
  abbrev pub rows_above : List (List ℕ × V) → Option (List ℕ) → List (List ℕ × V)
  rows_above m None = m
  rows_above m (Some k) = filter (λ row. is_gt (key_cmp row.0 k)) m
