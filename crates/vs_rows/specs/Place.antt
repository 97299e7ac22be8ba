-- Where a key stands among rows that rise, or would stand.
use Rattle.std.specs.Prelude.{◌≡◌, ℕ, ◌+◌, ◌<◌, ◌≤◌, List, length, take, drop, Some, None, slice_index_or, slice_set, insert, remove}
use Rattle.vs_rows.specs.RowMap.{value_of, with_value, without_key, rows_below, rows_from, rows_above}

module _ {V : Type 0} where
  -- the key stands at this place
  pub record FoundAt (rows : List (List ℕ × V)) (key : List ℕ) (i : ℕ) : Type 0 where
    pub within : i < length rows
    pub get : (row : List ℕ × V) → row ≡ slice_index_or rows i row → value_of rows key ≡ Some row.1
    pub put : (row : List ℕ × V) (v : V) → row ≡ slice_index_or rows i row
        → with_value rows key v ≡ slice_set rows i (row.0, v)
    pub remove : without_key rows key ≡ remove rows i
    pub below : rows_below rows key ≡ take i rows
    pub from : rows_from rows key ≡ drop i rows
    pub above : rows_above rows (Some key) ≡ drop (i + 1) rows

  -- the key isn't there, and would stand at this place
  pub record MissingAt (rows : List (List ℕ × V)) (key : List ℕ) (i : ℕ) : Type 0 where
    pub within : i ≤ length rows
    pub get : value_of rows key ≡ None
    pub put : (v : V) → with_value rows key v ≡ insert rows i (key, v)
    pub remove : without_key rows key ≡ rows
    pub below : rows_below rows key ≡ take i rows
    pub from : rows_from rows key ≡ drop i rows
    pub above : rows_above rows (Some key) ≡ drop i rows
