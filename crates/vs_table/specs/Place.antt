-- Where a key stands among entries that rise, or where it would stand.
use Rattle.std.specs.Prelude.{◌≡◌, ℕ, ◌+◌, ◌<◌, ◌≤◌, List, Some, None, slice_get, slice_index_or, slice_set, length}
use Rattle.std.specs.declared.cmp.Ordering.{Ordering}
use Rattle.std.specs.List.{insert, remove}
use Rattle.vs_table.specs.Entries.{value_of, with_value, without_key, entry_above}

module _ {K V : Type 0} (cmp : K → K → Ordering) where
  -- the key's entry stands at i
  pub record FoundAt (entries : List (K × V)) (key : K) (i : ℕ) : Type 0 where
    pub in_range : i < length entries
    pub value : (e : K × V) → e ≡ slice_index_or entries i e → value_of cmp entries key ≡ Some e.1
    pub put : (e : K × V) (v : V) → e ≡ slice_index_or entries i e →
        with_value cmp entries key v ≡ slice_set entries i (e.0, v)
    pub taken : without_key cmp entries key ≡ remove entries i
    pub above : entry_above cmp entries key ≡ slice_get entries (i + 1)

  -- no entry has the key, and one would stand at i
  pub record MissingAt (entries : List (K × V)) (key : K) (i : ℕ) : Type 0 where
    pub in_range : i ≤ length entries
    pub value : value_of cmp entries key ≡ None
    pub put : (v : V) → with_value cmp entries key v ≡ insert entries i (key, v)
    pub taken : without_key cmp entries key ≡ entries
    pub above : entry_above cmp entries key ≡ slice_get entries i
