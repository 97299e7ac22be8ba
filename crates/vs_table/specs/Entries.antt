-- A map as the list of its entries, which rise by key.
use Rattle.std.specs.Prelude.{◌≡◌, List, [], ◌∷◌, if◌then◌else◌, Option}
use Rattle.std.specs.declared.cmp.Ordering.{Ordering}
use Rattle.std.specs.declared.cmp.Ordering.TheVariants.{Less}
use Rattle.std.specs.Ordering.{is_eq, is_lt}
use Rattle.std.specs.List.{find, AllByRecursion}
use Rattle.std.specs.Map.{lookup, remove_entry}
use Rattle.std.specs.BTreeMap.{is_at, insert_entry}

module _ {K V : Type 0} (cmp : K → K → Ordering) where
  -- each key is below those after it, so none comes twice
  abbrev pub IsRising : List (K × V) → Type 0
  IsRising [] = Unit {0}
  IsRising (entry ∷ entries) =
      AllByRecursion (λ later. cmp entry.0 later.0 ≡ Less) entries × IsRising entries

  -- the value at the key
  abbrev pub value_of : List (K × V) → K → Option V
  value_of entries key = lookup (is_at (cmp key)) entries

  -- the entries with this value at the key
  abbrev pub with_value : List (K × V) → K → V → List (K × V)
  with_value entries key value = insert_entry cmp entries key value

  -- the entries without that of the key
  abbrev pub without_key : List (K × V) → K → List (K × V)
  without_key entries key = remove_entry (is_at (cmp key)) entries

  -- the first entry whose key is above this one
  abbrev pub entry_above : List (K × V) → K → Option (K × V)
  entry_above entries key = find (λ entry. is_lt (cmp key entry.0)) entries

  -- the new map has this at the key, and at every other key what the old one has
  abbrev pub Updates : List (K × V) → List (K × V) → K → Option V → Type 0
  Updates old new key value =
      (q : K) → value_of new q ≡ (if is_eq (cmp key q) then value else value_of old q)
