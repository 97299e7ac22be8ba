-- A table of the document, as its map has it, and as its members.
use Rattle.std.proofs.Common.{◌≡◌, ℕ, List, Option, String, Global, option_map, string_bytes, nat_cmp, Bor, refl, ap, Bool, false, not, ◌||◌, [], ◌∷◌, Some, None}
use Rattle.std.specs.Cmp.Lexicographic.{slice_cmp}
use Rattle.std.specs.List.{list_any}
use Rattle.std.specs.Map.{lookup, keys_of}
use Rattle.std.specs.BTreeMap.{is_at}
use Rattle.std.specs.Str.{bytes_eq}
use Rattle.toml.specs.declared.value.Value.{Value}
use Rattle.toml.specs.Data.{get_member}
use Rattle.toml.specs.View.{view, members_view}
use Rattle.toml.proofs.Views.{table_get}
use Rattle.vs_config.specs.Key.{name_of}
use Rattle.vs_config.specs.Reading.{has_other_key, bad, or_bad}
use Rattle.vs_config.specs.declared.key.ConfigKey.{ConfigKey}
use Rattle.vs_config.specs.declared.key.ConfigKey.TheVariants.{Uuid}
use Rattle.vs_config.specs.declared.fault.ConfigKind.TheVariants.{BadUuid}

pub found : (r : Option (Bor Value)) (k : List ℕ) (es : List (String Global × Value)) → option_map (λ x. x.now) r ≡ lookup (is_at (λ x. slice_cmp nat_cmp k (string_bytes x))) es → option_map (λ x. view x.now) r ≡ get_member k (members_view es)
found = table_get

-- some key of the list is none of these
abbrev pub others : List ConfigKey → List (String Global) → Bool
others keys [] = false
others keys (k ∷ ks) = not (list_any (λ key. bytes_eq (string_bytes k) (name_of key)) keys) || others keys ks

pub others_view : (keys : List ConfigKey) (es : List (String Global × Value)) → others keys (keys_of es) ≡ has_other_key keys (members_view es)
others_view keys [] = refl
others_view keys (e ∷ es) = ap (λ b. not (list_any (λ key. bytes_eq (string_bytes e.0) (name_of key)) keys) || b) (others_view keys es)

-- a text that no uuid is parsed from is a bad one
pub bad_uuid : (o : Option (List ℕ)) (set : ℕ) → ((u : List ℕ) → o ≡ Some u → ⊥) → bad BadUuid set Uuid ≡ or_bad o BadUuid set Uuid
bad_uuid None set h = refl
bad_uuid (Some u) set h = absurd (h u refl)
