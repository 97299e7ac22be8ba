-- Where no entry stands.
use Rattle.std.proofs.Common.{◌≡◌, ℕ, zero, suc, ◌+◌, ◌<◌, List, [], ◌∷◌, Option, Some, None, refl, subst, arith, inl, inr}
use Rattle.std.specs.Prelude.{All, slice_get}
use Rattle.std.specs.List.{flat_map}
use Rattle.std.specs.Option.{option_map_or}
use Rattle.std.proofs.lemmas.Bool.{cases_lt}
use Rattle.std.proofs.lemmas.Bool.Decides.{nat_tests}
use Rattle.std.proofs.lemmas.Option.{slice_get_within, get_or_from_slice_get}
use Rattle.vs_base.specs.Numbers.{IsBucketId}
use Rattle.vs_space.specs.declared.status.Status.{Status}
use Rattle.vs_space.specs.Entries.{RisesFrom, status_of}
use Rattle.vs_machine.specs.Report.{entry_text}
use Rattle.vs_state.specs.declared.tables.SetTables.{SetTables}
use Rattle.vs_state.specs.Plain.{entry_in}
use Rattle.vs_state.specs.Tables.{numbered}

-- no entry of a bucket stands among those of later ones
pub none_before : (es : List (ℕ × Status)) (low b : ℕ) → b < low → RisesFrom low es → status_of es b ≡ None
none_before [] low b before rises = refl
none_before (e ∷ es) low b before rises =
    let later : status_of es b ≡ None = none_before es (e.0 + 1) b (omega (arith, rises.0)) rises.2 in
    grind (arith, nat_tests, later, rises.0)

none_above : (es : List (ℕ × Status)) (low b : ℕ) → 30000 < b → RisesFrom low es → status_of es b ≡ None
none_above [] low b above rises = refl
none_above (e ∷ es) low b above rises =
    let later : status_of es b ≡ None = none_above es (e.0 + 1) b above rises.2 in
    grind (arith, nat_tests, later, rises.1)

-- a number that no bucket can have has no entry
none_elsewhere : (es : List (ℕ × Status)) (b : ℕ) → ¬ (IsBucketId b) → RisesFrom 1 es → status_of es b ≡ None
none_elsewhere es b outside rises =
    elim (cases_lt b 1) [
      | inl below ↦ none_before es 1 b below rises
      | inr least ↦ elim (cases_lt 30000 b) [ inl above ↦ none_above es 1 b above rises | inr most ↦ absurd (outside (omega arith, omega arith)) ]
    ]

-- no set has an entry at a number that no bucket can have
none_at : (sets : List SetTables) (b x : ℕ) → All (λ t. RisesFrom 1 t.space.entries) sets → ¬ (IsBucketId b) → numbered (λ t. entry_in t b) None sets x ≡ None
none_at sets b zero order outside = refl
none_at sets b (suc k) order outside = by (slice_get sets k) refl
  where
    by : (o : Option SetTables) → slice_get sets k ≡ o → option_map_or (λ t. entry_in t b) o None ≡ None
    by None is = refl
    by (Some t) is =
        none_elsewhere t.space.entries b outside
        (subst (λ (u : SetTables). RisesFrom 1 u.space.entries) (get_or_from_slice_get sets k t t is) (order k t (slice_get_within sets k t is)))

pub no_entries : (sets : List SetTables) (b : ℕ) (xs : List ℕ) → All (λ t. RisesFrom 1 t.space.entries) sets → ¬ (IsBucketId b)
    → flat_map (λ x. entry_text x (numbered (λ t. entry_in t b) None sets x)) xs ≡ []
no_entries sets b [] order outside = refl
no_entries sets b (x ∷ xs) order outside = rw (none_at sets b x order outside) (no_entries sets b xs order outside)
