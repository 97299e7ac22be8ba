-- Whether some transfer is a haul of an operator.
use Rattle.std.proofs.Common.{◌≡◌, ℕ, Bool, true, false, cond, List, [], ◌∷◌, length, Option, Some, None, refl, sym, ap, ◌∙◌, arith}
use Rattle.std.specs.Prelude.{◌==◌, ◌&&◌, ◌||◌, if◌then◌else◌}
use Rattle.std.specs.List.{list_any, AllByRecursion}
use Rattle.std.specs.Ordering.{nat_cmp, is_eq}
use Rattle.std.specs.declared.cmp.Ordering.TheVariants.{Less}
use Rattle.std.proofs.lemmas.Bool.Decides.{nat_tests}
use Rattle.vs_table.specs.Entries.{IsRising, value_of}
use Rattle.vs_machine.specs.Tables.{is_to}
use Rattle.vs_machine.specs.Kinds.Rebalancing.{is_haul_of}
use Rattle.vs_state.specs.declared.tables.SetTables.{SetTables}
use Rattle.vs_state.specs.Plain.{transfer_in}
use Rattle.vs_state.specs.Tables.{numbered}
use Rattle.vs_state.proofs.Counts.{any_to, any_same, any_none, any_or, any_at}
use Rattle.vs_state.proofs.Numbered.{any_counted}

same_key : (a b : ℕ) → is_eq (nat_cmp a b) ≡ (a == b)
same_key a b = grind (arith, nat_tests)

-- ---- a table's entries and its keys

module _ {V : Type 0} (q : Option V → Bool) (none : q None ≡ false) (n : ℕ) where
  not_among : (es : List (ℕ × V)) (k : ℕ) → AllByRecursion (λ later. nat_cmp k later.0 ≡ Less) es → value_of nat_cmp es k ≡ None
  not_among [] k later = refl
  not_among (e ∷ es) k later = ap (λ o. cond (is_eq o) (Some e.1) (value_of nat_cmp es k)) later.0 ∙ not_among es k later.1

  pub any_entry : (es : List (ℕ × V)) → IsRising nat_cmp es → any_to (λ b. q (value_of nat_cmp es b)) n ≡ list_any (λ e. is_to n e.0 && q (Some e.1)) es
  any_entry [] rising = any_same (λ b. q None) (λ b. false) n (λ b f l. none) ∙ any_none n
  any_entry (e ∷ es) rising =
      any_same (λ b. q (value_of nat_cmp (e ∷ es) b)) (λ b. if b == e.0 then q (Some e.1) else q (value_of nat_cmp es b)) n (λ b f l. at b (is_eq (nat_cmp b e.0)) (b == e.0) (same_key b e.0))
      ∙ any_at (λ b. q (value_of nat_cmp es b)) e.0 n (q (Some e.1)) (ap q (not_among es e.0 rising.0) ∙ none)
      ∙ ap (λ t. (is_to n e.0 && q (Some e.1)) || t) (any_entry es rising.1)
    where
      at : (b : ℕ) (s t : Bool) → s ≡ t → q (cond s (Some e.1) (value_of nat_cmp es b)) ≡ (if t then q (Some e.1) else q (value_of nat_cmp es b))
      at b true true is = refl
      at b true false is = absurd cc
      at b false true is = absurd cc
      at b false false is = refl

-- ---- sets and buckets

-- some set has one at some bucket where some bucket has one at some set
swapped : {A : Type 0} (q : A → ℕ → Bool) (n : ℕ) (ts : List A) → list_any (λ t. any_to (q t) n) ts ≡ any_to (λ b. list_any (λ t. q t b) ts) n
swapped q n [] = sym (any_none n)
swapped q n (t ∷ ts) =
    ap (λ c. any_to (q t) n || c) (swapped q n ts)
    ∙ sym (any_or (q t) (λ b. list_any (λ t. q t b) ts) n)

pub any_haul : (o n : ℕ) (ts : List SetTables) → list_any (λ t. any_to (λ b. is_haul_of o (transfer_in t b)) n) ts ≡ any_to (λ b. any_to (λ x. is_haul_of o (numbered (λ t. transfer_in t b) None ts x)) (length ts)) n
any_haul o n ts =
    swapped (λ t b. is_haul_of o (transfer_in t b)) n ts
    ∙ any_same (λ b. list_any (λ t. is_haul_of o (transfer_in t b)) ts) (λ b. any_to (λ x. is_haul_of o (numbered (λ t. transfer_in t b) None ts x)) (length ts)) n
    (λ b f l. any_counted (is_haul_of o) (λ t. transfer_in t b) None ts)
