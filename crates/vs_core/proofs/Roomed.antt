-- What holds of the items of a list, one after the other.
use Rattle.std.proofs.Common.{◌≡◌, ℕ, zero, suc, ◌+◌, ◌<◌, ◌≤◌, ◌==◌, Bool, true, false, List, length, Some, None, refl, sym, ap, subst, ◌∙◌, arith}
use Rattle.std.specs.Prelude.{slice_set, nat_le, if◌then◌else◌}
use Rattle.std.proofs.lemmas.Bool.Decides.{nat_tests}
use Rattle.vs_state.specs.Tables.{numbered}
use Rattle.vs_core.proofs.Made.{past}
use Rattle.vs_core.proofs.Numbered.{numbered_set}

module _ {A : Type 0} (P : A → Type 0) where
  -- it holds of the items up to the number n
  abbrev pub HoldsTo : List A → ℕ → Type 0
  HoldsTo items n = (o : ℕ) → o ≤ n → (t : A) → numbered Some None items o ≡ Some t → P t

  pub holds_of_none : (items : List A) → HoldsTo items 0
  holds_of_none items o below t is = absurd (at o below is)
    where
      at : (o : ℕ) → o ≤ 0 → numbered Some None items o ≡ Some t → ⊥
      at zero below is = cc is
      at (suc k) below is = omega (arith, below)

  pub holds_of_next : (items : List A) (n : ℕ) (u : A) → n < length items → P u → HoldsTo items n → HoldsTo (slice_set items n u) (n + 1)
  holds_of_next items n u within here before o below t is = by (o == suc n) refl (sym (ap (λ g. g o) (numbered_set Some None items n u within)) ∙ is)
    where
      by : (e : Bool) → (o == suc n) ≡ e → (if e then Some u else numbered Some None items o) ≡ Some t → P t
      by true e is = let same : u ≡ t = cc is in subst P same here
      by false e is = before o (grind (arith, nat_tests, e, below)) t is

  pub holds_of_all : (items : List A) (n : ℕ) → length items ≤ n → HoldsTo items n → (o : ℕ) (t : A) → numbered Some None items o ≡ Some t → P t
  holds_of_all items n whole holds o t is = by (nat_le o n) refl
    where
      by : (e : Bool) → nat_le o n ≡ e → P t
      by true e = holds o (grind (arith, nat_tests, e)) t is
      by false e =
          let behind : length items < o = grind (arith, nat_tests, e, whole) in
          absurd (cc (past Some None items o behind, is))
