-- A loop over a list that makes another item of each.
use Rattle.std.proofs.Common.{◌≡◌, ℕ, zero, suc, ◌+◌, ◌<◌, ◌≤◌, ◌==◌, Bool, true, false, List, length, get_or, refl, sym, ap, ◌∙◌, arith}
use Rattle.std.specs.Prelude.{slice_set, nat_le, if◌then◌else◌}
use Rattle.std.specs.Option.{option_map_or}
use Rattle.std.proofs.lemmas.Option.{slice_get-get_or, slice_get_past}
use Rattle.std.proofs.lemmas.Bool.{eqb-true}
use Rattle.std.proofs.lemmas.Bool.Decides.{nat_tests}
use Rattle.vs_state.specs.Tables.{numbered}
use Rattle.vs_core.proofs.Numbered.{numbered_set}

-- up to the number n each item became what f makes of it, and those behind are as they were
abbrev pub AreMade : {A B : Type 0} → (A → B) → B → (B → B) → List A → List A → ℕ → Type 0
AreMade view d f old new n = (q : ℕ) → numbered view d new q ≡ (if nat_le q n then f (numbered view d old q) else numbered view d old q)

-- what is set is found
pub there : {A B : Type 0} (view : A → B) (d : B) (items : List A) (n : ℕ) (t : A) → n < length items → t ≡ get_or items n t → numbered view d items (suc n) ≡ view t
there view d items n t within is = ap (λ o. option_map_or view o d) (slice_get-get_or items n t within) ∙ ap view (sym is)

-- behind the list nothing stands
pub past : {A B : Type 0} (view : A → B) (d : B) (items : List A) (q : ℕ) → length items < q → numbered view d items q ≡ d
past view d items zero behind = absurd (omega (arith, behind))
past view d items (suc k) behind = ap (λ o. option_map_or view o d) (slice_get_past items k (omega (arith, behind)))

module _ {A B : Type 0} (view : A → B) (d : B) (f : B → B) where
  pub none_made : (items : List A) → f d ≡ d → AreMade view d f items items 0
  none_made items same q = by q (nat_le q 0) refl
    where
      by : (q : ℕ) (e : Bool) → nat_le q 0 ≡ e → numbered view d items q ≡ (if e then f (numbered view d items q) else numbered view d items q)
      by zero true e = sym same
      by zero false e = refl
      by (suc k) true e = absurd (grind (arith, nat_tests, e))
      by (suc k) false e = refl

  pub one_made : (old new : List A) (n : ℕ) (t u : A) → n < length new → t ≡ get_or new n t → view u ≡ f (view t) → AreMade view d f old new n → AreMade view d f old (slice_set new n u) (n + 1)
  one_made old new n t u within is becomes made q = ap (λ g. g q) (numbered_set view d new n u within) ∙ by (q == suc n) refl
    where
      by : (e : Bool) → (q == suc n) ≡ e → (if e then view u else numbered view d new q) ≡ (if nat_le q (n + 1) then f (numbered view d old q) else numbered view d old q)
      by true e =
          let at : q ≡ suc n = eqb-true q (suc n) e in
          let later : nat_le (suc n) n ≡ false = grind (arith, nat_tests) in
          let now : nat_le q (n + 1) ≡ true = grind (arith, nat_tests, at) in
          becomes
          ∙ ap f (sym (there view d new n t within is) ∙ made (suc n) ∙ ap (λ b. if b then f (numbered view d old (suc n)) else numbered view d old (suc n)) later ∙ ap (numbered view d old) (sym at))
          ∙ ap (λ b. if b then f (numbered view d old q) else numbered view d old q) (sym now)
      by false e =
          let same : nat_le q n ≡ nat_le q (n + 1) = grind (arith, nat_tests, e) in
          made q ∙ ap (λ b. if b then f (numbered view d old q) else numbered view d old q) same

  pub all_made : (old new : List A) (n : ℕ) → f d ≡ d → length old ≤ n → AreMade view d f old new n → (q : ℕ) → numbered view d new q ≡ f (numbered view d old q)
  all_made old new n same whole made q = made q ∙ by (nat_le q n) refl
    where
      by : (e : Bool) → nat_le q n ≡ e → (if e then f (numbered view d old q) else numbered view d old q) ≡ f (numbered view d old q)
      by true e = refl
      by false e =
          let behind : length old < q = grind (arith, nat_tests, e, whole) in
          past view d old q behind ∙ sym same ∙ ap f (sym (past view d old q behind))
