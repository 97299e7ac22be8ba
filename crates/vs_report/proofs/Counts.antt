-- The number of entries of a kind, counted over the buckets of the cluster.
use Rattle.std.proofs.Common.{◌≡◌, ℕ, zero, suc, ◌+◌, ◌≤◌, Bool, true, false, List, [], ◌∷◌, Some, None, refl, sym, ap, subst, ◌∙◌, arith, inl, inr, zero-add}
use Rattle.std.specs.Prelude.{◌==◌, ◌≢◌, if◌then◌else◌}
use Rattle.std.proofs.lemmas.Bool.{cases_eq}
use Rattle.std.proofs.lemmas.Bool.Decides.{nat_tests}
use Rattle.std.proofs.lemmas.List.Sums.{sum_by-cons}
use Rattle.vs_space.specs.declared.status.Status.{Status}
use Rattle.vs_space.specs.declared.status.StatusKind.{StatusKind}
use Rattle.vs_space.specs.Status.{is_kind}
use Rattle.vs_space.specs.Entries.{RisesFrom, status_of, count_of}
use Rattle.vs_machine.specs.Tables.{count_to, is_to}
use Rattle.vs_machine.specs.Report.{is_kind_at}
use Rattle.vs_report.proofs.Entries.{none_before}

-- ---- counts of numbers

-- two tests that agree count the same
pub count_same : (p q : ℕ → Bool) (n : ℕ) → ((b : ℕ) → b ≤ n → p b ≡ q b) → count_to p n ≡ count_to q n
count_same p q zero same = refl
count_same p q (suc n) same = grind (arith, same (suc n), count_same p q n (λ b below. same b (omega arith)))

-- a test that passes one number more
count_one_more : (p q : ℕ → Bool) (m n : ℕ) → 1 ≤ m → m ≤ n → p m ≡ true → q m ≡ false → ((b : ℕ) → b ≢ m → p b ≡ q b)
    → count_to p n ≡ 1 + count_to q n
count_one_more p q m zero least most passes fails same = absurd (omega arith)
count_one_more p q m (suc n) least most passes fails same =
    elim (cases_eq m (suc n)) [
      | inl last ↦
          let front : count_to p n ≡ count_to q n = count_same p q n (λ b below. same b (λ e. omega arith)) in
          let here : p (suc n) ≡ true = subst (λ k. p k ≡ true) last passes in
          let not_there : q (suc n) ≡ false = subst (λ k. q k ≡ false) last fails in
          rw (front, here, not_there) (omega arith)
      | inr other ↦
          let front : count_to p n ≡ 1 + count_to q n = count_one_more p q m n least (omega arith) passes fails same in
          let here : p (suc n) ≡ q (suc n) = same (suc n) (λ e. other (sym e)) in
          rw (front, here) (omega arith)
    ]

-- ---- counts of entries

count_none : (p : ℕ → Bool) (n : ℕ) → ((b : ℕ) → p b ≡ false) → count_to p n ≡ 0
count_none p zero fails = refl
count_none p (suc n) fails = rw (count_none p n fails, fails (suc n)) refl

module _ (kind : StatusKind) (e : ℕ × Status) (es : List (ℕ × Status)) (low : ℕ) (rises : RisesFrom low (e ∷ es)) where
  first_kind : is_kind_at kind (status_of (e ∷ es) e.0) ≡ is_kind kind e.1
  first_kind = grind (arith, nat_tests)

  no_second : is_kind_at kind (status_of es e.0) ≡ false
  no_second = ap (is_kind_at kind) (none_before es (e.0 + 1) e.0 (omega arith) rises.2)

  other_kinds : (b : ℕ) → b ≢ e.0 → is_kind_at kind (status_of (e ∷ es) b) ≡ is_kind_at kind (status_of es b)
  other_kinds b other = grind (arith, nat_tests, other)

  count_first : (n : ℕ) → 1 ≤ e.0 → e.0 ≤ n → count_to (λ b. is_kind_at kind (status_of (e ∷ es) b)) n ≡ (if is_kind kind e.1 then 1 else 0) + count_to (λ b. is_kind_at kind (status_of es b)) n
  count_first n least most = by (is_kind kind e.1) refl
    where
      by : (t : Bool) → is_kind kind e.1 ≡ t → count_to (λ b. is_kind_at kind (status_of (e ∷ es) b)) n ≡ (if t then 1 else 0) + count_to (λ b. is_kind_at kind (status_of es b)) n
      by true is = count_one_more _ _ e.0 n least most (first_kind ∙ is) no_second other_kinds
      by false is =
          count_same _ _ n (λ b below. elim (cases_eq b e.0) [
            | inl same ↦ subst (λ k. is_kind_at kind (status_of (e ∷ es) k) ≡ is_kind_at kind (status_of es k)) (sym same) (first_kind ∙ is ∙ sym no_second)
            | inr other ↦ other_kinds b other
          ]) ∙ sym (zero-add _)

-- the entries of a kind are the buckets that have a status of it
pub count_is : (kind : StatusKind) (es : List (ℕ × Status)) (low n : ℕ) → 1 ≤ low → RisesFrom low es → ((b : ℕ) → status_of es b ≢ None → is_to n b ≡ true)
    → count_to (λ b. is_kind_at kind (status_of es b)) n ≡ count_of kind es
count_is kind [] low n least rises within = count_none (λ b. is_kind_at kind None) n (λ b. refl)
count_is kind (e ∷ es) low n least rises within =
    count_first kind e es low rises n (omega (arith, rises.0)) here
    ∙ ap (λ k. (if is_kind kind e.1 then 1 else 0) + k) (count_is kind es (e.0 + 1) n (omega arith) rises.2 later)
    ∙ sym (sum_by-cons (λ (d : ℕ × Status). if is_kind kind d.1 then 1 else 0) e es)
  where
    some_first : status_of (e ∷ es) e.0 ≡ Some e.1
    some_first = grind (arith, nat_tests)

    here : e.0 ≤ n
    here = let is : is_to n e.0 ≡ true = within e.0 (λ none. absurd (cc (some_first, none))) in grind (arith, nat_tests, is)

    later : (b : ℕ) → status_of es b ≢ None → is_to n b ≡ true
    later b some = within b (by (e.0 == b))
      where
        by : (t : Bool) → (if t then Some e.1 else status_of es b) ≢ None
        by true none = absurd (cc none)
        by false none = some none
