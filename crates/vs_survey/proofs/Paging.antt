-- A page of the numbers that pass a test.
use Rattle.std.proofs.Common.{inl, inr, ◌≡◌, ℕ, zero, suc, ◌<◌, ◌≤◌, Bool, true, false, cond, refl, sym, ap, subst, ◌∙◌, arith, List, [], ◌∷◌, ◌++◌, length}
use Rattle.std.specs.Prelude.{◌⊎◌, take}
use Rattle.std.specs.List.{filter}
use Rattle.std.proofs.lemmas.List.{length-append, take_all, take-append-le}
use Rattle.std.proofs.lemmas.List.Elements.{filter-append}
use Rattle.vs_machine.specs.Tables.{list_to}

-- the numbers from 1 to n that pass
abbrev pub passing : (ℕ → Bool) → ℕ → List ℕ
passing p n = filter p (list_to (λ b. b) n)

-- a page so far, which has the numbers to m that pass
pub record Listed (p : ℕ → Bool) (m : ℕ) (ids : List ℕ) : Type 0 where
  pub is : ids ≡ passing p m
  pub few : length ids ≤ 1000

module _ (p : ℕ → Bool) where
  -- one number further
  further : (m : ℕ) → passing p (suc m) ≡ passing p m ++ (cond (p (suc m)) (suc m ∷ []) [])
  further m = filter-append p (list_to (λ b. b) m) (suc m ∷ [])

  pub starts : Listed p 0 []
  starts = record { is = refl; few = omega arith }

  pub goes_on : (m : ℕ) (ids : List ℕ) → Listed p m ids → p (suc m) ≡ true → length ids < 1000 → Listed p (suc m) (ids ++ suc m ∷ [])
  goes_on m ids h yea less = record {
    is = ap (λ xs. xs ++ suc m ∷ []) h.is ∙ ap (λ (t : Bool). passing p m ++ (cond t (suc m ∷ []) [])) (sym yea) ∙ sym (further m);
    few = omega (arith, length-append ids (suc m ∷ []), less);
  }

  append_none : (xs : List ℕ) → xs ≡ xs ++ []
  append_none [] = refl
  append_none (x ∷ xs) = ap (λ ys. x ∷ ys) (append_none xs)

  pub passes_over : (m : ℕ) (ids : List ℕ) → Listed p m ids → p (suc m) ≡ false → Listed p (suc m) ids
  passes_over m ids h nay = record {
    is = h.is ∙ append_none (passing p m) ∙ ap (λ (t : Bool). passing p m ++ (cond t (suc m ∷ []) [])) (sym nay) ∙ sym (further m);
    few = h.few;
  }

  pub ends : (n : ℕ) (ids : List ℕ) → Listed p n ids → ids ≡ take 1000 (passing p n)
  ends n ids h = sym (take_all 1000 ids h.few) ∙ ap (take 1000) h.is

  last_or : (m n : ℕ) → m ≤ suc n → (m ≡ suc n) ⊎ (m ≤ n)
  last_or m n h = grind arith

  -- what comes after a full page isn't in it
  record Filled (m n : ℕ) : Type 0 where
    enough : 1000 ≤ length (passing p n)
    same : take 1000 (passing p n) ≡ take 1000 (passing p m)

  filled : (m n : ℕ) → m ≤ n → 1000 ≤ length (passing p m) → Filled m n
  filled m zero within full =
      let none : m ≡ 0 = omega arith in
      subst (λ n. Filled m n) none (record { enough = full; same = refl })
  filled m (suc n) within full = by (last_or m n within) (λ l. filled m n l full)
    where
      by : (m ≡ suc n) ⊎ (m ≤ n) → (m ≤ n → Filled m n) → Filled m (suc n)
      by (inl same) before = subst (λ n. Filled m n) same (record { enough = full; same = refl })
      by (inr l) before =
          let was = before l in
          let more : List ℕ = cond (p (suc n)) (suc n ∷ []) [] in
          record {
            enough = subst (λ xs. 1000 ≤ length xs) (sym (further n)) (omega (arith, length-append (passing p n) more, was.enough));
            same = ap (take 1000) (further n) ∙ take-append-le 1000 (passing p n) more was.enough ∙ was.same;
          }

  pub is_full : (m n : ℕ) (ids : List ℕ) → Listed p m ids → m ≤ n → length ids ≡ 1000 → ids ≡ take 1000 (passing p n)
  is_full m n ids h within full =
      let enough : 1000 ≤ length (passing p m) = omega (arith, ap length h.is, full) in
      ends m ids h ∙ sym (filled m n within enough).same
