-- Lists that stand for the same, item by item.
use Rattle.std.proofs.Common.{◌≡◌, ⊎_elim, ℕ, zero, suc, ◌+◌, ◌<◌, ◌≤◌, Bool, true, false, nat_eq, List, [], ◌∷◌, length, map, get_or, Option, Some, None, Decides, refl, ap, sym, subst, ◌∙◌, arith}
use Rattle.std.specs.Prelude.{slice_get}
use Rattle.std.specs.Option.{option_map}
use Rattle.std.proofs.lemmas.Bool.{cases_eq, false≢true}
use Rattle.std.proofs.lemmas.Bool.Decides.{Decides-eqb}
use Rattle.std.proofs.lemmas.Option.{slice_get_read}

module _ {A B : Type 0} (f : A → B) where
  -- what stands at a place of a list
  abbrev pub at_place : List A → ℕ → Option B
  at_place xs k = option_map f (slice_get xs k)

  -- what stands below a place is the same in both
  abbrev pub AreSameBelow : ℕ → List A → List A → Type 0
  AreSameBelow i xs ys = (k : ℕ) → k < i → at_place xs k ≡ at_place ys k

  -- lists of one length that have the same at each place
  pub same_all : (xs ys : List A) → length xs ≡ length ys → AreSameBelow (length xs) xs ys → map f xs ≡ map f ys
  same_all [] [] n each = refl
  same_all (x ∷ xs) (y ∷ ys) n each =
      let head : Some (f x) ≡ Some (f y) = each 0 (omega arith) in
      let first : f x ≡ f y = cc in
      let rest = same_all xs ys (omega (arith, n)) (λ k lt. each (suc k) (omega (arith, lt))) in
      λ i. first i ∷ rest i
  same_all [] (y ∷ ys) n each = absurd (omega (arith, n))
  same_all (x ∷ xs) [] n each = absurd (omega (arith, n))

  -- and the other way
  pub same_at : (xs ys : List A) → map f xs ≡ map f ys → (k : ℕ) → at_place xs k ≡ at_place ys k
  same_at [] [] e k = refl
  same_at (x ∷ xs) (y ∷ ys) e zero = let first : f x ≡ f y = cc in ap Some first
  same_at (x ∷ xs) (y ∷ ys) e (suc k) = let rest : map f xs ≡ map f ys = cc in same_at xs ys rest k
  same_at [] (y ∷ ys) e k = cc
  same_at (x ∷ xs) [] e k = cc

  pub same_length : (xs ys : List A) → map f xs ≡ map f ys → length xs ≡ length ys
  same_length [] [] e = refl
  same_length (x ∷ xs) (y ∷ ys) e = let rest : map f xs ≡ map f ys = cc in omega (arith, same_length xs ys rest)
  same_length [] (y ∷ ys) e = cc
  same_length (x ∷ xs) [] e = cc

  module _ (xs ys items : List A) (i : ℕ) (items_are : items ≡ xs) where
    -- two items are compared
    module _ (x y : A) (r : Bool) (lt : i < length items) (here : x ≡ get_or items i x) (there : Some y ≡ slice_get ys i) (test : Decides r (f x ≡ f y)) where
      at_both : slice_get xs i ≡ Some x
      at_both = ap (λ (l : List A). slice_get l i) (sym items_are) ∙ slice_get_read items (length items) i x refl lt here

      pub differ : r ≡ false → Decides false (map f xs ≡ map f ys)
      differ other = (
        λ is. absurd (false≢true is),
        λ same.
            let both : Some (f x) ≡ Some (f y) = sym (ap (option_map f) at_both) ∙ same_at xs ys same i ∙ sym (ap (option_map f) there) in
            let one : f x ≡ f y = cc in
            sym other ∙ test.1 one,
      )

      pub one_more : r ≡ true → AreSameBelow i xs ys → AreSameBelow (i + 1) xs ys
      one_more is_so below k lt' = ⊎_elim new (λ ne. below k (omega (arith, lt', ne))) (cases_eq k i)
        where
          new : k ≡ i → at_place xs k ≡ at_place ys k
          new is = subst (λ (n : ℕ). at_place xs n ≡ at_place ys n) (sym is) (ap (option_map f) at_both ∙ ap Some (test.0 is_so) ∙ ap (option_map f) there)

    -- nothing stands there in the other list
    pub none_there : (x : A) → i < length items → x ≡ get_or items i x → None ≡ slice_get ys i → Decides false (map f xs ≡ map f ys)
    none_there x lt here there = (
      λ is. absurd (false≢true is),
      λ same.
          let at : slice_get xs i ≡ Some x = ap (λ (l : List A). slice_get l i) (sym items_are) ∙ slice_get_read items (length items) i x refl lt here in
          let both : Some (f x) ≡ None = sym (ap (option_map f) at) ∙ same_at xs ys same i ∙ sym (ap (option_map f) there) in
          cc,
    )

    -- all were compared
    pub all_same : (m n : ℕ) → length items ≤ i → m ≡ length xs → n ≡ length ys → AreSameBelow i xs ys → Decides (nat_eq m n) (map f xs ≡ map f ys)
    all_same m n past m_is n_is below = (
      λ is. same_all xs ys (sym m_is ∙ (Decides-eqb m n).0 is ∙ n_is) (λ k lt. below k (omega (arith, lt, past, ap length items_are))),
      λ same. (Decides-eqb m n).1 (m_is ∙ same_length xs ys same ∙ sym n_is),
    )
