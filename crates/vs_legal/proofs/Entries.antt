-- The entries of an account, against those of the cluster.
use Rattle.std.proofs.Common.{◌≡◌, ◌<◌, ℕ, zero, suc, ◌+◌, Bool, true, false, List, [], ◌∷◌, ◌++◌, take, Some, refl, ap, ◌∙◌, subst, arith}
use Rattle.std.specs.Prelude.{slice_get, filter}
use Rattle.std.specs.List.{list_any}
use Rattle.std.proofs.lemmas.Bool.{false_from_ne_true}
use Rattle.vs_history.specs.History as history
use Rattle.vs_audit.specs.Account.{Entry}
use Rattle.vs_legal.specs.Account.{entry_at, entries_from}
use Rattle.vs_legal.proofs.Histories.{IsOf, entry_is_of}

-- an entry among writes and reads
pub both_are_of : (l m : ℕ) (ws rs : List history.Entry) (n : ℕ) (e : Entry) → slice_get (entries_from l ws ++ entries_from m rs) n ≡ Some e → (h : history.Entry) × (slice_get (ws ++ rs) n ≡ Some h) × IsOf e h
both_are_of l m [] rs n e at = entry_is_of m rs n e at
both_are_of l m (x ∷ ws) rs zero e at =
    let same : entry_at l x ≡ e = cc at in
    (x, refl, subst (λ (e : Entry). IsOf e x) same (record { id = refl; ops = refl; answers = refl; place = refl }))
both_are_of l m (x ∷ ws) rs (suc n) e at = both_are_of (l + 1) m ws rs n e at

-- and the other way round
pub entry_there : (l : ℕ) (es : List history.Entry) (n : ℕ) (h : history.Entry) → slice_get es n ≡ Some h → (e : Entry) × (slice_get (entries_from l es) n ≡ Some e) × IsOf e h
entry_there l [] zero h at = let no : ⊥ = cc at in absurd no
entry_there l [] (suc n) h at = let no : ⊥ = cc at in absurd no
entry_there l (x ∷ es) zero h at =
    let same : x ≡ h = cc at in
    (entry_at l x, refl, subst (λ (h : history.Entry). IsOf (entry_at l x) h) same (record { id = refl; ops = refl; answers = refl; place = refl }))
entry_there l (x ∷ es) (suc n) h at = entry_there (l + 1) es n h at

pub both_there : (l m : ℕ) (ws rs : List history.Entry) (n : ℕ) (h : history.Entry) → slice_get (ws ++ rs) n ≡ Some h → (e : Entry) × (slice_get (entries_from l ws ++ entries_from m rs) n ≡ Some e) × IsOf e h
both_there l m [] rs n h at = entry_there m rs n h at
both_there l m (x ∷ ws) rs zero h at =
    let same : x ≡ h = cc at in
    (entry_at l x, refl, subst (λ (h : history.Entry). IsOf (entry_at l x) h) same (record { id = refl; ops = refl; answers = refl; place = refl }))
both_there l m (x ∷ ws) rs (suc n) h at = both_there (l + 1) m ws rs n h at

-- ---- lists

module _ {A : Type 0} where
  -- what passes among the first
  pub any_at : (p : A → Bool) (xs : List A) (n : ℕ) → list_any p (take n xs) ≡ true → (m : ℕ) × (x : A) × (m < n) × (slice_get xs m ≡ Some x) × (p x ≡ true)
  any_at p [] zero any = let no : ⊥ = cc any in absurd no
  any_at p [] (suc n) any = let no : ⊥ = cc any in absurd no
  any_at p (x ∷ xs) zero any = let no : ⊥ = cc any in absurd no
  any_at p (x ∷ xs) (suc n) any = by_test (λ later. any_at p xs n later) (p x) refl any
    where
      by_test : (list_any p (take n xs) ≡ true → (m : ℕ) × (y : A) × (m < n) × (slice_get xs m ≡ Some y) × (p y ≡ true)) → (b : Bool) → p x ≡ b → list_any p (take (suc n) (x ∷ xs)) ≡ true
          → (m : ℕ) × (y : A) × (m < suc n) × (slice_get (x ∷ xs) m ≡ Some y) × (p y ≡ true)
      by_test rest true is any = (0, x, omega arith, refl, is)
      by_test rest false is any = let later = rest (rw is at any) in (suc later.0, later.1, omega (arith, later.2), later.3, later.4)

  pub filter_none : (p : A → Bool) (xs : List A) → ((n : ℕ) (x : A) → slice_get xs n ≡ Some x → p x ≡ false) → filter p xs ≡ []
  filter_none p [] none = refl
  filter_none p (x ∷ xs) none = rw (none 0 x refl) (filter_none p xs (λ n y at. none (suc n) y at))

  pub filter_one : (p : A → Bool) (xs : List A) (m : ℕ) (x : A) → slice_get xs m ≡ Some x → p x ≡ true → ((n : ℕ) (y : A) → slice_get xs n ≡ Some y → p y ≡ true → n ≡ m) → filter p xs ≡ x ∷ []
  filter_one p [] zero x at is one = let no : ⊥ = cc at in absurd no
  filter_one p [] (suc m) x at is one = let no : ⊥ = cc at in absurd no
  filter_one p (y ∷ xs) zero x at is one =
      let same : y ≡ x = cc at in
      let here : p y ≡ true = ap p same ∙ is in
      let none : filter p xs ≡ [] = filter_none p xs (λ n z there. false_from_ne_true (p z) (λ passes. let wrong : suc n ≡ 0 = one (suc n) z there passes in omega arith)) in
      rw (here, none, same) refl
  filter_one p (y ∷ xs) (suc m) x at is one =
      by_test (filter_one p xs m x at is (λ n z there passes. let e : suc n ≡ suc m = one (suc n) z there passes in omega arith)) (p y) refl
    where
      by_test : filter p xs ≡ x ∷ [] → (b : Bool) → p y ≡ b → filter p (y ∷ xs) ≡ x ∷ []
      by_test later true here = let no : 0 ≡ suc m = one 0 y refl here in absurd (omega arith)
      by_test later false here = rw here later
