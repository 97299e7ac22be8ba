-- A table that differs at one place: what holds of each place still holds.
use Rattle.std.proofs.Common.{inl, inr, ◌≡◌, ℕ, ◌==◌, Bool, true, false, refl, sym, subst}
use Rattle.std.specs.Prelude.{if◌then◌else◌, ◌≢◌, ◌⊎◌}
use Rattle.std.proofs.lemmas.Bool.{eqb-true, eqb-false, eq-eqb, ne_eqb}
use Rattle.vs_machine.specs.Tables.{put, put_at}

-- P holds at the new value, and at each other place as before
pub put_each : {A : Type 0} (P : ℕ → A → Type 0) (f : ℕ → A) (k : ℕ) (v : A) → P k v → ((q : ℕ) → P q (f q)) → (q : ℕ) → P q (put f k v q)
put_each P f k v here there q = by_test (q == k) refl
  where
    by_test : (t : Bool) → (q == k) ≡ t → P q (if t then v else f q)
    by_test true e = subst (λ j. P j v) (sym (eqb-true q k e)) here
    by_test false e = there q

-- the same where the other places are known to be others
pub put_others : {A : Type 0} (P : ℕ → A → Type 0) (f : ℕ → A) (k : ℕ) (v : A) → P k v → ((q : ℕ) → q ≢ k → P q (f q)) → (q : ℕ) → P q (put f k v q)
put_others P f k v here there q = by_test (q == k) refl
  where
    by_test : (t : Bool) → (q == k) ≡ t → P q (if t then v else f q)
    by_test true e = subst (λ j. P j v) (sym (eqb-true q k e)) here
    by_test false e = there q (eqb-false q k e)

-- two tables changed at the same place
pub put_both : {A B : Type 0} (P : ℕ → A → B → Type 0) (f : ℕ → A) (g : ℕ → B) (k : ℕ) (v : A) (w : B) → P k v w → ((q : ℕ) → P q (f q) (g q)) → (q : ℕ) → P q (put f k v q) (put g k w q)
put_both P f g k v w here there q = by_test (q == k) refl
  where
    by_test : (t : Bool) → (q == k) ≡ t → P q (if t then v else f q) (if t then w else g q)
    by_test true e = subst (λ j. P j v w) (sym (eqb-true q k e)) here
    by_test false e = there q

pub put_here : {A : Type 0} (f : ℕ → A) (k : ℕ) (v : A) → put f k v k ≡ v
put_here f k v = subst (λ t. (if t then v else f k) ≡ v) (sym (eq-eqb k k refl)) refl

pub put_there : {A : Type 0} (f : ℕ → A) (k : ℕ) (v : A) (q : ℕ) → q ≢ k → put f k v q ≡ f q
put_there f k v q ne = subst (λ t. (if t then v else f q) ≡ f q) (sym (ne_eqb q k ne)) refl

-- a place of the new table is the new value, or it is as before
pub put_split : {A : Type 0} (f : ℕ → A) (k : ℕ) (v : A) (q : ℕ) (r : A) → put f k v q ≡ r → ((q ≡ k) × (v ≡ r)) ⊎ ((q ≢ k) × (f q ≡ r))
put_split f k v q r = by_test (q == k) refl
  where
    by_test : (t : Bool) → (q == k) ≡ t → (if t then v else f q) ≡ r → ((q ≡ k) × (v ≡ r)) ⊎ ((q ≢ k) × (f q ≡ r))
    by_test true e h = inl (eqb-true q k e, h)
    by_test false e h = inr (eqb-false q k e, h)

-- tables of two numbers, changed at one pair
pub put_pair : {A : Type 0} (P : ℕ → ℕ → A → Type 0) (f : ℕ → ℕ → A) (x y : ℕ) (v : A) → P x y v → ((p q : ℕ) → P p q (f p q)) → (p q : ℕ) → P p q (put_at f x y v p q)
put_pair P f x y v here there p q =
    put_each (λ j (g : ℕ → _). (i : ℕ) → P j i (g i)) f x (put (f x) y v) (put_each (P x) (f x) y v here (there x)) there p q

-- tables of two numbers, changed at one pair, where the other pairs are known to be others
pub put_pair_others : {A : Type 0} (P : ℕ → ℕ → A → Type 0) (f : ℕ → ℕ → A) (x y : ℕ) (v : A) → P x y v → ((p q : ℕ) → (p ≡ x → q ≡ y → ⊥) → P p q (f p q)) → (p q : ℕ) → P p q (put_at f x y v p q)
put_pair_others P f x y v here there p q =
    put_others (λ j (g : ℕ → _). (i : ℕ) → P j i (g i)) f x (put (f x) y v)
    (put_others (P x) (f x) y v here (λ i ne. there x i (λ _ e. ne e))) (λ j ne i. there j i (λ e _. ne e)) p q

-- to put what is there changes nothing
pub put_same : {A : Type 0} (f : ℕ → A) (k : ℕ) → put f k (f k) ≡ f
put_same f k = λ i q. by_test q (q == k) refl i
  where
    by_test : (q : ℕ) (t : Bool) → (q == k) ≡ t → (if t then f k else f q) ≡ f q
    by_test q true e = subst (λ j. f k ≡ f j) (sym (eqb-true q k e)) refl
    by_test q false e = refl
