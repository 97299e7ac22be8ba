-- Tables that are functions of numbers: what is put is found there, and all else is as it was.
use Rattle.std.proofs.Common.{◌≡◌, ℕ, ◌==◌, Bool, true, false, refl, sym, subst}
use Rattle.std.specs.Prelude.{if◌then◌else◌, ◌≢◌}
use Rattle.std.proofs.lemmas.Bool.{eqb-true, eqb-false, eq-eqb, ne_eqb}
use Rattle.vs_machine.specs.Tables.{put}

pub put_here : {A : Type 0} (f : ℕ → A) (k : ℕ) (v : A) → put f k v k ≡ v
put_here f k v = subst (λ t. (if t then v else f k) ≡ v) (sym (eq-eqb k k refl)) refl

-- to put what is there changes nothing
pub put_same : {A : Type 0} (f : ℕ → A) (k : ℕ) → put f k (f k) ≡ f
put_same f k = λ i q. by_test q (q == k) refl i
  where
    by_test : (q : ℕ) (t : Bool) → (q == k) ≡ t → (if t then f k else f q) ≡ f q
    by_test q true e = subst (λ j. f k ≡ f j) (sym (eqb-true q k e)) refl
    by_test q false e = refl

-- what was put before at the same place is gone
pub put_twice : {A : Type 0} (f : ℕ → A) (k : ℕ) (v w : A) → put (put f k v) k w ≡ put f k w
put_twice f k v w = λ i q. by_test q (q == k) i
  where
    by_test : (q : ℕ) (t : Bool) → (if t then w else if t then v else f q) ≡ (if t then w else f q)
    by_test q true = refl
    by_test q false = refl

-- a table that has v at k, and elsewhere what f has
pub is_put : {A : Type 0} (f g : ℕ → A) (k : ℕ) → ((q : ℕ) → q ≢ k → g q ≡ f q) → g ≡ put f k (g k)
is_put f g k others = λ i q. by_test q (q == k) refl i
  where
    by_test : (q : ℕ) (t : Bool) → (q == k) ≡ t → g q ≡ (if t then g k else f q)
    by_test q true e = subst (λ j. g q ≡ g j) (eqb-true q k e) refl
    by_test q false e = others q (eqb-false q k e)

-- P holds at the new value, and at each other place as before
pub put_each : {A : Type 0} (P : ℕ → A → Type 0) (f : ℕ → A) (k : ℕ) (v : A) → P k v → ((q : ℕ) → P q (f q)) → (q : ℕ) → P q (put f k v q)
put_each P f k v here there q = by_test (q == k) refl
  where
    by_test : (t : Bool) → (q == k) ≡ t → P q (if t then v else f q)
    by_test true e = subst (λ j. P j v) (sym (eqb-true q k e)) here
    by_test false e = there q

pub put_there : {A : Type 0} (f : ℕ → A) (k : ℕ) (v : A) (q : ℕ) → q ≢ k → put f k v q ≡ f q
put_there f k v q ne = subst (λ t. (if t then v else f q) ≡ f q) (sym (ne_eqb q k ne)) refl
