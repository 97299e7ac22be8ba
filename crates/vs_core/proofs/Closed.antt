-- The connections of a set are closed, one set after the other.
use Rattle.std.proofs.Common.{◌≡◌, ℕ, ◌+◌, ◌==◌, Bool, true, false, refl, sym, ap, ◌∙◌, arith}
use Rattle.std.specs.Prelude.{◌≢◌, if◌then◌else◌}
use Rattle.std.proofs.lemmas.Bool.Decides.{nat_tests}
use Rattle.vs_link.specs.Connection.{Connection, closed}
use Rattle.vs_link.specs.Links.{Links, connection_of}
use Rattle.vs_machine.specs.Tables.{is_to}
use Rattle.vs_core.specs.GoingDown.{is_between, is_between_to}

-- the connections between x and the sets up to n are closed, and the others are as they were
abbrev pub AreClosed : Links → Links → ℕ → ℕ → Type 0
AreClosed old new x n = (p q : ℕ) → p ≢ q → connection_of new p q ≡ (if is_between_to x n p q then closed (connection_of old p q) else connection_of old p q)

-- one number more is tested
further : (n y k : ℕ) (old : Connection) → y ≡ n + 1 →
    (if k == y then closed (if is_to n k then closed old else old) else (if is_to n k then closed old else old)) ≡ (if is_to (n + 1) k then closed old else old)
further n y k old at = by (k == y) refl (is_to n k) refl
  where
    by : (e : Bool) → (k == y) ≡ e → (w : Bool) → is_to n k ≡ w → (if e then closed (if w then closed old else old) else (if w then closed old else old)) ≡ (if is_to (n + 1) k then closed old else old)
    by true e true w = absurd (grind (arith, nat_tests, e, w, at))
    by true e false w = let now : is_to (n + 1) k ≡ true = grind (arith, nat_tests, e, at) in ap (λ b. if b then closed old else old) (sym now)
    by false e true w = let now : is_to (n + 1) k ≡ true = grind (arith, nat_tests, w) in ap (λ b. if b then closed old else old) (sym now)
    by false e false w = let now : is_to (n + 1) k ≡ false = grind (arith, nat_tests, e, w, at) in ap (λ b. if b then closed old else old) (sym now)

pub closed_one : (old l new : Links) (x n y : ℕ) → y ≡ n + 1 → AreClosed old l x n
    → ((p q : ℕ) → p ≢ q → connection_of new p q ≡ (if is_between x y p q then closed (connection_of l p q) else connection_of l p q)) → AreClosed old new x (n + 1)
closed_one old l new x n y at before one p q apart = one p q apart ∙ ap (λ v. if is_between x y p q then closed v else v) (before p q apart) ∙ by (p == x) (q == x)
  where
    by : (a b : Bool) →
        (if (if a then q == y else if b then p == y else false)
        then closed (if (if a then is_to n q else if b then is_to n p else false) then closed (connection_of old p q) else connection_of old p q)
        else (if (if a then is_to n q else if b then is_to n p else false) then closed (connection_of old p q) else connection_of old p q))
        ≡ (if (if a then is_to (n + 1) q else if b then is_to (n + 1) p else false) then closed (connection_of old p q) else connection_of old p q)
    by true b = further n y q (connection_of old p q) at
    by false true = further n y p (connection_of old p q) at
    by false false = refl
