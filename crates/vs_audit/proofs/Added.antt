-- How the least fault grows, pass by pass.
use Rattle.std.proofs.Common.{◌≡◌, ℕ, ◌+◌, ◌<◌, ◌⊎◌, inl, inr, Option, arith, subst, ⊎_elim}
use Rattle.vs_audit.specs.Turn.{Adds}
use Rattle.vs_audit.specs.declared.fault.Illegal.{Illegal}
use Rattle.vs_audit.specs.declared.least.Fault.{Fault}

-- no fault, nothing new
pub added_none : (F : ℕ → Illegal → Type 0) (a : Option Fault) → ((l : ℕ) (k : Illegal) → ¬ F l k) → Adds F a a
added_none F a none = record {
  from = λ f e. inl e;
  reached = λ l k wrong. absurd (none l k wrong);
  kept = λ l k r. r;
}

-- the same faults, told in another way
pub added_as : (F G : ℕ → Illegal → Type 0) (a b : Option Fault) → ((l : ℕ) (k : Illegal) → F l k → G l k) → ((l : ℕ) (k : Illegal) → G l k → F l k) → Adds F a b → Adds G a b
added_as F G a b to back added = record {
  from = λ f e. ⊎_elim (λ o. inl o) (λ w. inr (to f.line f.kind w)) (added.from f e);
  reached = λ l k wrong. added.reached l k (back l k wrong);
  kept = added.kept;
}

-- two passes
pub added_then : (F G : ℕ → Illegal → Type 0) (a b c : Option Fault) → Adds F a b → Adds G b c → Adds (λ l k. F l k ⊎ G l k) a c
added_then F G a b c first second = record {
  from = λ f e. ⊎_elim (λ o. ⊎_elim (λ p. inl p) (λ w. inr (inl w)) (first.from f o)) (λ w. inr (inr w)) (second.from f e);
  reached = λ l k wrong. ⊎_elim (λ w. second.kept l k (first.reached l k w)) (λ w. second.reached l k w) wrong;
  kept = λ l k r. second.kept l k (first.kept l k r);
}

pub below_next : (n i : ℕ) → n < i + 1 → (n < i) ⊎ (n ≡ i)
below_next n i h = grind arith

-- one turn of a loop more
pub added_more : (G : ℕ → ℕ → Illegal → Type 0) (i : ℕ) (a b c : Option Fault) → Adds (λ l k. (n : ℕ) × (n < i) × G n l k) a b → Adds (G i) b c → Adds (λ l k. (n : ℕ) × (n < i + 1) × G n l k) a c
added_more G i a b c first second =
    let F : ℕ → Illegal → Type 0 = λ l k. (n : ℕ) × (n < i) × G n l k in
    added_as (λ l k. F l k ⊎ G i l k) (λ l k. (n : ℕ) × (n < i + 1) × G n l k) a c
    (λ l k w. ⊎_elim (λ (t : (n : ℕ) × (n < i) × G n l k). let h : t.0 < i = t.1 in (t.0, omega arith, t.2)) (λ (t : G i l k). (i, omega arith, t)) w)
    (λ l k w. let at : (w.0 < i) ⊎ (w.0 ≡ i) = below_next w.0 i w.1 in ⊎_elim (λ h. inl (w.0, h, w.2)) (λ e. inr (subst (λ m. G m l k) e w.2)) at)
    (added_then F (G i) a b c first second)

-- before the first turn
pub added_start : (G : ℕ → ℕ → Illegal → Type 0) (a : Option Fault) → Adds (λ l k. (n : ℕ) × (n < 0) × G n l k) a a
added_start G a = added_none (λ l k. (n : ℕ) × (n < 0) × G n l k) a (λ l k w. let h : w.0 < 0 = w.1 in absurd (omega arith))
