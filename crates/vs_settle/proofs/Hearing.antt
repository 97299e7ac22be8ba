-- What a set hears of a bucket makes it cost no more.
use Rattle.std.proofs.Common.{◌≡◌, ℕ, ◌==◌, ◌≤◌, Bool, true, false, refl, sym, ap, subst, ◌∙◌, arith, Option, Some, None}
use Rattle.std.specs.Prelude.{if◌then◌else◌}
use Rattle.std.proofs.lemmas.Bool.{eqb-true}
use Rattle.vs_space.specs.declared.status.Status.{Status}
use Rattle.vs_space.specs.declared.status.Status.TheVariants.{Active, Pinned, Sending, Receiving, Sent, Garbage}
use Rattle.vs_recover.specs.Decision.{decision_of}
use Rattle.vs_recover.specs.declared.decision.Decision.{Decision}
use Rattle.vs_recover.specs.declared.decision.Decision.TheVariants.{Stay, ToActive, ToGarbage}
use Rattle.vs_machine.specs.State.{Bucket}
use Rattle.vs_machine.specs.Kinds.Connections.{counts_at, decision_by, decided, recovered}
use Rattle.vs_settle.specs.Weight.{price}

-- only a set that receives the bucket throws it away
thrown_by_sender : (d : ℕ) (e : Option Status) (live : Bool) → decision_of (Sending d) e live ≡ ToGarbage → ⊥
thrown_by_sender d None live h = absurd (cc h)
thrown_by_sender d (Some Active) live h = absurd (cc h)
thrown_by_sender d (Some Pinned) live h = absurd (cc h)
thrown_by_sender d (Some (Sending x)) live h = absurd (cc h)
thrown_by_sender d (Some (Receiving x)) live h = absurd (cc h)
thrown_by_sender d (Some (Sent x)) live h = absurd (cc h)
thrown_by_sender d (Some Garbage) live h = absurd (cc h)

thrown_by : (e remote : Option Status) (live : Bool) → decision_by e remote live ≡ ToGarbage → (d : ℕ) × (e ≡ Some (Receiving d))
thrown_by None remote live h = absurd (cc h)
thrown_by (Some Active) remote live h = absurd (cc h)
thrown_by (Some Pinned) remote live h = absurd (cc h)
thrown_by (Some (Sending d)) remote live h = absurd (thrown_by_sender d remote live h)
thrown_by (Some (Receiving x)) remote live h = (x, refl)
thrown_by (Some (Sent d)) remote live h = absurd (cc h)
thrown_by (Some Garbage) remote live h = absurd (cc h)

module _ (b : Bucket) (x : ℕ) (remote : Option Status) (live : Bool) where
  decided_cheaper : (d : Decision) → decision_by (b.entry x) remote live ≡ d → (v : ℕ) → price ((decided b x d).entry v) ((decided b x d).rows v) ≤ price (b.entry v) (b.rows v)
  decided_cheaper Stay is v = omega arith
  decided_cheaper ToActive is v = by (v == x)
    where
      by : (t : Bool) → price (if t then Some Active else b.entry v) (b.rows v) ≤ price (b.entry v) (b.rows v)
      by true = omega arith
      by false = omega arith
  decided_cheaper ToGarbage is v = by (v == x) refl
    where
      by : (t : Bool) → (v == x) ≡ t → price (if t then Some Garbage else b.entry v) (b.rows v) ≤ price (b.entry v) (b.rows v)
      by true e =
          let from = thrown_by (b.entry x) remote live is in
          let there : b.entry v ≡ Some (Receiving from.0) = ap b.entry (eqb-true v x e) ∙ from.1 in
          subst (λ u. price (Some Garbage) (b.rows v) ≤ price u (b.rows v)) (sym there) (omega arith)
      by false e = omega arith

  pub cheaper : (epoch y n v : ℕ) → price ((recovered b epoch x y n remote live).entry v) ((recovered b epoch x y n remote live).rows v) ≤ price (b.entry v) (b.rows v)
  cheaper epoch y n v = by (counts_at b epoch x y n)
    where
      by : (t : Bool) → price ((if t then decided b x (decision_by (b.entry x) remote live) else b).entry v) ((if t then decided b x (decision_by (b.entry x) remote live) else b).rows v) ≤ price (b.entry v) (b.rows v)
      by true = decided_cheaper (decision_by (b.entry x) remote live) refl v
      by false = omega arith
