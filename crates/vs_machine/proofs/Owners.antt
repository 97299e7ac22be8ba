-- What follows of one bucket from what is known of it.
use Rattle.std.proofs.Common.{◌≡◌, ℕ, inl, inr, ◌≤◌, refl, sym, ap, subst, ◌∙◌, arith, Option, Some, None}
use Rattle.std.proofs.lemmas.Bool.{cases_eq}
use Rattle.vs_space.specs.declared.status.Status.{Status}
use Rattle.vs_space.specs.declared.status.Status.TheVariants.{Active, Pinned, Sending, Receiving, Sent, Garbage}
use Rattle.vs_history.specs.History.{rows_at, write_count}
use Rattle.vs_send.specs.declared.transfer.Phase.{Phase}
use Rattle.vs_machine.specs.State.{Bucket}
use Rattle.vs_machine.specs.Coherence.{IsServing}
use Rattle.vs_machine.specs.Kinds.Calls.{place_by}
use Rattle.vs_machine.specs.Inner.Owner.{IsPlaced, Beside}
use Rattle.vs_machine.specs.Inner.Phases.{PhaseFits}
use Rattle.vs_machine.specs.Inner.Buckets.{BucketFits}
use Rattle.vs_machine.specs.Inner.Calls.{ReadFits}
use Rattle.vs_machine.specs.Inner.Lines.{IsIn}
use Rattle.vs_machine.proofs.Histories.{rows_at-all}

-- an entry that serves is active or pinned, and only the owner's does
pub serving_owns : (o : ℕ) (entry : ℕ → Option Status) (x : ℕ) → IsPlaced o entry → IsServing (entry x) → x ≡ o
serving_owns o entry x p at = elim (cases_eq x o) [ inl e ↦ e | inr ne ↦ absurd (apart (entry x) at (p.beside x ne)) ]
  where
    apart : (e : Option Status) → IsServing e → Beside o (entry o) x e → ⊥
    apart (Some Active) h f = f
    apart (Some Pinned) h f = f
    apart e h f = h

pub active_owns : (o : ℕ) (entry : ℕ → Option Status) (x : ℕ) → IsPlaced o entry → entry x ≡ Some Active → x ≡ o
active_owns o entry x p at = serving_owns o entry x p (subst IsServing (sym at) tt)

pub sending_owns : (o : ℕ) (entry : ℕ → Option Status) (x d : ℕ) → IsPlaced o entry → entry x ≡ Some (Sending d) → x ≡ o
sending_owns o entry x d p at = elim (cases_eq x o) [ inl e ↦ e | inr ne ↦ absurd (subst (Beside o (entry o) x) at (p.beside x ne)) ]

-- a serving entry isn't sending
pub not_both : (e : Option Status) (d : ℕ) → IsServing e → e ≡ Some (Sending d) → ⊥
not_both e d at is = subst IsServing is at

-- so no set is sending where one serves
pub serving_alone : (o : ℕ) (entry : ℕ → Option Status) (x y d : ℕ) → IsPlaced o entry → IsServing (entry x) → entry y ≡ Some (Sending d) → ⊥
serving_alone o entry x y d p at moving =
    let same : x ≡ y = serving_owns o entry x p at ∙ sym (sending_owns o entry y d p moving) in
    not_both (entry x) d at (ap entry same ∙ moving)

-- a transfer in a phase is of a bucket that fits it
pub phase_of : (n o : ℕ) (b : Bucket) (x y : ℕ) (phase : Phase) → BucketFits n o b → IsIn b.transfer x y phase → PhaseFits y (b.entry x) phase
phase_of n o b x y phase f h = subst (λ p. PhaseFits y (b.entry x) p) h.phase_is (subst (λ d. PhaseFits d (b.entry x) h.it.phase) h.to (f.transfers x h.it h.there).phase)

-- the rows that a set has are those at its place
pub rows_read : (n o : ℕ) (b : Bucket) (x posted : ℕ) → BucketFits n o b → ReadFits (b.entry x) (b.rows x) b.history (b.kept x) posted
    → (place_by b x (b.entry x) ≤ write_count b.history) × (b.rows x ≡ rows_at b.history (place_by b x (b.entry x)))
rows_read n o b x posted f reads = by_entry (b.entry x) refl reads
  where
    owned : x ≡ o → b.rows x ≡ rows_at b.history (write_count b.history)
    owned e = ap b.rows e ∙ f.owned ∙ sym (rows_at-all b.history)

    by_entry : (e : Option Status) → b.entry x ≡ e → ReadFits e (b.rows x) b.history (b.kept x) posted → (place_by b x e ≤ write_count b.history) × (b.rows x ≡ rows_at b.history (place_by b x e))
    by_entry None is h = absurd h
    by_entry (Some Active) is h = (omega arith, owned (active_owns o b.entry x f.placed is))
    by_entry (Some Pinned) is h = (omega arith, owned (serving_owns o b.entry x f.placed (subst IsServing (sym is) tt)))
    by_entry (Some (Sending d)) is h = (omega arith, owned (sending_owns o b.entry x d f.placed is))
    by_entry (Some (Receiving z)) is h = absurd h
    by_entry (Some (Sent d)) is h = (h.within, h.rows_are)
    by_entry (Some Garbage) is h = absurd h
