-- The connections that transfers and asks rest on lead from a set of the cluster to another.
use Rattle.std.proofs.Common.{◌≡◌, ℕ, inl, inr, ◌≤◌, true, sym, ap, ◌∙◌, arith, Option, Some, None}
use Rattle.std.specs.Prelude.{◌≢◌}
use Rattle.std.proofs.lemmas.Bool.Decides.{nat_tests}
use Rattle.vs_space.specs.declared.status.Status.{Status}
use Rattle.vs_space.specs.declared.status.Status.TheVariants.{Active, Pinned, Sending, Receiving, Sent, Garbage}
use Rattle.vs_send.specs.declared.transfer.Phase.{Phase}
use Rattle.vs_send.specs.declared.transfer.Phase.TheVariants.{Draining, Ready, Waiting, Copied, Sealed, WaitingLast, Refused, Done}
use Rattle.vs_send.specs.declared.transfer.Transfer.{Transfer}
use Rattle.vs_machine.specs.State.{State, sets_of, is_link}
use Rattle.vs_machine.specs.Coherence.{names}
use Rattle.vs_machine.specs.Kinds.Connections.{asked_set}
use Rattle.vs_machine.specs.Whole.{Inner}
use Rattle.vs_machine.specs.Inner.Phases.{PhaseFits}

-- a transfer's connection, and the one over which a set asks
pub record AreLinked (s : State) : Type 0 where
  pub transfers : (b x : ℕ) (t : Transfer) → (s.bucket b).transfer x ≡ Some t → is_link s x t.dest ≡ true
  pub asks : (b x y : ℕ) → asked_set ((s.bucket b).entry x) ≡ Some y → is_link s x y ≡ true

-- a set with a transfer of a bucket has an entry of it
pub has_entry : (d : ℕ) (e : Option Status) (p : Phase) → PhaseFits d e p → e ≢ None
has_entry d e (Draining n) h none = absurd (cc (h, none))
has_entry d e (Ready k) h none = absurd (cc (h, none))
has_entry d e (Waiting g n k) h none = absurd (cc (h, none))
has_entry d e Copied h none = absurd (cc (h, none))
has_entry d e Sealed h none = absurd (cc (h, none))
has_entry d e (WaitingLast g n) h none = absurd (cc (h, none))
has_entry d e (Refused f) (inl h) none = absurd (cc (h, none))
has_entry d e (Refused f) (inr h) none = absurd (cc (h, none))
has_entry d e Done h none = absurd (cc (h, none))

asked_named : (e : Option Status) (y : ℕ) → asked_set e ≡ Some y → names e ≡ Some y
asked_named (Some (Sending d)) y h = h
asked_named (Some (Receiving x)) y h = h
asked_named None y h = absurd cc
asked_named (Some Active) y h = absurd cc
asked_named (Some Pinned) y h = absurd cc
asked_named (Some (Sent d)) y h = absurd cc
asked_named (Some Garbage) y h = absurd cc

pub are_linked : (own : ℕ → ℕ) (s : State) → Inner own s → ((b x : ℕ) → (s.bucket b).entry x ≢ None → (1 ≤ x) × (x ≤ sets_of s)) → AreLinked s
are_linked own s i bounds = record {
  transfers = λ b x t at.
      let f = (i.buckets b).transfers x t at in
      linked x t.dest (bounds b x (has_entry t.dest ((s.bucket b).entry x) t.phase f.phase)) f.within f.apart;
  asks = λ b x y h.
      let other = (i.buckets b).named x y (asked_named ((s.bucket b).entry x) y h) in
      linked x y (bounds b x (λ none. absurd (cc (ap asked_set (sym none) ∙ h)))) (other.1, other.2) other.0;
}
  where
    linked : (x y : ℕ) → (1 ≤ x) × (x ≤ sets_of s) → (1 ≤ y) × (y ≤ sets_of s) → y ≢ x → is_link s x y ≡ true
    linked x y from to apart = grind (arith, nat_tests, from, to, apart)
