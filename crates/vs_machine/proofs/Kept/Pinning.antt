-- A bucket is pinned or unpinned at its owner.
use Rattle.std.proofs.Common.{◌≡◌, ℕ, Ok, inl, inr, ◌≤◌, Bool, true, false, refl, sym, ap, subst, List, [], Option, Some, None}
use Rattle.std.specs.Prelude.{◌≢◌, not}
use Rattle.std.proofs.lemmas.Bool.{cases_eq}
use Rattle.vs_base.specs.declared.numbers.Mode.TheVariants.{Ro, Rw}
use Rattle.vs_space.specs.declared.reply.Reply.{Reply}
use Rattle.vs_space.specs.declared.reply.Reply.TheVariants as reply
use Rattle.vs_space.specs.declared.status.Status.{Status}
use Rattle.vs_space.specs.declared.status.Status.TheVariants.{Active, Pinned, Sending, Receiving, Sent, Garbage}
use Rattle.vs_link.specs.Connection.{Message, Chunk, Last, Stat}
use Rattle.vs_script.specs.declared.command.Command.{Command}
use Rattle.vs_script.specs.declared.command.Command.TheVariants as command
use Rattle.vs_send.specs.declared.transfer.Phase.{Phase}
use Rattle.vs_send.specs.declared.transfer.Phase.TheVariants.{Draining, Ready, Waiting, Copied, Sealed, WaitingLast, Refused, Done}
use Rattle.vs_send.specs.declared.transfer.Transfer.{Transfer}
use Rattle.vs_machine.specs.declared.outcome.CommandFault.{CommandFault}
use Rattle.vs_machine.specs.declared.outcome.CommandFault.TheVariants as fault
use Rattle.vs_machine.specs.declared.outcome.CommandOutcome.TheVariants as outcome
use Rattle.vs_machine.specs.State.{State, Bucket, sets_of, next_command, is_draining, put_bucket, with_entry}
use Rattle.vs_machine.specs.Coherence.{IsServing, names}
use Rattle.vs_machine.specs.Kinds.Faults.{pin_fault, unpin_fault, if_down, unless_active, unless_pinned, fault_if}
use Rattle.vs_machine.specs.Kinds.Pinning.{Pinning, pinning_of, pinning_fault, pin, after_pin}
use Rattle.vs_machine.specs.Whole.{Inner}
use Rattle.vs_machine.specs.Inner.Owner.{Owns, Beside}
use Rattle.vs_machine.specs.Inner.Phases.{PhaseFits}
use Rattle.vs_machine.specs.Inner.Copying.{CopyFits}
use Rattle.vs_machine.specs.Inner.Buckets.{BucketFits}
use Rattle.vs_machine.specs.Inner.Calls.{ReadFits, HoldFits}
use Rattle.vs_machine.specs.Inner.Lines.{MessageFits, ReplyFits, IsIn}
use Rattle.vs_machine.proofs.Frame.{put_each, put_here, put_there}
use Rattle.vs_machine.proofs.Keeping.{KeepsHolds, KeepsLines, client_kept, link_kept}
use Rattle.vs_machine.proofs.Owners.{serving_owns, serving_alone, phase_of}
use Rattle.vs_machine.proofs.Can.Others.{can_pin}
use Rattle.vs_machine.proofs.Kept.Calls.{answer_moves}
use Rattle.vs_machine.proofs.Kept.Sending.{or_none, active_is}

-- the owner x serves the bucket, without a transfer, and serves it with another status from then on
module _ (n : ℕ) (b : Bucket) (x : ℕ) (f : BucketFits n x b) (at : IsServing (b.entry x)) (free : b.transfer x ≡ None) (e : Option Status) (serves : IsServing e) where
  abbrev pub pinned : Bucket
  pinned = with_entry b x e

  here : pinned.entry x ≡ e
  here = put_here b.entry x e

  elsewhere : (y : ℕ) → y ≢ x → pinned.entry y ≡ b.entry y
  elsewhere y ne = put_there b.entry x e y ne

  owns_serving : (u : Option Status) → IsServing u → Owns x u
  owns_serving (Some Active) h = tt
  owns_serving (Some Pinned) h = tt
  owns_serving None h = absurd h
  owns_serving (Some (Sending d)) h = absurd h
  owns_serving (Some (Receiving d)) h = absurd h
  owns_serving (Some (Sent d)) h = absurd h
  owns_serving (Some Garbage) h = absurd h

  not_receiving : (u : Option Status) (z : ℕ) → IsServing u → u ≡ Some (Receiving z) → ⊥
  not_receiving u z h is = subst IsServing is h

  not_sending : (u : Option Status) (z : ℕ) → IsServing u → u ≡ Some (Sending z) → ⊥
  not_sending u z h is = subst IsServing is h

  beside_pinned : (y : ℕ) (u : Option Status) → Beside x (b.entry x) y u → Beside x e y u
  beside_pinned y None h = tt
  beside_pinned y (Some Garbage) h = tt
  beside_pinned y (Some (Sent z)) h = λ g. absurd (not_receiving e y serves g)
  beside_pinned y (Some (Receiving z)) h = absurd (not_sending (b.entry x) y at h.1)
  beside_pinned y (Some Active) h = h
  beside_pinned y (Some Pinned) h = h
  beside_pinned y (Some (Sending z)) h = h

  unnamed : (u : Option Status) (z : ℕ) → IsServing u → names u ≡ Some z → ⊥
  unnamed (Some Active) z h is = absurd cc
  unnamed (Some Pinned) z h is = absurd cc
  unnamed None z h is = h
  unnamed (Some (Sending d)) z h is = h
  unnamed (Some (Receiving d)) z h is = h
  unnamed (Some (Sent d)) z h is = h
  unnamed (Some Garbage) z h is = h

  movers : (z : ℕ) (t : Transfer) → b.transfer z ≡ Some t → z ≢ x
  movers z t h is = absurd (cc (ap b.transfer is, h, free))

  copies : (z d : ℕ) (p : Phase) → PhaseFits d (b.entry z) p → CopyFits pinned.entry b.rows z d p
  copies z d (Ready k) ph = absurd (serving_alone x b.entry x z d f.placed at ph)
  copies z d Copied ph = absurd (serving_alone x b.entry x z d f.placed at ph)
  copies z d (Draining g) ph = tt
  copies z d (Waiting g k l) ph = tt
  copies z d Sealed ph = tt
  copies z d (WaitingLast g k) ph = tt
  copies z d (Refused r) ph = tt
  copies z d Done ph = tt

  pub pinned_fits : BucketFits n x pinned
  pinned_fits = record {
    placed = record {
      owner = subst (Owns x) (sym here) (owns_serving e serves);
      beside = λ y ne. subst (λ u. Beside x u y (pinned.entry y)) (sym here) (subst (Beside x e y) (sym (elsewhere y ne)) (beside_pinned y (b.entry y) (f.placed.beside y ne)));
    };
    named = put_each (λ q (u : Option Status). (z : ℕ) → names u ≡ Some z → (z ≢ q) × (1 ≤ z) × (z ≤ n)) b.entry x e (λ z h. absurd (unnamed e z serves h)) f.named;
    stored = record {
      empty = put_each (λ q (u : Option Status). u ≡ None → b.rows q ≡ []) b.entry x e (λ none. absurd (subst IsServing none serves)) f.stored.empty;
      rising = f.stored.rising;
    };
    owned = f.owned;
    transfers = λ z t h. let old = f.transfers z t h in record { apart = old.apart; within = old.within; phase = subst (λ u. PhaseFits t.dest u t.phase) (sym (elsewhere z (movers z t h))) old.phase; copy = copies z t.dest t.phase old.phase };
    replayed = f.replayed;
  }

  reads_serving : (u : Option Status) (posted : ℕ) → IsServing u → ReadFits u (b.rows x) b.history (b.kept x) posted
  reads_serving (Some Active) posted h = tt
  reads_serving (Some Pinned) posted h = tt
  reads_serving None posted h = absurd h
  reads_serving (Some (Sending d)) posted h = absurd h
  reads_serving (Some (Receiving d)) posted h = absurd h
  reads_serving (Some (Sent d)) posted h = absurd h
  reads_serving (Some Garbage) posted h = absurd h

  pub pinned_holds : KeepsHolds b pinned
  pinned_holds y posted Ro h = elim (cases_eq y x) [
    | inl is ↦ subst (λ q. HoldFits pinned q Ro posted) (sym is) (subst (λ u. ReadFits u (b.rows x) b.history (b.kept x) posted) (sym here) (reads_serving e posted serves))
    | inr ne ↦ subst (λ u. ReadFits u (b.rows y) b.history (b.kept y) posted) (sym (elsewhere y ne)) h
  ]
  pinned_holds y posted Rw h = elim (cases_eq y x) [
    | inl is ↦ subst (λ q. IsServing (pinned.entry q)) (sym is) (subst IsServing (sym here) serves)
    | inr ne ↦ subst IsServing (sym (elsewhere y ne)) h
  ]

  pub pinned_lines : KeepsLines b pinned
  pinned_lines = record { calls = calls; replies = replies }
    where
      never : (z w g k : ℕ) (l : Option (List ℕ)) → IsIn b.transfer z w (Waiting g k l) → ⊥
      never z w g k l h = serving_alone x b.entry x z w f.placed at (phase_of n x b z w (Waiting g k l) f h)

      calls : (g z w k : ℕ) (m : Message) → MessageFits g b z w k m → MessageFits g pinned z w k m
      calls g z w k (Chunk q page) h = absurd (never z w g k _ h.0)
      calls g z w k (Last q) h = h
      calls g z w k (Stat q) h = tt

      replies : (g z w k : ℕ) (r : Reply) → ReplyFits g b z w k r → ReplyFits g pinned z w k r
      replies g z w k reply.Took (inl h) = inl h
      replies g z w k reply.Took (inr h) = absurd (never z w g k h.key h.waits)
      replies g z w k (reply.Not r) (inl h) = inl h
      replies g z w k (reply.Not r) (inr h) = absurd (never z w g k h.key h.waits)
      replies g z w k (reply.State st live) h = tt

-- ---- a pin or an unpin without a fault

-- a bucket that is pinned has no transfer, and neither has one that is active and doesn't drain
free_of : (n o : ℕ) (b : Bucket) (x : ℕ) → BucketFits n o b → IsServing (b.entry x) → (b.entry x ≡ Some Active → is_draining (b.transfer x) ≡ false) → b.transfer x ≡ None
free_of n o b x f at still = by (b.transfer x) refl
  where
    drains : (d : ℕ) (p : Phase) → PhaseFits d (b.entry x) p → (t : ℕ) × (p ≡ Draining t) × (b.entry x ≡ Some Active)
    drains d (Draining t) h = (t, refl, h)
    drains d (Ready k) h = absurd (subst IsServing h at)
    drains d (Waiting e t k) h = absurd (subst IsServing h at)
    drains d Copied h = absurd (subst IsServing h at)
    drains d Sealed h = absurd (subst IsServing h at)
    drains d (WaitingLast e t) h = absurd (subst IsServing h at)
    drains d (Refused r) (inl h) = absurd (subst IsServing h at)
    drains d (Refused r) (inr h) = absurd (subst IsServing h at)
    drains d Done h = absurd (subst IsServing h at)

    by : (v : Option Transfer) → b.transfer x ≡ v → b.transfer x ≡ None
    by None is = is
    by (Some t) is =
        let d = drains t.dest t.phase (f.transfers x t is).phase in
        let none = still d.2 in
        let drain : is_draining (b.transfer x) ≡ true = rw (is, d.1) refl in
        absurd (cc (none, drain))

pub serving_keeps : (own : ℕ → ℕ) (s : State) (x b : ℕ) (e : Option Status) → Inner own s → IsServing ((s.bucket b).entry x) → (s.bucket b).transfer x ≡ None → IsServing e → Inner own (put_bucket s b (with_entry (s.bucket b) x e))
serving_keeps own s x b e i at free serves =
    let n = sets_of s in
    let old = s.bucket b in
    let is : own b ≡ x = sym (serving_owns (own b) old.entry x (i.buckets b).placed at) in
    let f : BucketFits n x old = subst (λ o. BucketFits n o old) is (i.buckets b) in
    let new : Bucket = with_entry old x e in
    record {
      buckets = put_each (λ r. BucketFits n (own r)) s.bucket b new (subst (λ o. BucketFits n o new) (sym is) (pinned_fits n old x f at free e serves)) i.buckets;
      clients = λ c. client_kept s.bucket b new (s.client c) (pinned_holds n old x f at free e serves) (i.clients c);
      absent = i.absent;
      links = λ p q. link_kept s.bucket b new p q (s.link p q) (pinned_lines n old x f at free e serves) (i.links p q);
      real = i.real;
      operators = i.operators;
    }

pub pinned_is : (e : Option Status) → unless_pinned e ≡ None → e ≡ Some Pinned
pinned_is (Some Pinned) h = refl
pinned_is None h = absurd cc
pinned_is (Some Active) h = absurd cc
pinned_is (Some (Sending d)) h = absurd cc
pinned_is (Some (Receiving x)) h = absurd cc
pinned_is (Some (Sent d)) h = absurd cc
pinned_is (Some Garbage) h = absurd cc

-- what is known of a bucket that may be pinned, or unpinned
pub record MayPin (s : State) (p : Pinning) : Type 0 where
  pub x_up : s.up p.at ≡ true
  pub serving : IsServing ((s.bucket p.bucket).entry p.at)
  pub still : (s.bucket p.bucket).entry p.at ≡ Some Active → is_draining ((s.bucket p.bucket).transfer p.at) ≡ false
  pub serves : IsServing (Some p.status)

back : (t : Bool) → fault_if t fault.BucketIsLocked ≡ None → t ≡ false
back true h = absurd cc
back false h = refl

up_is : (s : State) (x : ℕ) → if_down s x ≡ None → s.up x ≡ true
up_is s x h = by (s.up x) h
  where
    by : (t : Bool) → fault_if (not t) (fault.Down x) ≡ None → t ≡ true
    by true h = refl
    by false h = absurd cc

pub may_pin : (s : State) (command : Option Command) (p : Pinning) → pinning_of command ≡ Some p → pinning_fault s p p.status ≡ None → MayPin s p
may_pin s (Some (command.Pin b x)) p named none =
    let q : Pinning = record { bucket = b; at = x; status = Pinned } in
    let same : q ≡ p = cc in
    let free : pin_fault s b x ≡ None = subst (λ (r : Pinning). pinning_fault s r r.status ≡ None) (sym same) none in
    let g1 = or_none (if_down s x) _ free in
    let g2 = or_none (unless_active ((s.bucket b).entry x)) _ g1.1 in
    let at = active_is _ g2.0 in
    subst (MayPin s) same (record { x_up = up_is s x g1.0; serving = subst IsServing (sym at) tt; still = λ _. back _ g2.1; serves = tt })
may_pin s (Some (command.Unpin b x)) p named none =
    let q : Pinning = record { bucket = b; at = x; status = Active } in
    let same : q ≡ p = cc in
    let free : unpin_fault s b x ≡ None = subst (λ (r : Pinning). pinning_fault s r r.status ≡ None) (sym same) none in
    let g1 = or_none (if_down s x) _ free in
    let at = pinned_is _ g1.1 in
    subst (MayPin s) same (record { x_up = up_is s x g1.0; serving = subst IsServing (sym at) tt; still = λ e. absurd (cc (e, at)); serves = tt })
may_pin s None p named none = absurd cc
may_pin s (Some (command.Send b x d)) p named none = absurd cc
may_pin s (Some (command.Close x y)) p named none = absurd cc
may_pin s (Some (command.Cut c k)) p named none = absurd cc
may_pin s (Some (command.Stop x)) p named none = absurd cc
may_pin s (Some (command.Restart x)) p named none = absurd cc
may_pin s (Some command.Balance) p named none = absurd cc

pub pin_keeps : (own : ℕ → ℕ) (s t : State) (o : ℕ) → Inner own s → pin s o ≡ Ok t → Inner own t
pin_keeps own s t o i e =
    let can = can_pin s t o e in
    subst (Inner own) can.gives (by can.p can.named (pinning_fault s can.p can.p.status) refl)
  where
    by : (p : Pinning) → pinning_of (next_command (s.operator o)) ≡ Some p → (f : Option CommandFault) → pinning_fault s p p.status ≡ f → Inner own (after_pin s o p f)
    by p named (Some f) is = answer_moves own s o (outcome.Refused f) i
    by p named None is =
        let may = may_pin s (next_command (s.operator o)) p named is in
        let old = s.bucket p.bucket in
        let free = free_of (sets_of s) (own p.bucket) old p.at (i.buckets p.bucket) may.serving may.still in
        answer_moves own (put_bucket s p.bucket (with_entry old p.at (Some p.status))) o outcome.Done (serving_keeps own s p.at p.bucket (Some p.status) i may.serving free may.serves)
