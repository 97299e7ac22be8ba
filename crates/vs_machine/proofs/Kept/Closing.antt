-- A connection is closed, and a transfer that can't go on is given up.
use Rattle.std.proofs.Common.{◌≡◌, ℕ, Ok, inl, inr, refl, sym, ap, subst, ◌∙◌, List, Option, Some, None}
use Rattle.std.specs.Prelude.{◌≢◌, if◌then◌else◌}
use Rattle.std.proofs.lemmas.Bool.{cases_eq, eq-eqb}
use Rattle.std.proofs.lemmas.List.Elements.{All-nil}
use Rattle.vs_base.specs.declared.numbers.Mode.TheVariants.{Rw}
use Rattle.vs_space.specs.declared.reply.Reply.{Reply}
use Rattle.vs_space.specs.declared.reply.Reply.TheVariants as reply
use Rattle.vs_link.specs.Connection.{Connection, Message, Chunk, Last, Stat, closed}
use Rattle.vs_send.specs.Phases.{abort_cause_of}
use Rattle.vs_send.specs.declared.abort.AbortCause.{AbortCause}
use Rattle.vs_send.specs.declared.abort.AbortCause.TheVariants.{Closed}
use Rattle.vs_send.specs.declared.transfer.Phase.{Phase}
use Rattle.vs_send.specs.declared.transfer.Phase.TheVariants.{Waiting, WaitingLast}
use Rattle.vs_send.specs.declared.transfer.Transfer.{Transfer}
use Rattle.vs_machine.specs.State.{State, Bucket, sets_of, references, put_link, put_bucket, with_transfer}
use Rattle.vs_machine.specs.Kinds.Sender.{abort, cause_at}
use Rattle.vs_machine.specs.Kinds.Connections.{close}
use Rattle.vs_machine.specs.declared.outcome.CommandOutcome.TheVariants as outcome
use Rattle.vs_machine.specs.Whole.{Inner}
use Rattle.vs_machine.specs.Inner.Buckets.{BucketFits}
use Rattle.vs_machine.specs.Inner.Down.{IsUp, UpFits}
use Rattle.vs_machine.specs.Inner.Lines.{MessageFits, ReplyFits, LinkFits, IsIn}
use Rattle.vs_machine.proofs.Frame.{put_each, put_pair}
use Rattle.vs_machine.proofs.Keeping.{client_kept, calls_kept_at, replies_kept_at}
use Rattle.vs_machine.proofs.Can.Sender.{can_abort}
use Rattle.vs_machine.proofs.Can.Others.{can_close}
use Rattle.vs_machine.proofs.Kept.Calls.{answer_moves}
use Rattle.vs_machine.proofs.Kept.Moving.{in_stays, moved_fits, moved_holds}
use Rattle.vs_machine.proofs.Kept.Sending.{answered_keeps}

-- ---- close

-- a connection that is closed has nothing in its lines
pub closed_fits : (bs : ℕ → Bucket) (x y : ℕ) (l : Connection) → LinkFits bs x y (closed l)
closed_fits bs x y l = record { calls = All-nil _; replies = All-nil _; distinct = tt; below = All-nil _ }

pub close_keeps : (own : ℕ → ℕ) (s t : State) (o : ℕ) → Inner own s → close s o ≡ Ok t → Inner own t
close_keeps own s t o i e =
    let p = can_close s t o e in
    let cut : Inner own (put_link s p.x p.y (closed (s.link p.x p.y))) = record {
      buckets = i.buckets;
      clients = i.clients;
      absent = i.absent;
      links = put_pair (LinkFits s.bucket) s.link p.x p.y (closed (s.link p.x p.y)) (closed_fits s.bucket p.x p.y (s.link p.x p.y)) i.links;
      real = i.real;
      operators = i.operators;
    } in
    subst (Inner own) p.gives (answer_moves own (put_link s p.x p.y (closed (s.link p.x p.y))) o outcome.Done cut)

-- ---- abort

-- no message to a set that is up is waited for by a transfer that has a cause
module _ (s : State) (x b : ℕ) (u : Transfer) (there : (s.bucket b).transfer x ≡ Some u) (c : AbortCause) (caused : cause_at s x b u ≡ Some c) where
  abbrev dropped : Bucket
  dropped = with_transfer (s.bucket b) x None

  cause_of : (q : ℕ) (p : Phase) → IsIn (s.bucket b).transfer x q p → abort_cause_of q (references s Rw x b) (s.up q) (s.link x q).epoch p ≡ Some c
  cause_of q p h =
      let one : u ≡ h.it = cc (there, h.there) in
      let dest : u.dest ≡ q = ap (λ (w : Transfer). w.dest) one ∙ h.to in
      let phase : u.phase ≡ p = ap (λ (w : Transfer). w.phase) one ∙ h.phase_is in
      subst (λ d. abort_cause_of d (references s Rw x b) (s.up d) (s.link x d).epoch p ≡ Some c) dest
      (subst (λ r. abort_cause_of u.dest (references s Rw x b) (s.up u.dest) (s.link x u.dest).epoch r ≡ Some c) phase caused)

  no_wait : (q n : ℕ) (k : Option (List ℕ)) → IsUp s q → IsIn (s.bucket b).transfer x q (Waiting (s.link x q).epoch n k) → ⊥
  no_wait q n k up h =
      let e = (s.link x q).epoch in
      let count = references s Rw x b in
      let none : abort_cause_of q count (s.up q) e (Waiting e n k) ≡ None = ap (λ w. abort_cause_of q count w e (Waiting e n k)) up ∙ ap (λ w. if w then None else Some Closed) (eq-eqb e e refl) in
      absurd (cc (none, cause_of q _ h))

  no_wait_last : (q n : ℕ) → IsUp s q → IsIn (s.bucket b).transfer x q (WaitingLast (s.link x q).epoch n) → ⊥
  no_wait_last q n up h =
      let e = (s.link x q).epoch in
      let count = references s Rw x b in
      let none : abort_cause_of q count (s.up q) e (WaitingLast e n) ≡ None = ap (λ w. abort_cause_of q count w e (WaitingLast e n)) up ∙ ap (λ w. if w then None else Some Closed) (eq-eqb e e refl) in
      absurd (cc (none, cause_of q _ h))

  -- so every message from x stays what it was
  dropped_calls : (q k : ℕ) (m : Message) → IsUp s q → MessageFits (s.link x q).epoch (s.bucket b) x q k m → MessageFits (s.link x q).epoch dropped x q k m
  dropped_calls q k (Chunk d page) up h = absurd (no_wait q k _ up h.0)
  dropped_calls q k (Last d) up h = absurd (no_wait_last q k up h)
  dropped_calls q k (Stat d) up h = tt

  dropped_replies : (q k : ℕ) (r : Reply) → IsUp s q → ReplyFits (s.link x q).epoch (s.bucket b) x q k r → ReplyFits (s.link x q).epoch dropped x q k r
  dropped_replies q k reply.Took up (inl h) = absurd (no_wait_last q k up h)
  dropped_replies q k reply.Took up (inr h) = absurd (no_wait q k h.key up h.waits)
  dropped_replies q k (reply.Not f) up (inl h) = absurd (no_wait_last q k up h)
  dropped_replies q k (reply.Not f) up (inr h) = absurd (no_wait q k h.key up h.waits)
  dropped_replies q k (reply.State st live) up h = tt

  -- and so does every other
  calls_by : (p q e k : ℕ) (m : Message) → p ≢ x → MessageFits e (s.bucket b) p q k m → MessageFits e dropped p q k m
  calls_by p q e k (Chunk d page) ne h = (in_stays (s.bucket b).transfer x None p q _ ne h.0, h.1)
  calls_by p q e k (Last d) ne h = in_stays (s.bucket b).transfer x None p q _ ne h
  calls_by p q e k (Stat d) ne h = tt

  replies_by : (p q e k : ℕ) (r : Reply) → p ≢ x → ReplyFits e (s.bucket b) p q k r → ReplyFits e dropped p q k r
  replies_by p q e k reply.Took ne (inl h) = inl (in_stays (s.bucket b).transfer x None p q _ ne h)
  replies_by p q e k reply.Took ne (inr h) = inr (record { key = h.key; waits = in_stays (s.bucket b).transfer x None p q _ ne h.waits; received = h.received })
  replies_by p q e k (reply.Not f) ne (inl h) = inl (in_stays (s.bucket b).transfer x None p q _ ne h)
  replies_by p q e k (reply.Not f) ne (inr h) = inr (record { key = h.key; waits = in_stays (s.bucket b).transfer x None p q _ ne h.waits })
  replies_by p q e k (reply.State st live) ne h = tt

  pub calls_left : (p q k : ℕ) (m : Message) → IsUp s q → MessageFits (s.link p q).epoch (s.bucket b) p q k m → MessageFits (s.link p q).epoch dropped p q k m
  calls_left p q k m up h = elim (cases_eq p x) [
    | inl is ↦ subst (λ z. MessageFits (s.link z q).epoch dropped z q k m) (sym is) (dropped_calls q k m up (subst (λ z. MessageFits (s.link z q).epoch (s.bucket b) z q k m) is h))
    | inr ne ↦ calls_by p q (s.link p q).epoch k m ne h
  ]

  pub replies_left : (p q k : ℕ) (r : Reply) → IsUp s q → ReplyFits (s.link p q).epoch (s.bucket b) p q k r → ReplyFits (s.link p q).epoch dropped p q k r
  replies_left p q k r up h = elim (cases_eq p x) [
    | inl is ↦ subst (λ z. ReplyFits (s.link z q).epoch dropped z q k r) (sym is) (dropped_replies q k r up (subst (λ z. ReplyFits (s.link z q).epoch (s.bucket b) z q k r) is h))
    | inr ne ↦ replies_by p q (s.link p q).epoch k r ne h
  ]

pub abort_keeps : (own : ℕ → ℕ) (s t : State) (x b : ℕ) → Inner own s → UpFits s → abort s x b ≡ Ok t → Inner own t
abort_keeps own s t x b i u e =
    let can = can_abort s t x b e in
    let n = sets_of s in
    let old = s.bucket b in
    let new : Bucket = with_transfer old x None in
    let kept : Inner own (put_bucket s b new) = record {
      buckets = put_each (λ r. BucketFits n (own r)) s.bucket b new (moved_fits n (own b) old x None (i.buckets b) (λ t h. absurd cc)) i.buckets;
      clients = λ c. client_kept s.bucket b new (s.client c) (moved_holds n (own b) old x None) (i.clients c);
      absent = i.absent;
      links = λ p q. let f = i.links p q in record {
        calls = calls_kept_at s.bucket b new (s.link p q).epoch p q (λ m. IsUp s p × IsUp s q) (s.link p q).calls (λ m up. calls_left s x b can.u can.there can.cause can.caused p q m.sync m.message up.1) (u.messages p q) f.calls;
        replies = replies_kept_at s.bucket b new (s.link p q).epoch p q (λ m. IsUp s p × IsUp s q) (s.link p q).replies (λ r up. replies_left s x b can.u can.there can.cause can.caused p q r.sync r.reply up.1) (u.replies p q) f.replies;
        distinct = f.distinct;
        below = f.below;
      };
      real = i.real;
      operators = i.operators;
    } in
    subst (Inner own) can.gives (answered_keeps own (put_bucket s b new) can.u.by (outcome.Aborted can.cause) kept)
