-- A transfer begins, moves to another phase or goes, while the bucket's entries and rows stay.
use Rattle.std.proofs.Common.{◌≡◌, ℕ, inl, inr, ◌+◌, sym, ap, subst, ◌∙◌, ◌<◌, arith, Option, Some, None, List, [], ◌∷◌, ◌++◌, append_assoc}
use Rattle.std.specs.Prelude.{◌≢◌, All, map}
use Rattle.std.proofs.lemmas.Bool.{cases_eq}
use Rattle.std.proofs.lemmas.List.Elements.{All-push, All-weaker}
use Rattle.vs_base.specs.declared.numbers.Mode.TheVariants.{Ro, Rw}
use Rattle.vs_space.specs.declared.reply.Reply.{Reply}
use Rattle.vs_space.specs.declared.reply.Reply.TheVariants as reply
use Rattle.vs_link.specs.Connection.{Connection, Message, Chunk, Last, Stat, bucket_of, with_message}
use Rattle.vs_link.specs.Connection as link
use Rattle.vs_send.specs.declared.transfer.Phase.{Phase}
use Rattle.vs_send.specs.declared.transfer.Phase.TheVariants.{Waiting, WaitingLast}
use Rattle.vs_send.specs.declared.transfer.Transfer.{Transfer}
use Rattle.vs_machine.specs.Tables.{put, put_at}
use Rattle.vs_machine.specs.State.{State, Bucket, sets_of, with_transfer, put_bucket}
use Rattle.vs_machine.specs.Whole.{Inner}
use Rattle.vs_machine.specs.Inner.Buckets.{BucketFits, TransferFits}
use Rattle.vs_machine.specs.Inner.Lines.{MessageFits, ReplyFits, SentFits, LinkFits, IsIn, numbers, AreDistinct}
use Rattle.vs_machine.proofs.Frame.{put_each, put_here, put_there, put_split, put_pair}
use Rattle.vs_machine.proofs.Keeping.{KeepsHolds, KeepsLines, client_kept, link_kept}
use Rattle.vs_machine.proofs.Numbers.{distinct_push, map-push}

-- a phase for which no message lies in a line
abbrev pub IsCalm : Phase → Type 0
IsCalm (Waiting e n k) = ⊥
IsCalm (WaitingLast e n) = ⊥
IsCalm phase = Unit {0}

abbrev pub IsQuiet : Option Transfer → Type 0
IsQuiet None = Unit {0}
IsQuiet (Some t) = IsCalm t.phase

-- a transfer that waits isn't quiet
pub not_quiet : (f : ℕ → Option Transfer) (x y : ℕ) (phase : Phase) → IsQuiet (f x) → IsIn f x y phase → IsCalm phase
not_quiet f x y phase quiet h = subst IsCalm h.phase_is (subst IsQuiet h.there quiet)

-- what is in a phase at another set stays there
pub in_stays : (f : ℕ → Option Transfer) (x : ℕ) (v : Option Transfer) (z y : ℕ) (phase : Phase) → z ≢ x → IsIn f z y phase → IsIn (put f x v) z y phase
in_stays f x v z y phase ne h = record { it = h.it; there = put_there f x v z ne ∙ h.there; to = h.to; phase_is = h.phase_is }

pub waits_stays : (f : ℕ → Option Transfer) (x : ℕ) (v : Option Transfer) (z y e n : ℕ) (k : Option (List ℕ)) → IsQuiet (f x) → IsIn f z y (Waiting e n k) → IsIn (put f x v) z y (Waiting e n k)
waits_stays f x v z y e n k quiet h = elim (cases_eq z x) [
  | inl is ↦ absurd (not_quiet f x y (Waiting e n k) quiet (subst (λ q. IsIn f q y (Waiting e n k)) is h))
  | inr ne ↦ in_stays f x v z y (Waiting e n k) ne h
]

pub ends_stays : (f : ℕ → Option Transfer) (x : ℕ) (v : Option Transfer) (z y e n : ℕ) → IsQuiet (f x) → IsIn f z y (WaitingLast e n) → IsIn (put f x v) z y (WaitingLast e n)
ends_stays f x v z y e n quiet h = elim (cases_eq z x) [
  | inl is ↦ absurd (not_quiet f x y (WaitingLast e n) quiet (subst (λ q. IsIn f q y (WaitingLast e n)) is h))
  | inr ne ↦ in_stays f x v z y (WaitingLast e n) ne h
]

module _ (n o : ℕ) (b : Bucket) (x : ℕ) (v : Option Transfer) where
  abbrev pub moved : Bucket
  moved = with_transfer b x v

  pub moved_fits : BucketFits n o b → ((t : Transfer) → v ≡ Some t → TransferFits n b.entry b.rows x t) → BucketFits n o moved
  moved_fits f fits = record {
    placed = f.placed;
    named = f.named;
    stored = f.stored;
    owned = f.owned;
    transfers = λ z t h. elim (put_split b.transfer x v z (Some t) h) [
      | inl e ↦ subst (λ q. TransferFits n b.entry b.rows q t) (sym e.0) (fits t e.1)
      | inr e ↦ f.transfers z t e.1
    ];
    replayed = f.replayed;
  }

  pub moved_holds : KeepsHolds b moved
  moved_holds y posted Ro h = h
  moved_holds y posted Rw h = h

  pub moved_lines : IsQuiet (b.transfer x) → KeepsLines b moved
  moved_lines quiet = record { calls = calls; replies = replies }
    where
      calls : (e z y t : ℕ) (m : Message) → MessageFits e b z y t m → MessageFits e moved z y t m
      calls e z y t (Chunk q page) h = (waits_stays b.transfer x v z y e t _ quiet h.0, h.1)
      calls e z y t (Last q) h = ends_stays b.transfer x v z y e t quiet h
      calls e z y t (Stat q) h = tt

      replies : (e z y t : ℕ) (r : Reply) → ReplyFits e b z y t r → ReplyFits e moved z y t r
      replies e z y t reply.Took (inl h) = inl (ends_stays b.transfer x v z y e t quiet h)
      replies e z y t reply.Took (inr h) = inr (record { key = h.key; waits = waits_stays b.transfer x v z y e t h.key quiet h.waits; received = h.received })
      replies e z y t (reply.Not r) (inl h) = inl (ends_stays b.transfer x v z y e t quiet h)
      replies e z y t (reply.Not r) (inr h) = inr (record { key = h.key; waits = waits_stays b.transfer x v z y e t h.key quiet h.waits })
      replies e z y t (reply.State st live) h = tt

-- nothing lies in a line for it, and nothing else changes
pub move_keeps : (own : ℕ → ℕ) (s : State) (x b : ℕ) (v : Option Transfer) → Inner own s → IsQuiet ((s.bucket b).transfer x)
    → ((t : Transfer) → v ≡ Some t → TransferFits (sets_of s) (s.bucket b).entry (s.bucket b).rows x t) → Inner own (put_bucket s b (with_transfer (s.bucket b) x v))
move_keeps own s x b v i quiet fits =
    let n = sets_of s in
    let old = s.bucket b in
    record {
      buckets = put_each (λ r. BucketFits n (own r)) s.bucket b _ (moved_fits n (own b) old x v (i.buckets b) fits) i.buckets;
      clients = λ c. client_kept s.bucket b _ (s.client c) (moved_holds n (own b) old x v) (i.clients c);
      absent = i.absent;
      links = λ p q. link_kept s.bucket b _ p q (s.link p q) (moved_lines n (own b) old x v quiet) (i.links p q);
      real = i.real;
      operators = i.operators;
    }

-- ---- a message is sent

-- the next number stands on no message yet
pub fresh_number : {bs : ℕ → Bucket} {x d : ℕ} (l : Connection) (m : Message) → LinkFits bs x d l → AreDistinct (numbers (with_message l m)) × All (λ n. n < l.next + 1) (numbers (with_message l m))
fresh_number l m f =
    let ns = numbers l in
    let sent : link.Sent = record { sync = l.next; message = m } in
    let same : ns ++ l.next ∷ [] ≡ numbers (with_message l m) =
    append_assoc (map (λ h. h.sync) l.replies) (map (λ (u : link.Sent). u.sync) l.calls) (l.next ∷ []) ∙ ap (λ ks. map (λ h. h.sync) l.replies ++ ks) (sym (map-push (λ (u : link.Sent). u.sync) l.calls sent)) in (
      subst AreDistinct same (distinct_push ns l.next f.distinct f.below),
      subst (All (λ n. n < l.next + 1)) same (All-push (λ n. n < l.next + 1) ns l.next (All-weaker (λ n. n < l.next) (λ n. n < l.next + 1) (λ n h. omega arith) ns f.below) (omega arith)),
    )

-- the transfer waits, and the message that it waits for is in the line
pub sent_keeps : (own : ℕ → ℕ) (s : State) (x b d : ℕ) (v : Option Transfer) (m : Message) → Inner own s → IsQuiet ((s.bucket b).transfer x)
    → ((t : Transfer) → v ≡ Some t → TransferFits (sets_of s) (s.bucket b).entry (s.bucket b).rows x t)
    → bucket_of m ≡ b → MessageFits (s.link x d).epoch (with_transfer (s.bucket b) x v) x d (s.link x d).next m
    → Inner own (record s { bucket = put s.bucket b (with_transfer (s.bucket b) x v); link = put_at s.link x d (with_message (s.link x d) m) })
sent_keeps own s x b d v m i quiet fits is here = record {
  buckets = put_each (λ r. BucketFits n (own r)) s.bucket b new (moved_fits n (own b) old x v (i.buckets b) fits) i.buckets;
  clients = λ c. client_kept s.bucket b new (s.client c) (moved_holds n (own b) old x v) (i.clients c);
  absent = i.absent;
  links = put_pair (LinkFits next) s.link x d (with_message l m)
      (record {
        calls = All-push (SentFits l.epoch next x d) l.calls (record { sync = l.next; message = m }) (lines x d).calls
            (subst (λ q. MessageFits l.epoch (next q) x d l.next m) (sym is) (subst (λ u. MessageFits l.epoch u x d l.next m) (sym (put_here s.bucket b new)) here));
        replies = (lines x d).replies;
        distinct = fresh.0;
        below = fresh.1;
      })
      lines;
  real = i.real;
  operators = i.operators;
}
  where
    n : ℕ
    n = sets_of s

    old : Bucket
    old = s.bucket b

    l : Connection
    l = s.link x d

    new : Bucket
    new = with_transfer old x v

    next : ℕ → Bucket
    next = put s.bucket b new

    fresh : AreDistinct (numbers (with_message l m)) × All (λ n. n < l.next + 1) (numbers (with_message l m))
    fresh = fresh_number l m (i.links x d)

    lines : (z y : ℕ) → LinkFits next z y (s.link z y)
    lines z y = link_kept s.bucket b new z y (s.link z y) (moved_lines n (own b) old x v quiet) (i.links z y)
