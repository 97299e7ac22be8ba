-- A reply is heard, and the transfer that waited for it goes on.
use Rattle.std.proofs.Common.{◌≡◌, ℕ, inl, inr, ◌<◌, refl, sym, ap, subst, ◌∙◌, List, [], ◌∷◌, ◌++◌, Option, Some, None}
use Rattle.std.specs.Prelude.{◌≢◌, ◌⊎◌, ◌==◌, not, if◌then◌else◌, All, map}
use Rattle.std.proofs.lemmas.Bool.{cases_eq, eq-eqb}
use Rattle.std.proofs.lemmas.List.Elements.{All-head, All-tail}
use Rattle.vs_rows.specs.RowMap.{RowMap, IsRising, rows_above}
use Rattle.vs_space.specs.declared.reply.Reply.{Reply}
use Rattle.vs_space.specs.declared.reply.Reply.TheVariants as reply
use Rattle.vs_space.specs.declared.status.Status.TheVariants.{Sending}
use Rattle.vs_link.specs.Connection.{Connection, Message, Chunk, Last, Stat, rest, without_reply}
use Rattle.vs_link.specs.declared.message.Heard.{Heard}
use Rattle.vs_send.specs.Phases.{heard_phase, taken_phase}
use Rattle.vs_send.specs.declared.transfer.Phase.{Phase}
use Rattle.vs_send.specs.declared.transfer.Phase.TheVariants.{Ready, Waiting, Copied, WaitingLast, Refused, Done}
use Rattle.vs_send.specs.declared.transfer.Transfer.{Transfer}
use Rattle.vs_machine.specs.Tables.{put, put_at}
use Rattle.vs_machine.specs.State.{State, Bucket, sets_of, with_transfer}
use Rattle.vs_machine.specs.Kinds.Sender.{in_phase}
use Rattle.vs_machine.specs.Kinds.Connections.{heard_by, has_more, is_null}
use Rattle.vs_machine.specs.Whole.{Inner}
use Rattle.vs_machine.specs.Inner.Phases.{PhaseFits}
use Rattle.vs_machine.specs.Inner.Copying.{CopyFits, HasReceived}
use Rattle.vs_machine.specs.Inner.Buckets.{BucketFits, TransferFits}
use Rattle.vs_machine.specs.Inner.Lines.{MessageFits, ReplyFits, HeardFits, LinkFits, IsIn, numbers, AreDistinct}
use Rattle.vs_machine.proofs.Frame.{put_each, put_pair_others}
use Rattle.vs_machine.proofs.Keeping.{client_kept, calls_kept_at, replies_kept_at}
use Rattle.vs_machine.proofs.Numbers.{All-before, All-behind, All-unmap}
use Rattle.vs_machine.proofs.Owners.{phase_of}
use Rattle.vs_machine.proofs.Pages.{all_to}
use Rattle.vs_machine.proofs.Kept.Moving.{in_stays, moved_fits, moved_holds}
use Rattle.vs_machine.proofs.Kept.Delivering.{sync_of, heard_sync}

-- the phase that waits with this epoch and number
abbrev pub WaitsFor : ℕ → ℕ → Phase → Type 0
WaitsFor e n p = ((k : Option (List ℕ)) × (p ≡ Waiting e n k)) ⊎ (p ≡ WaitingLast e n)

-- a transfer that waited for n goes on: every message but that one keeps its place
module _ (b : Bucket) (x y e n : ℕ) (p : Phase) (waits : WaitsFor e n p) (at : IsIn b.transfer x y p) (v : Option Transfer) where
  abbrev IsOther : ℕ → ℕ → ℕ → Type 0
  IsOther z w k = z ≡ x → w ≡ y → k ≢ n

  abbrev gone_on : Bucket
  gone_on = with_transfer b x v

  stays : (z w g k : ℕ) (r : Phase) → WaitsFor g k r → IsOther z w k → IsIn b.transfer z w r → IsIn gone_on.transfer z w r
  stays z w g k r ws other h = elim (cases_eq z x) [
    | inl is ↦
        let one : at.it ≡ h.it = cc (ap b.transfer is, at.there, h.there) in
        let phases : p ≡ r = sym at.phase_is ∙ ap (λ (q : Transfer). q.phase) one ∙ h.phase_is in
        absurd (other is (sym h.to ∙ ap (λ (q : Transfer). q.dest) (sym one) ∙ at.to) (same waits ws phases))
    | inr ne ↦ in_stays b.transfer x v z w r ne h
  ]
    where
      same : WaitsFor e n p → WaitsFor g k r → p ≡ r → k ≡ n
      same (inl a) (inl c) q = by (sym a.1 ∙ q ∙ c.1)
        where
          by : Waiting e n a.0 ≡ Waiting g k c.0 → k ≡ n
          by h = cc
      same (inl a) (inr c) q = absurd (cc (a.1, c, q))
      same (inr a) (inl c) q = absurd (cc (a, c.1, q))
      same (inr a) (inr c) q = cc

  pub calls_stay : (g z w k : ℕ) (m : Message) → IsOther z w k → MessageFits g b z w k m → MessageFits g gone_on z w k m
  calls_stay g z w k (Chunk q page) o h = (stays z w g k (Waiting g k _) (inl (_, refl)) o h.0, h.1)
  calls_stay g z w k (Last q) o h = stays z w g k (WaitingLast g k) (inr refl) o h
  calls_stay g z w k (Stat q) o h = tt

  pub replies_stay : (g z w k : ℕ) (r : Reply) → IsOther z w k → ReplyFits g b z w k r → ReplyFits g gone_on z w k r
  replies_stay g z w k reply.Took o (inl h) = inl (stays z w g k (WaitingLast g k) (inr refl) o h)
  replies_stay g z w k reply.Took o (inr h) = inr (record { key = h.key; waits = stays z w g k (Waiting g k h.key) (inl (h.key, refl)) o h.waits; received = h.received })
  replies_stay g z w k (reply.Not f) o (inl h) = inl (stays z w g k (WaitingLast g k) (inr refl) o h)
  replies_stay g z w k (reply.Not f) o (inr h) = inr (record { key = h.key; waits = stays z w g k (Waiting g k h.key) (inl (h.key, refl)) o h.waits })
  replies_stay g z w k (reply.State st live) o h = tt

-- what a reply that fits does to the transfer
pub record Moves (n o e : ℕ) (b : Bucket) (x y : ℕ) (heard : Heard) : Type 0 where
  pub before : Phase
  pub waits : WaitsFor e heard.sync before
  pub at : IsIn b.transfer x y before
  pub after : Transfer
  pub becomes : heard_by (b.transfer x) (b.rows x) y heard ≡ Some after
  pub fits : TransferFits n b.entry b.rows x after

becomes_by : (b : Bucket) (x y : ℕ) (p q : Phase) (heard : Heard) (at : IsIn b.transfer x y p) → heard_phase p heard.sync heard.reply (has_more (b.rows x) p) ≡ q → heard_by (b.transfer x) (b.rows x) y heard ≡ Some (in_phase at.it q)
becomes_by b x y p q heard at e =
    ap (λ o. heard_by o (b.rows x) y heard) at.there ∙ ap (λ t. Some (if t then in_phase at.it (heard_phase at.it.phase heard.sync heard.reply (has_more (b.rows x) at.it.phase)) else at.it)) (eq-eqb at.it.dest y at.to)
    ∙ ap (λ r. Some (in_phase at.it (heard_phase r heard.sync heard.reply (has_more (b.rows x) r)))) at.phase_is ∙ ap (λ r. Some (in_phase at.it r)) e

-- a reply for a transfer
abbrev pub IsTurn : Reply → Type 0
IsTurn reply.Took = Unit {0}
IsTurn (reply.Not f) = Unit {0}
IsTurn (reply.State st live) = ⊥

-- the transfer in the phase that it goes on to fits
went_on : (n o : ℕ) (b : Bucket) (x y : ℕ) (p q : Phase) → BucketFits n o b → (at : IsIn b.transfer x y p) → PhaseFits y (b.entry x) q → CopyFits b.entry b.rows x y q → TransferFits n b.entry b.rows x (in_phase at.it q)
went_on n o b x y p q f at ph cp =
    let old = f.transfers x at.it at.there in
    record { apart = old.apart; within = old.within; phase = subst (λ d. PhaseFits d (b.entry x) q) (sym at.to) ph; copy = subst (λ d. CopyFits b.entry b.rows x d q) (sym at.to) cp }

-- after rows were taken: more are to be sent, or all are there
pub record Goes (b : Bucket) (x y : ℕ) (k : Option (List ℕ)) : Type 0 where
  pub to : Phase
  pub is : (e t : ℕ) → heard_phase (Waiting e t k) t reply.Took (has_more (b.rows x) (Waiting e t k)) ≡ to
  pub phase : (d : ℕ) → b.entry x ≡ Some (Sending d) → PhaseFits d (b.entry x) to
  pub copy : CopyFits b.entry b.rows x y to

goes : (b : Bucket) (x y : ℕ) (k : Option (List ℕ)) → IsRising (b.rows x) → HasReceived b.entry b.rows x y k → Goes b x y k
goes b x y None rising h = record {
  to = Copied;
  is = λ e t. ap (λ m. if t == t then taken_phase (Waiting e t None) (not (is_null m)) else Waiting e t None) h.2 ∙ ap (λ u. if u then Copied else Waiting e t None) (eq-eqb t t refl);
  phase = λ d s. s;
  copy = (h.0, h.1 ∙ sym h.2);
}
goes b x y (Some k) rising h = by (rows_above (b.rows x) (Some k)) refl
  where
    by : (m : RowMap) → rows_above (b.rows x) (Some k) ≡ m → Goes b x y (Some k)
    by [] none = record {
      to = Copied;
      is = λ e t. ap (λ m. if t == t then taken_phase (Waiting e t (Some k)) (not (is_null m)) else Waiting e t (Some k)) none ∙ ap (λ u. if u then Copied else Waiting e t (Some k)) (eq-eqb t t refl);
      phase = λ d s. s;
      copy = (h.0, h.1 ∙ all_to k (b.rows x) rising none);
    }
    by (r ∷ m) some = record {
      to = Ready (Some k);
      is = λ e t. ap (λ m. if t == t then taken_phase (Waiting e t (Some k)) (not (is_null m)) else Waiting e t (Some k)) some ∙ ap (λ u. if u then Ready (Some k) else Waiting e t (Some k)) (eq-eqb t t refl);
      phase = λ d s. s;
      copy = (h.0, h.1, λ none. absurd (cc (none, some)));
    }

moves_by : (n o e : ℕ) (b : Bucket) (x y t c : ℕ) (r : Reply) → IsTurn r → BucketFits n o b → ReplyFits e b x y t r → Moves n o e b x y (record { sync = t; bucket = c; reply = r })
moves_by n o e b x y t c (reply.State st live) turn f h = absurd turn
moves_by n o e b x y t c reply.Took turn f (inl at) =
    let heard : Heard = record { sync = t; bucket = c; reply = reply.Took } in
    record {
      before = WaitingLast e t;
      waits = inr refl;
      at = at;
      after = in_phase at.it Done;
      becomes = becomes_by b x y (WaitingLast e t) Done heard at (ap (λ u. if u then Done else WaitingLast e t) (eq-eqb t t refl));
      fits = went_on n o b x y (WaitingLast e t) Done f at (phase_of n o b x y (WaitingLast e t) f at) tt;
    }
moves_by n o e b x y t c reply.Took turn f (inr h) =
    let heard : Heard = record { sync = t; bucket = c; reply = reply.Took } in
    let g = goes b x y h.key (f.stored.rising x) h.received in
    record {
      before = Waiting e t h.key;
      waits = inl (h.key, refl);
      at = h.waits;
      after = in_phase h.waits.it g.to;
      becomes = becomes_by b x y (Waiting e t h.key) g.to heard h.waits (g.is e t);
      fits = went_on n o b x y (Waiting e t h.key) g.to f h.waits (g.phase y (phase_of n o b x y (Waiting e t h.key) f h.waits)) g.copy;
    }
moves_by n o e b x y t c (reply.Not r) turn f (inl at) =
    let heard : Heard = record { sync = t; bucket = c; reply = reply.Not r } in
    record {
      before = WaitingLast e t;
      waits = inr refl;
      at = at;
      after = in_phase at.it (Refused r);
      becomes = becomes_by b x y (WaitingLast e t) (Refused r) heard at (ap (λ u. if u then Refused r else WaitingLast e t) (eq-eqb t t refl));
      fits = went_on n o b x y (WaitingLast e t) (Refused r) f at (inr (phase_of n o b x y (WaitingLast e t) f at)) tt;
    }
moves_by n o e b x y t c (reply.Not r) turn f (inr h) =
    let heard : Heard = record { sync = t; bucket = c; reply = reply.Not r } in
    record {
      before = Waiting e t h.key;
      waits = inl (h.key, refl);
      at = h.waits;
      after = in_phase h.waits.it (Refused r);
      becomes = becomes_by b x y (Waiting e t h.key) (Refused r) heard h.waits (ap (λ u. if u then Refused r else Waiting e t h.key) (eq-eqb t t refl));
      fits = went_on n o b x y (Waiting e t h.key) (Refused r) f h.waits (inl (phase_of n o b x y (Waiting e t h.key) f h.waits)) tt;
    }

pub moves : (n o e : ℕ) (b : Bucket) (x y : ℕ) (heard : Heard) → IsTurn heard.reply → BucketFits n o b → ReplyFits e b x y heard.sync heard.reply → Moves n o e b x y heard
moves n o e b x y heard turn f h = moves_by n o e b x y heard.sync heard.bucket heard.reply turn f h

pub turn_keeps : (own : ℕ → ℕ) (s : State) (x y : ℕ) (heard : Heard) → IsTurn heard.reply → Inner own s → (s.link x y).replies ≡ heard ∷ rest (s.link x y).replies
    → Inner own (let old = s.bucket heard.bucket in record s { bucket = put s.bucket heard.bucket (with_transfer old x (heard_by (old.transfer x) (old.rows x) y heard)); link = put_at s.link x y (without_reply (s.link x y)) })
turn_keeps own s x y heard turn i is =
    let n = sets_of s in
    let q = heard.bucket in
    let old = s.bucket q in
    let l = s.link x y in
    let f = i.links x y in
    let P : Heard → Type 0 = HeardFits l.epoch s.bucket x y in
    let all = subst (All P) is f.replies in
    let m = moves n (own q) l.epoch old x y heard turn (i.buckets q) (All-head P heard (rest l.replies) all) in
    let v : Option Transfer = Some m.after in
    let new : Bucket = with_transfer old x v in
    let next : ℕ → Bucket = put s.bucket q new in
    let shorter : Connection = without_reply l in
    let same : numbers l ≡ heard.sync ∷ numbers shorter = ap (λ rs. map heard_sync rs ++ map sync_of l.calls) is in
    let distinct = subst AreDistinct same f.distinct in
    let O : ℕ → Type 0 = λ k. k ≢ heard.sync in
    let kept : Inner own (record s { bucket = next; link = put_at s.link x y shorter }) = record {
      buckets = put_each (λ u. BucketFits n (own u)) s.bucket q new (moved_fits n (own q) old x v (i.buckets q) (λ t e. let one : m.after ≡ t = cc in subst (TransferFits n old.entry old.rows x) one m.fits)) i.buckets;
      clients = λ c. client_kept s.bucket q new (s.client c) (moved_holds n (own q) old x v) (i.clients c);
      absent = i.absent;
      links = put_pair_others (LinkFits next) s.link x y shorter
          (record {
            calls = calls_kept_at s.bucket q new l.epoch x y (λ u. O (sync_of u)) l.calls (λ u ne. calls_stay old x y l.epoch heard.sync m.before m.waits m.at v l.epoch x y u.sync u.message (λ _ _. ne))
                (All-unmap O sync_of l.calls (All-behind O (map heard_sync (rest l.replies)) (map sync_of l.calls) distinct.0)) f.calls;
            replies = replies_kept_at s.bucket q new l.epoch x y (λ u. O (heard_sync u)) (rest l.replies) (λ u ne. replies_stay old x y l.epoch heard.sync m.before m.waits m.at v l.epoch x y u.sync u.reply (λ _ _. ne))
                (All-unmap O heard_sync (rest l.replies) (All-before O (map heard_sync (rest l.replies)) (map sync_of l.calls) distinct.0)) (All-tail P heard (rest l.replies) all);
            distinct = distinct.1;
            below = All-tail (λ k. k < l.next) heard.sync (numbers shorter) (subst (All (λ k. k < l.next)) same f.below);
          })
          (λ z w ne. let g = i.links z w in record {
            calls = calls_kept_at s.bucket q new (s.link z w).epoch z w (λ u. Unit {0}) (s.link z w).calls (λ u _. calls_stay old x y l.epoch heard.sync m.before m.waits m.at v (s.link z w).epoch z w u.sync u.message (λ e h. absurd (ne e h))) (λ k d lt. tt) g.calls;
            replies = replies_kept_at s.bucket q new (s.link z w).epoch z w (λ u. Unit {0}) (s.link z w).replies (λ u _. replies_stay old x y l.epoch heard.sync m.before m.waits m.at v (s.link z w).epoch z w u.sync u.reply (λ e h. absurd (ne e h))) (λ k d lt. tt) g.replies;
            distinct = g.distinct;
            below = g.below;
          });
      real = i.real;
      operators = i.operators;
    } in
    subst (λ o. Inner own (record s { bucket = put s.bucket q (with_transfer old x o); link = put_at s.link x y shorter })) (sym m.becomes) kept
