-- What is known of a transfer that waits, by its connection, its bucket and its phase, and stays known.
use Rattle.std.proofs.Common.{◌≡◌, ℕ, zero, suc, inl, inr, ◌+◌, ◌<◌, ◌≤◌, true, false, refl, sym, ap, subst, ◌∙◌, arith, List, [], ◌∷◌, ◌++◌, length, Option, Some}
use Rattle.std.specs.Prelude.{◌≢◌, ◌⊎◌, Contains, slice_index_or}
use Rattle.std.proofs.lemmas.Bool.{eqb-false}
use Rattle.std.proofs.lemmas.List.Elements.{Contains-append_left, Contains-push}
use Rattle.vs_rows.specs.RowMap.{RowMap}
use Rattle.vs_space.specs.declared.reply.Reply.{Reply}
use Rattle.vs_space.specs.declared.reply.Reply.TheVariants as reply
use Rattle.vs_space.specs.declared.reply.RecvFault.{RecvFault}
use Rattle.vs_link.specs.Connection.{Connection, Sent, Message, Chunk, Last, Stat, bucket_of, rest, with_message, without_reply, closed}
use Rattle.vs_link.specs.declared.message.Heard.{Heard}
use Rattle.vs_send.specs.Phases.{is_of_transfer, waits_for}
use Rattle.vs_send.specs.declared.transfer.Phase.{Phase}
use Rattle.vs_send.specs.declared.transfer.Phase.TheVariants.{Draining, Ready, Waiting, Copied, Sealed, WaitingLast, Refused, Done}
use Rattle.vs_send.specs.declared.transfer.Transfer.{Transfer}
use Rattle.vs_machine.specs.State.{Bucket}
use Rattle.vs_machine.specs.Kinds.Connections.{answered}
use Rattle.vs_machine.specs.Inner.Epochs.{EpochFits}
use Rattle.vs_machine.specs.Inner.Lines.{IsSentIn, IsAnsweredIn, IsPageUnderWay, IsLastUnderWay, WaitFits}

-- each transfer, in its phase, and the connection to its destination
abbrev pub Waits : (Connection → ℕ → Phase → Type 0) → (ℕ → Bucket) → (ℕ → ℕ → Connection) → Type 0
Waits P bs ls = (b x : ℕ) (t : Transfer) → (bs b).transfer x ≡ Some t → P (ls x t.dest) b t.phase

-- the phase waits for no reply
abbrev pub IsStill : Phase → Type 0
IsStill (Waiting e n k) = ⊥
IsStill (WaitingLast e n) = ⊥
IsStill phase = Unit {0}

-- the message may be answered by this
abbrev pub IsAnswer : Message → Reply → Type 0
IsAnswer (Stat b) r = Unit {0}
IsAnswer (Chunk b page) reply.Took = Unit {0}
IsAnswer (Chunk b page) (reply.Not f) = Unit {0}
IsAnswer (Chunk b page) (reply.State st live) = ⊥
IsAnswer (Last b) reply.Took = Unit {0}
IsAnswer (Last b) (reply.Not f) = Unit {0}
IsAnswer (Last b) (reply.State st live) = ⊥

-- the reply isn't the one that the bucket's transfer waits for
abbrev pub IsOther : ℕ → Phase → Heard → Type 0
IsOther b p heard = is_of_transfer heard.reply ≡ true → heard.bucket ≡ b → waits_for p heard.sync ≡ false

pub record Stable (P : Connection → ℕ → Phase → Type 0) : Type 0 where
  pub still : (l : Connection) (b : ℕ) (p : Phase) → IsStill p → P l b p
  pub sent : (l : Connection) (b : ℕ) (p : Phase) (m : Message) → P l b p → P (with_message l m) b p
  pub paged : (l : Connection) (b : ℕ) (page : RowMap) (key : Option (List ℕ)) → P (with_message l (Chunk b page)) b (Waiting l.epoch l.next key)
  pub ended : (l : Connection) (b : ℕ) → P (with_message l (Last b)) b (WaitingLast l.epoch l.next)
  pub answers : (l : Connection) (b : ℕ) (p : Phase) (m : Sent) (r : Reply) → l.calls ≡ m ∷ rest l.calls → IsAnswer m.message r → P l b p → P (answered l m r) b p
  pub heard : (l : Connection) (b : ℕ) (p : Phase) (h : Heard) → l.replies ≡ h ∷ rest l.replies → IsOther b p h → P l b p → P (without_reply l) b p
  pub cut : (l : Connection) (b : ℕ) (p : Phase) → P l b p → P (closed l) b p

-- ---- epochs

epoch_still : (l : Connection) (p : Phase) → IsStill p → EpochFits l p
epoch_still l (Draining n) h = tt
epoch_still l (Ready k) h = tt
epoch_still l (Waiting e n k) h = absurd h
epoch_still l Copied h = tt
epoch_still l Sealed h = tt
epoch_still l (WaitingLast e n) h = absurd h
epoch_still l (Refused f) h = tt
epoch_still l Done h = tt

-- the epoch of a connection doesn't fall
epoch_rises : (l m : Connection) (p : Phase) → l.epoch ≤ m.epoch → EpochFits l p → EpochFits m p
epoch_rises l m (Draining n) le h = tt
epoch_rises l m (Ready k) le h = tt
epoch_rises l m (Waiting e n k) le h = omega (arith, le, h)
epoch_rises l m Copied le h = tt
epoch_rises l m Sealed le h = tt
epoch_rises l m (WaitingLast e n) le h = omega (arith, le, h)
epoch_rises l m (Refused f) le h = tt
epoch_rises l m Done le h = tt

pub epochs_stable : Stable (λ l b p. EpochFits l p)
epochs_stable = record {
  still = λ l b p. epoch_still l p;
  sent = λ l b p m. epoch_rises l (with_message l m) p (omega arith);
  paged = λ l b page key. omega arith;
  ended = λ l b. omega arith;
  answers = λ l b p m r is answer. epoch_rises l (answered l m r) p (omega arith);
  heard = λ l b p h is other. epoch_rises l (without_reply l) p (omega arith);
  cut = λ l b p. epoch_rises l (closed l) p (omega arith);
}

-- ---- what is under way

-- an element of a list is its head, or behind it
pub behind : {A : Type 0} (x z : A) (xs : List A) → Contains (x ∷ xs) z → (x ≡ z) ⊎ Contains xs z
behind {A} x z xs c = by c.0 c.1 c.2
  where
    by : (k : ℕ) → k < length (x ∷ xs) → slice_index_or (x ∷ xs) k z ≡ z → (x ≡ z) ⊎ Contains xs z
    by zero lt e = inl e
    by (suc k) lt e = inr (k, omega (arith, lt), e)

abbrev IsAnsweredBy : Connection → ℕ → ℕ → Type 0
IsAnsweredBy l n b = IsAnsweredIn l n b reply.Took ⊎ ((f : RecvFault) × IsAnsweredIn l n b (reply.Not f))

-- a message for a transfer
abbrev IsTurn : Message → Type 0
IsTurn (Chunk b page) = Unit {0}
IsTurn (Last b) = Unit {0}
IsTurn (Stat b) = ⊥

answers_more : (l : Connection) (n b : ℕ) (m : Sent) (r : Reply) → IsAnsweredBy l n b → IsAnsweredBy (answered l m r) n b
answers_more l n b m r (inl c) = inl (Contains-append_left l.replies _ _ c)
answers_more l n b m r (inr c) = inr (c.0, Contains-append_left l.replies _ _ c.1)

-- a message is still in its line, or its answer is in the line of replies
sent_answered : (l : Connection) (n : ℕ) (u : Message) (m : Sent) (r : Reply) → l.calls ≡ m ∷ rest l.calls → IsAnswer m.message r → IsTurn u → IsSentIn l n u
    → IsSentIn (answered l m r) n u ⊎ IsAnsweredBy (answered l m r) n (bucket_of u)
sent_answered l n u m r is answer turn c =
    let it : Sent = record { sync = n; message = u } in
    elim (behind m it (rest l.calls) (subst (λ ms. Contains ms it) is c)) [
      | inl e ↦ inr (by u r e turn (subst (λ (v : Sent). IsAnswer v.message r) e answer))
      | inr d ↦ inl d
    ]
  where
    put_in : (v : Message) (q : Reply) → m ≡ (record { sync = n; message = v }) → Contains (l.replies ++ (record { sync = m.sync; bucket = bucket_of m.message; reply = q }) ∷ []) (record { sync = n; bucket = bucket_of v; reply = q })
    put_in v q e =
        let there : Heard = record { sync = m.sync; bucket = bucket_of m.message; reply = q } in
        let same : there ≡ (record { sync = n; bucket = bucket_of v; reply = q }) = ap (λ (w : Sent). record { sync = w.sync; bucket = bucket_of w.message; reply = q }) e in
        subst (Contains (l.replies ++ there ∷ [])) same (Contains-push l.replies there)

    by : (v : Message) (q : Reply) → m ≡ (record { sync = n; message = v }) → IsTurn v → IsAnswer v q → IsAnsweredBy (answered l m q) n (bucket_of v)
    by (Chunk b page) reply.Took e h a = inl (put_in (Chunk b page) reply.Took e)
    by (Chunk b page) (reply.Not f) e h a = inr (f, put_in (Chunk b page) (reply.Not f) e)
    by (Chunk b page) (reply.State st live) e h a = absurd a
    by (Last b) reply.Took e h a = inl (put_in (Last b) reply.Took e)
    by (Last b) (reply.Not f) e h a = inr (f, put_in (Last b) (reply.Not f) e)
    by (Last b) (reply.State st live) e h a = absurd a
    by (Stat b) q e h a = absurd h

-- an answer that isn't heard yet is behind the first reply
answers_heard : (l : Connection) (n b : ℕ) (h : Heard) → l.replies ≡ h ∷ rest l.replies → (is_of_transfer h.reply ≡ true → h.bucket ≡ b → n ≢ h.sync) → IsAnsweredBy l n b → IsAnsweredBy (without_reply l) n b
answers_heard l n b h is other a = by a
  where
    left : (r : Reply) → is_of_transfer r ≡ true → IsAnsweredIn l n b r → IsAnsweredIn (without_reply l) n b r
    left r turn c =
        let it : Heard = record { sync = n; bucket = b; reply = r } in
        elim (behind h it (rest l.replies) (subst (λ rs. Contains rs it) is c)) [
          | inl e ↦ absurd (other (ap (λ (v : Heard). is_of_transfer v.reply) e ∙ turn) (ap (λ (v : Heard). v.bucket) e) (sym (ap (λ (v : Heard). v.sync) e)))
          | inr d ↦ d
        ]

    by : IsAnsweredBy l n b → IsAnsweredBy (without_reply l) n b
    by (inl c) = inl (left reply.Took refl c)
    by (inr c) = inr (c.0, left (reply.Not c.0) refl c.1)

-- ---- the two together: what is waited for in an epoch that has begun is under way

abbrev pub Both : Connection → ℕ → Phase → Type 0
Both l b p = WaitFits l b p × EpochFits l p

both_still : (l : Connection) (b : ℕ) (p : Phase) → IsStill p → Both l b p
both_still l b (Draining n) h = (tt, tt)
both_still l b (Ready k) h = (tt, tt)
both_still l b (Waiting e n k) h = absurd h
both_still l b Copied h = (tt, tt)
both_still l b Sealed h = (tt, tt)
both_still l b (WaitingLast e n) h = absurd h
both_still l b (Refused f) h = (tt, tt)
both_still l b Done h = (tt, tt)

both_sent : (l : Connection) (b : ℕ) (p : Phase) (m : Message) → Both l b p → Both (with_message l m) b p
both_sent l b (Waiting e n k) m h = (λ is. by (h.0 is), h.1)
  where
    by : IsPageUnderWay l n b → IsPageUnderWay (with_message l m) n b
    by (inl c) = inl (c.0, Contains-append_left l.calls _ _ c.1)
    by (inr c) = inr c
both_sent l b (WaitingLast e n) m h = (λ is. by (h.0 is), h.1)
  where
    by : IsLastUnderWay l n b → IsLastUnderWay (with_message l m) n b
    by (inl c) = inl (Contains-append_left l.calls _ _ c)
    by (inr c) = inr c
both_sent l b (Draining n) m h = (tt, tt)
both_sent l b (Ready k) m h = (tt, tt)
both_sent l b Copied m h = (tt, tt)
both_sent l b Sealed m h = (tt, tt)
both_sent l b (Refused f) m h = (tt, tt)
both_sent l b Done m h = (tt, tt)

both_answers : (l : Connection) (b : ℕ) (p : Phase) (m : Sent) (r : Reply) → l.calls ≡ m ∷ rest l.calls → IsAnswer m.message r → Both l b p → Both (answered l m r) b p
both_answers l b (Waiting e n k) m r is answer h = (λ at. by (h.0 at), h.1)
  where
    by : IsPageUnderWay l n b → IsPageUnderWay (answered l m r) n b
    by (inl c) = elim (sent_answered l n (Chunk b c.0) m r is answer tt c.1) [ inl d ↦ inl (c.0, d) | inr d ↦ inr d ]
    by (inr c) = inr (answers_more l n b m r c)
both_answers l b (WaitingLast e n) m r is answer h = (λ at. by (h.0 at), h.1)
  where
    by : IsLastUnderWay l n b → IsLastUnderWay (answered l m r) n b
    by (inl c) = sent_answered l n (Last b) m r is answer tt c
    by (inr c) = inr (answers_more l n b m r c)
both_answers l b (Draining n) m r is answer h = (tt, tt)
both_answers l b (Ready k) m r is answer h = (tt, tt)
both_answers l b Copied m r is answer h = (tt, tt)
both_answers l b Sealed m r is answer h = (tt, tt)
both_answers l b (Refused f) m r is answer h = (tt, tt)
both_answers l b Done m r is answer h = (tt, tt)

both_heard : (l : Connection) (b : ℕ) (p : Phase) (g : Heard) → l.replies ≡ g ∷ rest l.replies → IsOther b p g → Both l b p → Both (without_reply l) b p
both_heard l b (Waiting e n k) g is other h = (λ at. by (h.0 at), h.1)
  where
    by : IsPageUnderWay l n b → IsPageUnderWay (without_reply l) n b
    by (inl c) = inl c
    by (inr c) = inr (answers_heard l n b g is (λ turn here. eqb-false n g.sync (other turn here)) c)
both_heard l b (WaitingLast e n) g is other h = (λ at. by (h.0 at), h.1)
  where
    by : IsLastUnderWay l n b → IsLastUnderWay (without_reply l) n b
    by (inl c) = inl c
    by (inr c) = inr (answers_heard l n b g is (λ turn here. eqb-false n g.sync (other turn here)) c)
both_heard l b (Draining n) g is other h = (tt, tt)
both_heard l b (Ready k) g is other h = (tt, tt)
both_heard l b Copied g is other h = (tt, tt)
both_heard l b Sealed g is other h = (tt, tt)
both_heard l b (Refused f) g is other h = (tt, tt)
both_heard l b Done g is other h = (tt, tt)

both_cut : (l : Connection) (b : ℕ) (p : Phase) → Both l b p → Both (closed l) b p
both_cut l b (Waiting e n k) h = (λ is. absurd (past is h.1), epoch_rises l (closed l) (Waiting e n k) (omega arith) h.1)
  where
    past : e ≡ l.epoch + 1 → e ≤ l.epoch → ⊥
    past is le = omega (arith, is, le)
both_cut l b (WaitingLast e n) h = (λ is. absurd (past is h.1), epoch_rises l (closed l) (WaitingLast e n) (omega arith) h.1)
  where
    past : e ≡ l.epoch + 1 → e ≤ l.epoch → ⊥
    past is le = omega (arith, is, le)
both_cut l b (Draining n) h = (tt, tt)
both_cut l b (Ready k) h = (tt, tt)
both_cut l b Copied h = (tt, tt)
both_cut l b Sealed h = (tt, tt)
both_cut l b (Refused f) h = (tt, tt)
both_cut l b Done h = (tt, tt)

pub both_stable : Stable Both
both_stable = record {
  still = both_still;
  sent = both_sent;
  paged = λ l b page key. (λ is. inl (page, Contains-push l.calls _), omega arith);
  ended = λ l b. (λ is. inl (Contains-push l.calls _), omega arith);
  answers = both_answers;
  heard = both_heard;
  cut = both_cut;
}
