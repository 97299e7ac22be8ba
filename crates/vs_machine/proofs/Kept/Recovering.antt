-- A set asks another about a bucket, and decides by what it hears.
use Rattle.std.proofs.Common.{◌≡◌, ℕ, Ok, inl, inr, ◌<◌, ◌≤◌, Bool, true, false, refl, sym, ap, subst, ◌∙◌, List, [], ◌∷◌, ◌++◌, Option, Some, None}
use Rattle.std.specs.Prelude.{◌≢◌, ◌⊎◌, ◌==◌, if◌then◌else◌, All, map}
use Rattle.std.proofs.lemmas.Bool.{cases_eq, eqb-true}
use Rattle.std.proofs.lemmas.List.Elements.{All-head, All-tail, All-push}
use Rattle.vs_base.specs.declared.numbers.Mode.TheVariants.{Ro, Rw}
use Rattle.vs_space.specs.declared.reply.Reply.{Reply}
use Rattle.vs_space.specs.declared.reply.Reply.TheVariants as reply
use Rattle.vs_space.specs.declared.status.Status.{Status}
use Rattle.vs_space.specs.declared.status.Status.TheVariants.{Active, Pinned, Sending, Receiving, Sent, Garbage}
use Rattle.vs_link.specs.Connection.{Connection, Message, Chunk, Last, Stat, rest, without_reply, with_message}
use Rattle.vs_link.specs.declared.message.Heard.{Heard}
use Rattle.vs_recover.specs.Decision.{decision_of}
use Rattle.vs_recover.specs.declared.decision.Decision.{Decision}
use Rattle.vs_recover.specs.declared.decision.Decision.TheVariants.{Stay, ToActive, ToGarbage}
use Rattle.vs_send.specs.declared.transfer.Phase.{Phase}
use Rattle.vs_send.specs.declared.transfer.Phase.TheVariants.{Draining, Ready, Waiting, Copied, Sealed, WaitingLast, Refused, Done}
use Rattle.vs_send.specs.declared.transfer.Transfer.{Transfer}
use Rattle.vs_machine.specs.Tables.{put, put_at}
use Rattle.vs_machine.specs.State.{State, Bucket, Ask, sets_of, with_ask}
use Rattle.vs_machine.specs.Coherence.{IsServing, IsAway, names}
use Rattle.vs_machine.specs.Kinds.Connections.{asked_set, is_set_named, is_ask, counts_at, decision_by, decided, recovered, hear, after_hear}
use Rattle.vs_machine.specs.Kinds.Recovery.{ask}
use Rattle.vs_machine.specs.Whole.{Inner}
use Rattle.vs_machine.specs.Inner.Owner.{Owns, Beside}
use Rattle.vs_machine.specs.Inner.Phases.{PhaseFits}
use Rattle.vs_machine.specs.Inner.Copying.{CopyFits}
use Rattle.vs_machine.specs.Inner.Buckets.{BucketFits}
use Rattle.vs_machine.specs.Inner.Calls.{ReadFits, HoldFits}
use Rattle.vs_machine.specs.Inner.Lines.{MessageFits, ReplyFits, SentFits, HeardFits, LinkFits, IsIn, numbers, AreDistinct}
use Rattle.vs_machine.specs.Inner.Asks.{AskFits, IsFound, AnswerFits, DecisionFits, HeardSays, AsksFit}
use Rattle.vs_machine.proofs.Frame.{put_each, put_here, put_there, put_pair}
use Rattle.vs_machine.proofs.Keeping.{KeepsHolds, KeepsLines, client_kept, link_kept}
use Rattle.vs_machine.proofs.Owners.{sending_owns, phase_of}
use Rattle.vs_machine.proofs.Possible.{both_are}
use Rattle.vs_machine.proofs.Can.Others.{can_hear, can_ask}
use Rattle.vs_machine.proofs.Kept.Moving.{fresh_number}
use Rattle.vs_machine.proofs.Kept.Taking.{no_phase, whole_fits, whole_holds, whole_calls, whole_replies}
use Rattle.vs_machine.proofs.Kept.Delivering.{head_is, sync_of, heard_sync}
use Rattle.vs_machine.proofs.Kept.Hearing.{turn_keeps}

-- ---- another ask, and nothing else

module _ (n o : ℕ) (b : Bucket) (x : ℕ) (a : Option Ask) where
  abbrev pub reasked : Bucket
  reasked = with_ask b x a

  pub reask_fits : BucketFits n o b → BucketFits n o reasked
  reask_fits f = record { placed = f.placed; named = f.named; stored = f.stored; owned = f.owned; transfers = f.transfers; replayed = f.replayed }

  pub reask_holds : KeepsHolds b reasked
  reask_holds v posted Ro h = h
  reask_holds v posted Rw h = h

  pub reask_lines : KeepsLines b reasked
  reask_lines = record { calls = calls; replies = replies }
    where
      calls : (e z w k : ℕ) (m : Message) → MessageFits e b z w k m → MessageFits e reasked z w k m
      calls e z w k (Chunk q page) h = h
      calls e z w k (Last q) h = h
      calls e z w k (Stat q) h = tt

      replies : (e z w k : ℕ) (r : Reply) → ReplyFits e b z w k r → ReplyFits e reasked z w k r
      replies e z w k reply.Took (inl h) = inl h
      replies e z w k reply.Took (inr h) = inr (record { key = h.key; waits = h.waits; received = h.received })
      replies e z w k (reply.Not f) (inl h) = inl h
      replies e z w k (reply.Not f) (inr h) = inr (record { key = h.key; waits = h.waits })
      replies e z w k (reply.State st live) h = tt

-- ---- ask

pub ask_keeps : (own : ℕ → ℕ) (s t : State) (x b : ℕ) → Inner own s → ask s x b ≡ Ok t → Inner own t
ask_keeps own s t x b i e =
    let p = can_ask s t x b e in
    let n = sets_of s in
    let old = s.bucket b in
    let y = p.y in
    let l = s.link x y in
    let a : Option Ask = Some (record { epoch = l.epoch; sync = l.next }) in
    let new : Bucket = with_ask old x a in
    let next : ℕ → Bucket = put s.bucket b new in
    let m : Message = Stat b in
    let fresh = fresh_number l m (i.links x y) in
    let lines : (z w : ℕ) → LinkFits next z w (s.link z w) = λ z w. link_kept s.bucket b new z w (s.link z w) (reask_lines n (own b) old x a) (i.links z w) in
    subst (Inner own) p.gives (record {
      buckets = put_each (λ r. BucketFits n (own r)) s.bucket b new (reask_fits n (own b) old x a (i.buckets b)) i.buckets;
      clients = λ c. client_kept s.bucket b new (s.client c) (reask_holds n (own b) old x a) (i.clients c);
      absent = i.absent;
      links = put_pair (LinkFits next) s.link x y (with_message l m) (record {
        calls = All-push (SentFits l.epoch next x y) l.calls (record { sync = l.next; message = m }) (lines x y).calls tt;
        replies = (lines x y).replies;
        distinct = fresh.0;
        below = fresh.1;
      }) lines;
      real = i.real;
      operators = i.operators;
    })

-- ---- x is sending to y without a transfer, and y isn't receiving: x is active again

module _ (n : ℕ) (b : Bucket) (x y : ℕ) (f : BucketFits n x b) (sending : b.entry x ≡ Some (Sending y)) (free : b.transfer x ≡ None) (alone : b.entry y ≢ Some (Receiving x)) where
  abbrev pub back : Bucket
  back = decided b x ToActive

  there : (v : ℕ) → v ≢ x → back.entry v ≡ b.entry v
  there v ne = put_there b.entry x _ v ne

  here : back.entry x ≡ Some Active
  here = put_here b.entry x _

  beside_back : (v : ℕ) (e : Option Status) → b.entry v ≡ e → Beside x (b.entry x) v e → Beside x (Some Active) v e
  beside_back v None is h = tt
  beside_back v (Some Garbage) is h = tt
  beside_back v (Some (Sent d)) is h = λ g. absurd cc
  beside_back v (Some (Receiving z)) is h =
      let to : y ≡ v = cc (h.1, sending) in
      absurd (alone (subst (λ q. b.entry q ≡ Some (Receiving x)) (sym to) (is ∙ ap (λ u. Some (Receiving u)) h.0)))
  beside_back v (Some Active) is h = h
  beside_back v (Some Pinned) is h = h
  beside_back v (Some (Sending z)) is h = h

  holders : (z : ℕ) (t : Transfer) → b.transfer z ≡ Some t → z ≢ x
  holders z t h e = absurd (cc (ap b.transfer e, h, free))

  back_copies : (z d : ℕ) (p : Phase) → z ≢ x → PhaseFits d (b.entry z) p → CopyFits back.entry b.rows z d p
  back_copies z d (Ready k) ne ph = absurd (ne (sending_owns x b.entry z d f.placed ph))
  back_copies z d Copied ne ph = absurd (ne (sending_owns x b.entry z d f.placed ph))
  back_copies z d (Draining g) ne ph = tt
  back_copies z d (Waiting g k l) ne ph = tt
  back_copies z d Sealed ne ph = tt
  back_copies z d (WaitingLast g k) ne ph = tt
  back_copies z d (Refused r) ne ph = tt
  back_copies z d Done ne ph = tt

  pub back_fits : BucketFits n x back
  back_fits = record {
    placed = record {
      owner = subst (Owns x) (sym here) tt;
      beside = λ v ne. subst (λ e. Beside x e v (back.entry v)) (sym here) (subst (Beside x (Some Active) v) (sym (there v ne)) (beside_back v (b.entry v) refl (f.placed.beside v ne)));
    };
    named = put_each (λ q (e : Option Status). (z : ℕ) → names e ≡ Some z → (z ≢ q) × (1 ≤ z) × (z ≤ n)) b.entry x (Some Active) (λ z h. absurd cc) f.named;
    stored = record {
      empty = put_each (λ q (e : Option Status). e ≡ None → b.rows q ≡ []) b.entry x (Some Active) (λ e. absurd cc) f.stored.empty;
      rising = f.stored.rising;
    };
    owned = f.owned;
    transfers = λ z t h. let old = f.transfers z t h in let ne = holders z t h in record { apart = old.apart; within = old.within; phase = subst (λ u. PhaseFits t.dest u t.phase) (sym (there z ne)) old.phase; copy = back_copies z t.dest t.phase ne old.phase };
    replayed = f.replayed;
  }

  pub back_holds : KeepsHolds b back
  back_holds v posted Ro h = elim (cases_eq v x) [
    | inl e ↦ subst (λ q. HoldFits back q Ro posted) (sym e) (subst (λ u. ReadFits u (b.rows x) b.history (b.kept x) posted) (sym here) tt)
    | inr ne ↦ subst (λ u. ReadFits u (b.rows v) b.history (b.kept v) posted) (sym (there v ne)) h
  ]
  back_holds v posted Rw h = elim (cases_eq v x) [
    | inl e ↦ subst (λ q. IsServing (back.entry q)) (sym e) (subst IsServing (sym here) tt)
    | inr ne ↦ subst IsServing (sym (there v ne)) h
  ]

  unsent : (z w g k : ℕ) (l : Option (List ℕ)) → IsIn b.transfer z w (Waiting g k l) → ⊥
  unsent z w g k l h =
      let e : z ≡ x = sending_owns x b.entry z w f.placed (phase_of n x b z w (Waiting g k l) f h) in
      absurd (cc (ap b.transfer e, h.there, free))

  pub back_lines : KeepsLines b back
  back_lines = record { calls = calls; replies = replies }
    where
      calls : (e z w k : ℕ) (m : Message) → MessageFits e b z w k m → MessageFits e back z w k m
      calls e z w k (Chunk q page) h = absurd (unsent z w e k _ h.0)
      calls e z w k (Last q) h = h
      calls e z w k (Stat q) h = tt

      replies : (e z w k : ℕ) (r : Reply) → ReplyFits e b z w k r → ReplyFits e back z w k r
      replies e z w k reply.Took (inl h) = inl h
      replies e z w k reply.Took (inr h) = absurd (unsent z w e k h.key h.waits)
      replies e z w k (reply.Not r) (inl h) = inl h
      replies e z w k (reply.Not r) (inr h) = absurd (unsent z w e k h.key h.waits)
      replies e z w k (reply.State st live) h = tt

-- ---- x is receiving from y, which has the bucket sending, and no transfer of it is there: x is garbage

module _ (n : ℕ) (b : Bucket) (x y : ℕ) (f : BucketFits n y b) (from : b.entry x ≡ Some (Receiving y)) (sending : b.entry y ≡ Some (Sending x)) (free : b.transfer y ≡ None) where
  abbrev pub waste : Bucket
  waste = decided b x ToGarbage

  beyond : (v : ℕ) → v ≢ x → waste.entry v ≡ b.entry v
  beyond v ne = put_there b.entry x _ v ne

  at_waste : waste.entry x ≡ Some Garbage
  at_waste = put_here b.entry x _

  apart : y ≢ x
  apart e = absurd (cc (ap b.entry e, from, sending))

  source : waste.entry y ≡ b.entry y
  source = beyond y apart

  -- no transfer is of a set that is sending
  idle : (z d : ℕ) (t : Transfer) → b.transfer z ≡ Some t → b.entry z ≡ Some (Sending d) → ⊥
  idle z d t h ph = let e : z ≡ y = sending_owns y b.entry z d f.placed ph in absurd (cc (ap b.transfer e, h, free))

  waste_copies : (z : ℕ) (t : Transfer) (d : ℕ) (p : Phase) → b.transfer z ≡ Some t → PhaseFits d (b.entry z) p → CopyFits waste.entry b.rows z d p
  waste_copies z t d (Ready k) h ph = absurd (idle z d t h ph)
  waste_copies z t d Copied h ph = absurd (idle z d t h ph)
  waste_copies z t d (Draining g) h ph = tt
  waste_copies z t d (Waiting g k l) h ph = tt
  waste_copies z t d Sealed h ph = tt
  waste_copies z t d (WaitingLast g k) h ph = tt
  waste_copies z t d (Refused r) h ph = tt
  waste_copies z t d Done h ph = tt

  movers : (z : ℕ) (t : Transfer) → b.transfer z ≡ Some t → z ≢ x
  movers z t h is =
      let ph = subst (λ u. PhaseFits t.dest u t.phase) (ap b.entry is ∙ from) (f.transfers z t h).phase in
      no_phase t.dest (Some (Receiving y)) t.phase (λ e. absurd cc) (λ e. absurd cc) (λ e. absurd cc) ph

  pub waste_fits : BucketFits n y waste
  waste_fits = record {
    placed = record {
      owner = subst (Owns y) (sym source) f.placed.owner;
      beside = λ v ne. subst (λ e. Beside y e v (waste.entry v)) (sym source) (elim (cases_eq v x) [
        | inl e ↦ subst (λ u. Beside y (b.entry y) u (waste.entry u)) (sym e) (subst (Beside y (b.entry y) x) (sym at_waste) tt)
        | inr other ↦ subst (Beside y (b.entry y) v) (sym (beyond v other)) (f.placed.beside v ne)
      ]);
    };
    named = put_each (λ q (e : Option Status). (z : ℕ) → names e ≡ Some z → (z ≢ q) × (1 ≤ z) × (z ≤ n)) b.entry x (Some Garbage) (λ z h. absurd cc) f.named;
    stored = record {
      empty = put_each (λ q (e : Option Status). e ≡ None → b.rows q ≡ []) b.entry x (Some Garbage) (λ e. absurd cc) f.stored.empty;
      rising = f.stored.rising;
    };
    owned = f.owned;
    transfers = λ z t h. let old = f.transfers z t h in record { apart = old.apart; within = old.within; phase = subst (λ u. PhaseFits t.dest u t.phase) (sym (beyond z (movers z t h))) old.phase; copy = waste_copies z t t.dest t.phase h old.phase };
    replayed = f.replayed;
  }

  pub waste_holds : KeepsHolds b waste
  waste_holds v posted Rw h =
      let ne : v ≢ x = λ e. subst IsServing (ap b.entry e ∙ from) h in
      subst IsServing (sym (beyond v ne)) h
  waste_holds v posted Ro h =
      let ne : v ≢ x = λ e. subst (λ o. ReadFits o (b.rows v) b.history (b.kept v) posted) (ap b.entry e ∙ from) h in
      subst (λ u. ReadFits u (b.rows v) b.history (b.kept v) posted) (sym (beyond v ne)) h

  unsent_waste : (z w g k : ℕ) (l : Option (List ℕ)) → IsIn b.transfer z w (Waiting g k l) → ⊥
  unsent_waste z w g k l h = idle z w h.it h.there (phase_of n y b z w (Waiting g k l) f h)

  pub waste_lines : KeepsLines b waste
  waste_lines = record { calls = calls; replies = replies }
    where
      calls : (e z w k : ℕ) (m : Message) → MessageFits e b z w k m → MessageFits e waste z w k m
      calls e z w k (Chunk q page) h = absurd (unsent_waste z w e k _ h.0)
      calls e z w k (Last q) h = h
      calls e z w k (Stat q) h = tt

      replies : (e z w k : ℕ) (r : Reply) → ReplyFits e b z w k r → ReplyFits e waste z w k r
      replies e z w k reply.Took (inl h) = inl h
      replies e z w k reply.Took (inr h) = absurd (unsent_waste z w e k h.key h.waits)
      replies e z w k (reply.Not r) (inl h) = inl h
      replies e z w k (reply.Not r) (inr h) = absurd (unsent_waste z w e k h.key h.waits)
      replies e z w k (reply.State st live) h = tt

-- ---- what is known where x decides by y's answer

pub decides : (o : ℕ) (b : Bucket) (x y : ℕ) (local st : Option Status) (live : Bool) → b.entry x ≡ local → AskFits local (b.transfer x) → asked_set local ≡ Some y → AnswerFits o b.entry b.transfer x y local st live → DecisionFits o b.entry b.transfer x y (decision_by local st live)
decides o b x y None st live is af nm an = absurd af
decides o b x y (Some Active) st live is af nm an = absurd af
decides o b x y (Some Pinned) st live is af nm an = absurd af
decides o b x y (Some (Sent d)) st live is af nm an = absurd af
decides o b x y (Some Garbage) st live is af nm an = absurd af
decides o b x y (Some (Sending d)) st live is af nm an = by st an
  where
    to : b.entry x ≡ Some (Sending y)
    to = let same : d ≡ y = cc in subst (λ u. b.entry x ≡ Some (Sending u)) same is

    by : (st : Option Status) → (IsAway st → b.entry y ≢ Some (Receiving x)) → DecisionFits o b.entry b.transfer x y (decision_of (Sending d) st live)
    by None an = inl (to, af, an tt)
    by (Some (Sent z)) an = inl (to, af, an tt)
    by (Some Garbage) an = inl (to, af, an tt)
    by (Some Active) an = tt
    by (Some Pinned) an = tt
    by (Some (Sending z)) an = tt
    by (Some (Receiving z)) an = tt
decides o b x y (Some (Receiving d)) st true is af nm an = tt
decides o b x y (Some (Receiving d)) st false is af nm an = by st an
  where
    from : b.entry x ≡ Some (Receiving y)
    from = let same : d ≡ y = cc in subst (λ u. b.entry x ≡ Some (Receiving u)) same is

    by : (st : Option Status) → IsFound o b.entry b.transfer x y st false → DecisionFits o b.entry b.transfer x y (decision_of (Receiving d) st false)
    by None an = inr (from, an)
    by (Some (Sent z)) an = inr (from, an)
    by (Some Garbage) an = inr (from, an)
    by (Some Active) an = absurd an
    by (Some Pinned) an = absurd an
    by (Some (Sending z)) an = (from, an.0, an.1)
    by (Some (Receiving z)) an = tt

-- what the decision does to the bucket
pub record Recovers (n o : ℕ) (b new : Bucket) : Type 0 where
  pub fits : BucketFits n o new
  pub holds : KeepsHolds b new
  pub lines : KeepsLines b new

pub decided_fits : (n o : ℕ) (b : Bucket) (x y : ℕ) (d : Decision) → BucketFits n o b → DecisionFits o b.entry b.transfer x y d → Recovers n o b (decided b x d)
decided_fits n o b x y Stay f k = record { fits = reask_fits n o b x None f; holds = reask_holds n o b x None; lines = reask_lines n o b x None }
decided_fits n o b x y ToActive f (inl k) =
    let is : o ≡ x = sym (sending_owns o b.entry x y f.placed k.0) in
    let g : BucketFits n x b = subst (λ q. BucketFits n q b) is f in
    record { fits = subst (λ q. BucketFits n q (decided b x ToActive)) (sym is) (back_fits n b x y g k.0 k.1 k.2); holds = back_holds n b x y g k.0 k.1 k.2; lines = back_lines n b x y g k.0 k.1 k.2 }
decided_fits n o b x y ToActive f (inr k) =
    let g : BucketFits n x b = subst (λ q. BucketFits n q b) k.1 f in
    record {
      fits = subst (λ q. BucketFits n q (decided b x ToActive)) (sym k.1) (whole_fits n b y x g k.0);
      holds = whole_holds n b y x g k.0;
      lines = record { calls = whole_calls n b y x g k.0; replies = whole_replies n b y x g k.0 };
    }
decided_fits n o b x y ToGarbage f k =
    let is : o ≡ y = sym (sending_owns o b.entry y x f.placed k.1) in
    let g : BucketFits n y b = subst (λ q. BucketFits n q b) is f in
    record { fits = subst (λ q. BucketFits n q (decided b x ToGarbage)) (sym is) (waste_fits n b x y g k.0 k.1 k.2); holds = waste_holds n b x y g k.0 k.1 k.2; lines = waste_lines n b x y g k.0 k.1 k.2 }

-- ---- hear an answer

pub ask_is : (o : Option Ask) (e n : ℕ) → is_ask o e n ≡ true → o ≡ Some (record { epoch = e; sync = n })
ask_is None e n h = absurd cc
ask_is (Some a) e n h =
    let both = both_are (a.epoch == e) (a.sync == n) h in
    let e1 = eqb-true a.epoch e both.0 in
    let e2 = eqb-true a.sync n both.1 in
    λ j. Some (record { epoch = e1 j; sync = e2 j })

pub named_is : (o : Option ℕ) (y : ℕ) → is_set_named o y ≡ true → o ≡ Some y
named_is None y h = absurd cc
named_is (Some z) y h = ap Some (eqb-true z y h)

-- either the answer isn't for the live ask, or it decides
pub record Hears (e : ℕ) (b : Bucket) (x y n : ℕ) (st : Option Status) (live : Bool) : Type 0 where
  pub asks : b.ask x ≡ Some (record { epoch = e; sync = n })
  pub named : asked_set (b.entry x) ≡ Some y
  pub gives : recovered b e x y n st live ≡ decided b x (decision_by (b.entry x) st live)

pub hears : (e : ℕ) (b : Bucket) (x y n : ℕ) (st : Option Status) (live : Bool) → (recovered b e x y n st live ≡ b) ⊎ Hears e b x y n st live
hears e b x y n st live = by (counts_at b e x y n) refl
  where
    by : (t : Bool) → counts_at b e x y n ≡ t → (recovered b e x y n st live ≡ b) ⊎ Hears e b x y n st live
    by false h = inl (ap (λ t. if t then decided b x (decision_by (b.entry x) st live) else b) h)
    by true h =
        let both = both_are (is_ask (b.ask x) e n) (is_set_named (asked_set (b.entry x)) y) h in
        inr (record { asks = ask_is _ e n both.0; named = named_is _ y both.1; gives = ap (λ t. if t then decided b x (decision_by (b.entry x) st live) else b) h })

-- the first reply is what it says
pub head_says : (own : ℕ → ℕ) (s : State) (x y : ℕ) (r : Heard) → AsksFit own s.bucket s.link → (s.link x y).replies ≡ r ∷ rest (s.link x y).replies → HeardSays own (s.link x y).epoch s.bucket x y r
head_says own s x y r a is = All-head (HeardSays own (s.link x y).epoch s.bucket x y) r (rest (s.link x y).replies) (subst (All (HeardSays own (s.link x y).epoch s.bucket x y)) is (a.answers x y))

-- the first reply is gone, and one bucket changed
pub popped_keeps : (own : ℕ → ℕ) (s : State) (x y : ℕ) (r : Heard) (q : ℕ) (new : Bucket) → Inner own s → (s.link x y).replies ≡ r ∷ rest (s.link x y).replies → Recovers (sets_of s) (own q) (s.bucket q) new
    → Inner own (record s { bucket = put s.bucket q new; link = put_at s.link x y (without_reply (s.link x y)) })
popped_keeps own s x y r q new i is k =
    let l = s.link x y in
    let next : ℕ → Bucket = put s.bucket q new in
    let lines : (z w : ℕ) → LinkFits next z w (s.link z w) = λ z w. link_kept s.bucket q new z w (s.link z w) k.lines (i.links z w) in
    let shorter : Connection = without_reply l in
    let same : numbers l ≡ r.sync ∷ numbers shorter = ap (λ rs. map heard_sync rs ++ map sync_of l.calls) is in
    let f = lines x y in
    let P : Heard → Type 0 = HeardFits l.epoch next x y in
    record {
      buckets = put_each (λ u. BucketFits (sets_of s) (own u)) s.bucket q new k.fits i.buckets;
      clients = λ c. client_kept s.bucket q new (s.client c) k.holds (i.clients c);
      absent = i.absent;
      links = put_pair (LinkFits next) s.link x y shorter (record {
        calls = f.calls;
        replies = All-tail P r (rest l.replies) (subst (All P) is f.replies);
        distinct = (subst AreDistinct same f.distinct).1;
        below = All-tail (λ n. n < l.next) r.sync (numbers shorter) (subst (All (λ n. n < l.next)) same f.below);
      }) lines;
      real = i.real;
      operators = i.operators;
    }

pub says_keeps : (own : ℕ → ℕ) (s : State) (x y n q : ℕ) (st : Option Status) (live : Bool) → Inner own s → AsksFit own s.bucket s.link
    → (s.link x y).replies ≡ (record { sync = n; bucket = q; reply = reply.State st live }) ∷ rest (s.link x y).replies → Inner own (after_hear s x y (record { sync = n; bucket = q; reply = reply.State st live }))
says_keeps own s x y n q st live i a is =
    let heard : Heard = record { sync = n; bucket = q; reply = reply.State st live } in
    let old = s.bucket q in
    let l = s.link x y in
    let says = head_says own s x y heard a is in
    popped_keeps own s x y heard q (recovered old l.epoch x y n st live) i is (elim (hears l.epoch old x y n st live) [
      | inl e ↦ subst (Recovers (sets_of s) (own q) old) (sym e) (record { fits = i.buckets q; holds = λ v posted w h. h; lines = record { calls = λ e z w k m h. h; replies = λ e z w k m h. h } })
      | inr k ↦ subst (Recovers (sets_of s) (own q) old) (sym k.gives) (decided_fits (sets_of s) (own q) old x y _ (i.buckets q) (decides (own q) old x y (old.entry x) st live refl (a.asks q x _ k.asks) k.named (says k.asks k.named)))
    ])

pub hear_keeps : (own : ℕ → ℕ) (s t : State) (x y : ℕ) → Inner own s → AsksFit own s.bucket s.link → hear s x y ≡ Ok t → Inner own t
hear_keeps own s t x y i a e =
    let p = can_hear s t x y e in
    subst (Inner own) p.gives (by_reply p.heard.sync p.heard.bucket p.heard.reply (head_is (x == y) (s.link x y).replies p.heard p.head))
  where
    by_reply : (n q : ℕ) (r : Reply) → (s.link x y).replies ≡ (record { sync = n; bucket = q; reply = r }) ∷ rest (s.link x y).replies → Inner own (after_hear s x y (record { sync = n; bucket = q; reply = r }))
    by_reply n q reply.Took is = turn_keeps own s x y (record { sync = n; bucket = q; reply = reply.Took }) tt i is
    by_reply n q (reply.Not f) is = turn_keeps own s x y (record { sync = n; bucket = q; reply = reply.Not f }) tt i is
    by_reply n q (reply.State st live) is = says_keeps own s x y n q st live i a is
