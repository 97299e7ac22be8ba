-- A message that is taken, and a reply that is heard, make the weight less.
use Rattle.std.proofs.Common.{inl, inr, ◌≡◌, ℕ, suc, ◌+◌, ◌≤◌, ◌==◌, Bool, true, false, refl, sym, ap, subst, ◌∙◌, arith, List, [], ◌∷◌, ◌++◌, length, Option, Some, None, Ok}
use Rattle.std.specs.Prelude.{if◌then◌else◌, All, is_some}
use Rattle.std.proofs.lemmas.List.{length-append}
use Rattle.std.proofs.lemmas.List.Elements.{All-head}
use Rattle.vs_space.specs.declared.reply.Reply.{Reply}
use Rattle.vs_space.specs.declared.reply.Reply.TheVariants as reply
use Rattle.vs_event.specs.declared.event.Event.{Event}
use Rattle.vs_event.specs.declared.event.Event.TheVariants.{Deliver, Hear}
use Rattle.vs_link.specs.Connection.{Connection, Message, Chunk, Last, Stat, bucket_of, first, rest, without_reply}
use Rattle.vs_link.specs.Connection as link
use Rattle.vs_link.specs.declared.message.Heard.{Heard}
use Rattle.vs_send.specs.declared.transfer.Phase.{Phase}
use Rattle.vs_config.specs.Configuration.{Configuration}
use Rattle.vs_machine.specs.Tables.{put, put_at, is_to}
use Rattle.vs_machine.specs.State.{State, Bucket, sets_of, has_set, has_bucket}
use Rattle.vs_machine.specs.Step.{step}
use Rattle.vs_machine.specs.Kinds.Connections.{first_call, first_reply, deliver, hear, after_deliver, answered, status_at, bucket_hearing}
use Rattle.vs_machine.specs.Whole.{Whole}
use Rattle.vs_machine.specs.Inner.Lines.{MessageFits, ReplyFits, HeardFits, IsIn}
use Rattle.vs_machine.specs.Actors.{IsPossible}
use Rattle.vs_machine.proofs.Can.Others.{can_deliver, can_hear}
use Rattle.vs_machine.proofs.Kept.Delivering.{head_is, head_fits}
use Rattle.vs_machine.proofs.Reached.{reached_whole}
use Rattle.vs_settle.specs.Messages.{IsOnLine}
use Rattle.vs_settle.specs.Quiet.{IsQuiet}
use Rattle.vs_world.specs.Played.{Played, state_of}
use Rattle.vs_settle.specs.Service.{IsResting, IsPaid, Follows}
use Rattle.vs_settle.specs.Weight.{load, loads, prices, weight}
use Rattle.vs_settle.proofs.Following.{follows_none, follows_then}
use Rattle.vs_settle.proofs.Hearing.{cheaper}
use Rattle.vs_settle.proofs.Possible.{next_of, possible, deliver_is, hear_is}
use Rattle.vs_settle.proofs.Tables.{put_at_here, put_at_there, within}
use Rattle.vs_settle.proofs.Weights.{loads_at, prices_le}

-- the weight is less by one at least, and so is what lies on the connection
pub record IsLighter (s t : State) (x y : ℕ) : Type 0 where
  pub lighter : weight t + 1 ≤ weight s
  pub shorter : load (t.link x y) + 1 ≤ load (s.link x y)
  pub others : (p q : ℕ) → (p ≡ x → q ≡ y → ⊥) → t.link p q ≡ s.link p q

-- a set isn't its own other end where there is a head
pub head_apart : {A : Type 0} (t : Bool) (xs : List A) (x : A) → (if t then None else first xs) ≡ Some x → t ≡ false
head_apart true xs x e = absurd cc
head_apart false xs x e = refl

-- the connection is shorter, and the buckets cost no more
lighter_by : (s : State) (x y : ℕ) (l : Connection) (bs : ℕ → Bucket) → has_set s x ≡ true → has_set s y ≡ true → (x == y) ≡ false
    → load l + 1 ≤ load (s.link x y) → prices bs (sets_of s) s.config.bucket_count ≤ prices s.bucket (sets_of s) s.config.bucket_count
    → IsLighter s (record s { bucket = bs; link = put_at s.link x y l }) x y
unfolding weight
lighter_by s x y l bs from to apart less cheap =
    let n = sets_of s in
    let a = within n x from in
    let b = within n y to in
    let moved : loads (put_at s.link x y l) n + load (s.link x y) ≡ loads s.link n + load l = loads_at s.link n x y l a.0 a.1 b.0 b.1 apart in
    record {
      lighter = omega (arith, moved, less, cheap);
      shorter = subst (λ u. load u + 1 ≤ load (s.link x y)) (sym (put_at_here s.link x y l)) less;
      others = λ p q ne. put_at_there s.link x y l p q ne;
    }

module _ (own : ℕ → ℕ) (s : State) (w : Whole own s) (quiet : IsQuiet s) where
  no_transfer : (b x y : ℕ) (p : Phase) → IsIn (s.bucket b).transfer x y p → ⊥
  no_transfer b x y p h = absurd (cc (h.there, quiet.no_transfer b x))

  deliver_lighter : (t : State) (x y : ℕ) → deliver s x y ≡ Ok t → IsLighter s t x y
  deliver_lighter t x y h =
      let p = can_deliver s t x y h in
      let l = s.link x y in
      let m = p.sent in
      let is : l.calls ≡ m ∷ rest l.calls = head_is (x == y) l.calls m p.head in
      let apart : (x == y) ≡ false = head_apart (x == y) l.calls m p.head in
      subst (λ u. IsLighter s u x y) p.gives (by m is apart p.from p.to m.message (head_fits s.bucket x y l m is (w.inner.links x y)).0)
    where
      by : (m : link.Sent) → (s.link x y).calls ≡ m ∷ rest (s.link x y).calls → (x == y) ≡ false → has_set s x ≡ true → has_set s y ≡ true
          → (u : Message) → MessageFits (s.link x y).epoch (s.bucket (bucket_of m.message)) x y m.sync u → IsLighter s (after_deliver s x y m u) x y
      by m is apart from to (Chunk b page) f = absurd (no_transfer _ x y _ f.0)
      by m is apart from to (Last b) f = absurd (no_transfer _ x y _ f)
      by m is apart from to (Stat b) f =
          let l = s.link x y in
          let r : Heard = record { sync = m.sync; bucket = bucket_of m.message; reply = status_at (s.bucket b) y } in
          let calls : length l.calls ≡ suc (length (rest l.calls)) = ap length is in
          let replies : length (l.replies ++ r ∷ []) ≡ length l.replies + 1 = length-append l.replies (r ∷ []) in
          lighter_by s x y (answered l m r.reply) s.bucket from to apart (omega (arith, calls, replies)) (omega arith)

  hear_lighter : (t : State) (x y : ℕ) → hear s x y ≡ Ok t → IsLighter s t x y
  hear_lighter t x y h =
      let p = can_hear s t x y h in
      let l = s.link x y in
      let r = p.heard in
      let is : l.replies ≡ r ∷ rest l.replies = head_is (x == y) l.replies r p.head in
      let apart : (x == y) ≡ false = head_apart (x == y) l.replies r p.head in
      let fits : HeardFits l.epoch s.bucket x y r = All-head (HeardFits l.epoch s.bucket x y) r (rest l.replies) (subst (All (HeardFits l.epoch s.bucket x y)) is (w.inner.links x y).replies) in
      subst (λ u. IsLighter s u x y) p.gives (by r is apart p.to p.from r.reply fits)
    where
      by : (r : Heard) → (s.link x y).replies ≡ r ∷ rest (s.link x y).replies → (x == y) ≡ false → has_set s x ≡ true → has_set s y ≡ true
          → (u : Reply) → ReplyFits (s.link x y).epoch (s.bucket r.bucket) x y r.sync u
          → IsLighter s (record s { bucket = put s.bucket r.bucket (bucket_hearing (s.bucket r.bucket) (s.link x y).epoch x y r u); link = put_at s.link x y (without_reply (s.link x y)) }) x y
      by r is apart from to reply.Took (inl f) = absurd (no_transfer _ x y _ f)
      by r is apart from to reply.Took (inr f) = absurd (no_transfer _ x y _ f.waits)
      by r is apart from to (reply.Not e) (inl f) = absurd (no_transfer _ x y _ f)
      by r is apart from to (reply.Not e) (inr f) = absurd (no_transfer _ x y _ f.waits)
      by r is apart from to (reply.State remote live) f =
          let l = s.link x y in
          let replies : length l.replies ≡ suc (length (rest l.replies)) = ap length is in
          lighter_by s x y (without_reply l) (put s.bucket r.bucket (bucket_hearing (s.bucket r.bucket) l.epoch x y r (reply.State remote live))) from to apart (omega (arith, replies))
          (prices_le s.bucket (sets_of s) s.config.bucket_count r.bucket _ (cheaper (s.bucket r.bucket) x remote live l.epoch y r.sync))

-- each event on a line makes the weight less
pub line_lighter : (s t : State) (x y : ℕ) (e : Event) → IsResting s → IsOnLine s x y e → step s e ≡ Ok t → IsLighter s t x y
line_lighter s t x y (Deliver p q) r on h =
    let w = reached_whole s r.reached in
    deliver_lighter w.0 s w.1 r.quiet t x y (subst (λ v. deliver s x v ≡ Ok t) on.1 (subst (λ v. deliver s v q ≡ Ok t) on.0 h))
line_lighter s t x y (Hear p q) r on h =
    let w = reached_whole s r.reached in
    hear_lighter w.0 s w.1 r.quiet t x y (subst (λ v. hear s x v ≡ Ok t) on.1 (subst (λ v. hear s v q ≡ Ok t) on.0 h))
line_lighter s t x y e r on h = absurd on

some_is : {A : Type 0} (o : Option A) → is_some o ≡ true → (x : A) × (o ≡ Some x)
some_is (Some x) e = (x, refl)
some_is None e = absurd cc

-- and is possible
pub line_possible : (s : State) (x y : ℕ) (e : Event) → has_set s x ≡ true → has_set s y ≡ true → IsOnLine s x y e → IsPossible s e
line_possible s x y (Deliver p q) from to on =
    let head = some_is (first_call s x y) on.2 in
    subst (λ v. IsPossible s (Deliver v q)) (sym on.0) (subst (λ v. IsPossible s (Deliver x v)) (sym on.1) (possible s _ (Deliver x y) (deliver_is s x y from to head.0 head.1)))
line_possible s x y (Hear p q) from to on =
    let head = some_is (first_reply s x y) on.2 in
    subst (λ v. IsPossible s (Hear v q)) (sym on.0) (subst (λ v. IsPossible s (Hear x v)) (sym on.1) (possible s _ (Hear x y) (hear_is s x y from to head.0 head.1)))
line_possible s x y e from to on = absurd on

-- and it costs something
pub line_costs : (s : State) (x y : ℕ) (e : Event) → IsResting s → has_set s x ≡ true → has_set s y ≡ true → IsOnLine s x y e → 1 ≤ weight s
line_costs s x y e r from to on =
    let t = next_of (step s e) (line_possible s x y e from to on) in
    let lighter = (line_lighter s t.0 x y e r on t.1).lighter in
    omega (arith, lighter)

-- the same along the events of the service so far
pub record Draining (p : Played) (m : ℕ) (q : Played) (n : ℕ) (x y : ℕ) : Type 0 where
  pub follows : Follows p m q n
  pub paid : IsPaid p m q n
  pub others : (v w : ℕ) → (v ≡ x → w ≡ y → ⊥) → (state_of q).link v w ≡ (state_of p).link v w

pub draining_starts : (p : Played) (m x y : ℕ) → IsResting (state_of p) → Draining p m p m x y
draining_starts p m x y r = record { follows = follows_none p m r; paid = omega arith; others = λ v w ne. refl }

pub draining_goes_on : (p q r : Played) (m n k x y : ℕ) (e : Event) → Draining p m q n x y → IsOnLine (state_of q) x y e → step (state_of q) e ≡ Ok (state_of r) → Follows q n r k → k ≡ n + 1 → Draining p m r k x y
draining_goes_on p q r m n k x y e d on h f ticks =
    let less = line_lighter (state_of q) (state_of r) x y e d.follows.rests on h in
    let lighter = less.lighter in
    let paid : n + weight (state_of q) ≤ m + weight (state_of p) = d.paid in
    record {
      follows = follows_then p q r m n k d.follows f;
      paid = omega (arith, lighter, paid, ticks);
      others = λ v w ne. less.others v w ne ∙ d.others v w ne;
    }

-- a set of the cluster stays one
pub set_stays : (p q : Played) (m n x : ℕ) → Follows p m q n → has_set (state_of p) x ≡ true → has_set (state_of q) x ≡ true
set_stays p q m n x f h = subst (λ (c : Configuration). is_to (length c.sets) x ≡ true) (sym f.carries.config) h

pub bucket_stays : (p q : Played) (m n b : ℕ) → Follows p m q n → has_bucket (state_of p) b ≡ true → has_bucket (state_of q) b ≡ true
bucket_stays p q m n b f h = subst (λ (c : Configuration). is_to c.bucket_count b ≡ true) (sym f.carries.config) h
