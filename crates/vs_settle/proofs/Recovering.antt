-- A set asks another, hears the answer, and decides: all three events are possible, and nothing is left of them.
use Rattle.std.proofs.Common.{inl, inr, ◌≡◌, ℕ, ◌==◌, Bool, true, false, refl, sym, ap, subst, ◌∙◌, arith, List, [], ◌∷◌, ◌++◌, length, Option, Some, None, Ok}
use Rattle.std.specs.Prelude.{◌≢◌, ◌⊎◌, ◌&&◌, not, is_some, if◌then◌else◌, Contains}
use Rattle.std.proofs.lemmas.Bool.{cases_eq, eqb-true, eqb-false, eq-eqb}
use Rattle.vs_space.specs.declared.reply.Reply.{Reply}
use Rattle.vs_space.specs.declared.reply.Reply.TheVariants as reply
use Rattle.vs_space.specs.declared.status.Status.{Status}
use Rattle.vs_space.specs.declared.status.Status.TheVariants.{Active, Pinned, Sending, Receiving, Sent, Garbage}
use Rattle.vs_link.specs.Connection.{Connection, Stat, first, rest, with_message, without_reply}
use Rattle.vs_link.specs.Connection as link
use Rattle.vs_link.specs.declared.message.Heard.{Heard}
use Rattle.vs_recover.specs.declared.decision.Decision.{Decision}
use Rattle.vs_recover.specs.declared.decision.Decision.TheVariants.{Stay, ToActive, ToGarbage}
use Rattle.vs_send.specs.declared.transfer.Transfer.{Transfer}
use Rattle.vs_machine.specs.State.{State, Bucket, Ask, sets_of, has_set, put_link, with_ask}
use Rattle.vs_machine.specs.Kinds.Connections.{first_call, first_reply, deliver, hear, after_hear, answered, status_at, asked_set, is_set_named, is_ask, counts_at, decision_by, decided, recovered, bucket_hearing}
use Rattle.vs_machine.specs.Kinds.Recovery.{may_ask, is_live, ask, after_ask}
use Rattle.vs_machine.specs.Whole.{Whole}
use Rattle.vs_machine.specs.Inner.Asks.{IsAskUnderWay}
use Rattle.vs_machine.specs.Settling.{IsSilent, IsEmpty}
use Rattle.vs_machine.proofs.Frame.{put_here, put_there}
use Rattle.vs_machine.proofs.Linked.{are_linked}
use Rattle.vs_machine.proofs.Possible.{both_are, not_is}
use Rattle.vs_machine.proofs.Reached.{reached_whole}
use Rattle.vs_settle.specs.Tasks.{CanAsk}
use Rattle.vs_settle.proofs.Moves.{Moves}
use Rattle.vs_settle.proofs.Possible.{deliver_is, hear_is, ask_is}
use Rattle.vs_settle.proofs.Tables.{put_at_here, put_at_there, within}

may_free : (e : Option Status) (t : Option Transfer) → t ≡ None → may_ask e t ≡ true
may_free e t is = subst (λ u. may_ask e u ≡ true) (sym is) (by e)
  where
    by : (e : Option Status) → may_ask e None ≡ true
    by None = refl
    by (Some Active) = refl
    by (Some Pinned) = refl
    by (Some (Sending d)) = refl
    by (Some (Receiving x)) = refl
    by (Some (Sent d)) = refl
    by (Some Garbage) = refl

none_contained : {A : Type 0} (xs : List A) (x : A) → xs ≡ [] → Contains xs x → ⊥
none_contained xs x e h =
    let short : length xs ≡ 0 = ap length e in
    absurd (omega (arith, short, h.1))

-- an ask isn't under way on an empty connection
not_under_way : (l : Connection) (n b : ℕ) → l.calls ≡ [] → l.replies ≡ [] → IsAskUnderWay l n b → ⊥
not_under_way l n b calls replies (inl h) = none_contained l.calls _ calls h
not_under_way l n b calls replies (inr h) = none_contained l.replies _ replies h.2

-- where it decides, the entry is active or garbage
pub record IsSettledAt (e : Option Status) : Type 0 where
  pub either : (e ≡ Some Active) ⊎ (e ≡ Some Garbage)

module _ (s : State) (x b y : ℕ) (can : CanAsk s x b y) where
  l : Connection
  l = s.link x y

  whole : Whole (reached_whole s can.rests.reached).0 s
  whole = (reached_whole s can.rests.reached).1

  linked : (has_set s y ≡ true) × ((x == y) ≡ false)
  linked =
      let w = reached_whole s can.rests.reached in
      let is = (are_linked w.0 s w.1.inner w.1.bounds).asks b x y can.named in
      let parts = both_are (has_set s x && has_set s y) (not (x == y)) is in
      ((both_are (has_set s x) (has_set s y) parts.0).1, not_is _ parts.1)

  apart : x ≢ y
  apart = eqb-false x y linked.1

  fresh : is_live ((s.bucket b).ask x) (s.link x y).epoch ≡ false
  fresh = by ((s.bucket b).ask x) refl
    where
      by : (a : Option Ask) → (s.bucket b).ask x ≡ a → is_live a (s.link x y).epoch ≡ false
      by None is = refl
      by (Some a) is = at (a.epoch == (s.link x y).epoch) refl
        where
          at : (t : Bool) → (a.epoch == (s.link x y).epoch) ≡ t → t ≡ false
          at false e = refl
          at true e =
              let w = reached_whole s can.rests.reached in
              let way = w.1.asks.sought b x a is y can.named in
              absurd (not_under_way (s.link x y) a.sync b (can.silent x y apart).calls (can.silent x y apart).replies (way.1 (eqb-true _ _ e)))

  -- ---- the question is posted

  abbrev pub posted : State
  posted = after_ask s x b y

  abbrev pub question : link.Sent
  question = record { sync = (s.link x y).next; message = Stat b }

  pub asks : ask s x b ≡ Ok posted
  asks =
      let x_in = within (sets_of s) x can.set in
      let y_in = within (sets_of s) y linked.0 in
      ask_is s x b can.set can.bucket (can.rests.up x x_in.0 x_in.1) y can.named (may_free _ _ (can.rests.quiet.no_transfer b x)) (can.rests.up y y_in.0 y_in.1) fresh

  posted_link : posted.link x y ≡ with_message (s.link x y) (Stat b)
  posted_link = put_at_here s.link x y _

  question_first : first_call posted x y ≡ Some question
  question_first =
      ap (λ (t : Bool). if t then None else first (posted.link x y).calls) linked.1
      ∙ ap (λ (c : Connection). first c.calls) posted_link
      ∙ ap (λ (cs : List link.Sent). first (cs ++ question ∷ [])) (can.silent x y apart).calls

  -- ---- it is answered

  abbrev pub reply_is : Reply
  reply_is = status_at (posted.bucket b) y

  abbrev pub replied : State
  replied = put_link posted x y (answered (posted.link x y) question reply_is)

  abbrev pub answer_is : Heard
  answer_is = record { sync = (s.link x y).next; bucket = b; reply = reply_is }

  pub delivers : deliver posted x y ≡ Ok replied
  delivers = deliver_is posted x y can.set linked.0 question question_first

  replied_link : replied.link x y ≡ answered (with_message (s.link x y) (Stat b)) question reply_is
  replied_link = put_at_here posted.link x y _ ∙ ap (λ (c : Connection). answered c question reply_is) posted_link

  answer_first : first_reply replied x y ≡ Some answer_is
  answer_first =
      ap (λ (t : Bool). if t then None else first (replied.link x y).replies) linked.1
      ∙ ap (λ (c : Connection). first c.replies) replied_link
      ∙ ap (λ (rs : List Heard). first (rs ++ answer_is ∷ [])) (can.silent x y apart).replies

  -- ---- it is heard, and decides

  abbrev pub settled : State
  settled = after_hear replied x y answer_is

  pub hears : hear replied x y ≡ Ok settled
  hears = hear_is replied x y can.set linked.0 answer_is answer_first

  abbrev asked_bucket : Bucket
  asked_bucket = with_ask (s.bucket b) x (Some (record { epoch = (s.link x y).epoch; sync = (s.link x y).next }))

  abbrev decision : Decision
  decision = decision_by ((s.bucket b).entry x) ((s.bucket b).entry y) false

  posted_bucket : posted.bucket b ≡ asked_bucket
  posted_bucket = put_here s.bucket b _

  reply_value : reply_is ≡ reply.State ((s.bucket b).entry y) false
  reply_value =
      ap (λ (u : Bucket). status_at u y) posted_bucket
      ∙ ap (λ (t : Option Transfer). reply.State ((s.bucket b).entry y) (is_some t)) (can.rests.quiet.no_transfer b y)

  counts : counts_at asked_bucket (s.link x y).epoch x y (s.link x y).next ≡ true
  counts =
      let epoch = (s.link x y).epoch in
      let n = (s.link x y).next in
      let same : is_ask (asked_bucket.ask x) epoch n ≡ true =
      ap (λ (a : Option Ask). is_ask a epoch n) (put_here (s.bucket b).ask x _) ∙ ap (λ (t : Bool). t && (n == n)) (eq-eqb epoch epoch refl) ∙ eq-eqb n n refl in
      let named : is_set_named (asked_set ((s.bucket b).entry x)) y ≡ true = ap (λ (o : Option ℕ). is_set_named o y) can.named ∙ eq-eqb y y refl in
      ap (λ (t : Bool). t && is_set_named (asked_set ((s.bucket b).entry x)) y) same ∙ named

  settled_bucket : settled.bucket b ≡ decided asked_bucket x decision
  settled_bucket =
      put_here replied.bucket b _
      ∙ ap (λ (r : Reply). bucket_hearing (posted.bucket b) (replied.link x y).epoch x y answer_is r) reply_value
      ∙ (λ i. recovered (posted_bucket i) (replied_link i).epoch x y (s.link x y).next ((s.bucket b).entry y) false)
      ∙ ap (λ (t : Bool). if t then decided asked_bucket x decision else asked_bucket) counts

  others_decided : (d : Decision) (z : ℕ) → z ≢ x → (decided asked_bucket x d).entry z ≡ (s.bucket b).entry z
  others_decided Stay z ne = refl
  others_decided ToActive z ne = put_there (s.bucket b).entry x _ z ne
  others_decided ToGarbage z ne = put_there (s.bucket b).entry x _ z ne

  rows_decided : (d : Decision) (z : ℕ) → (decided asked_bucket x d).rows z ≡ (s.bucket b).rows z
  rows_decided Stay z = refl
  rows_decided ToActive z = refl
  rows_decided ToGarbage z = refl

  here_decided : (d : Decision) → d ≢ Stay → IsSettledAt ((decided asked_bucket x d).entry x)
  here_decided Stay not = absurd (not refl)
  here_decided ToActive not = record { either = inl (put_here (s.bucket b).entry x _) }
  here_decided ToGarbage not = record { either = inr (put_here (s.bucket b).entry x _) }

  pub entry_settled : IsSettledAt ((settled.bucket b).entry x)
  entry_settled = subst (λ (u : Bucket). IsSettledAt (u.entry x)) (sym settled_bucket) (here_decided decision can.decides)

  pub rows_kept : (z : ℕ) → (settled.bucket b).rows z ≡ (s.bucket b).rows z
  rows_kept z = ap (λ (u : Bucket). u.rows z) settled_bucket ∙ rows_decided decision z

  -- the connection is as empty as before
  silent_here : IsEmpty (settled.link x y)
  silent_here =
      let c = (can.silent x y apart).calls in
      let r = (can.silent x y apart).replies in
      let there : settled.link x y ≡ without_reply (answered (with_message (s.link x y) (Stat b)) question reply_is) = put_at_here replied.link x y _ ∙ ap without_reply replied_link in
      record {
        calls = ap (λ (k : Connection). k.calls) there ∙ ap (λ (cs : List link.Sent). rest (cs ++ question ∷ [])) c;
        replies = ap (λ (k : Connection). k.replies) there ∙ ap (λ (rs : List Heard). rest (rs ++ answer_is ∷ [])) r;
      }

  other_link : (p q : ℕ) → (p ≡ x → q ≡ y → ⊥) → settled.link p q ≡ s.link p q
  other_link p q ne = put_at_there replied.link x y _ p q ne ∙ put_at_there posted.link x y _ p q ne ∙ put_at_there s.link x y _ p q ne

  silent_after : IsSilent settled
  silent_after p q ne = by (cases_eq p x) (cases_eq q y)
    where
      elsewhere : (p ≡ x → q ≡ y → ⊥) → IsEmpty (settled.link p q)
      elsewhere far = record {
        calls = ap (λ (k : Connection). k.calls) (other_link p q far) ∙ (can.silent p q ne).calls;
        replies = ap (λ (k : Connection). k.replies) (other_link p q far) ∙ (can.silent p q ne).replies;
      }

      by : (p ≡ x) ⊎ (p ≢ x) → (q ≡ y) ⊎ (q ≢ y) → IsEmpty (settled.link p q)
      by (inl e) (inl f) = subst (λ v. IsEmpty (settled.link v q)) (sym e) (subst (λ v. IsEmpty (settled.link x v)) (sym f) silent_here)
      by (inr n) other = elsewhere (λ e _. n e)
      by (inl e) (inr n) = elsewhere (λ _ f. n f)

  pub recovering_moves : Moves s settled x b
  recovering_moves = record {
    config = refl;
    silent = silent_after;
    entries = λ z ne. ap (λ (u : Bucket). u.entry z) settled_bucket ∙ others_decided decision z ne;
    rows = λ z ne. rows_kept z;
    buckets = λ c ne. put_there replied.bucket b _ c ne ∙ put_there s.bucket b _ c ne;
  }
