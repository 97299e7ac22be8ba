-- A set takes the first message of a connection, and answers it.
use Rattle.std.proofs.Common.{◌≡◌, ℕ, Bool, true, false, List, length, Some, None, Ok, refl, sym, ap, subst, ◌∙◌}
use Rattle.std.specs.Prelude.{◌==◌, ◌&&◌, not, if◌then◌else◌, All}
use Rattle.std.proofs.lemmas.Bool.{ne_eqb}
use Rattle.std.proofs.lemmas.List.Elements.{All-head}
use Rattle.vs_link.specs.Connection.{Connection, Sent, Message, Chunk, Last, Stat, bucket_of, first, rest, unused, with_reply}
use Rattle.vs_link.specs.Links.{IsPair, connection_of}
use Rattle.vs_link.specs.declared.message.Heard.{Heard}
use Rattle.vs_machine.specs.State as machine
use Rattle.vs_machine.specs.Tables.{put, put_at}
use Rattle.vs_machine.specs.Kinds.Connections.{deliver, after_deliver, answered, first_call, received_at}
use Rattle.vs_machine.specs.Inner.Lines.{SentFits, MessageFits}
use Rattle.vs_machine.proofs.Can.Others.{CanDeliver, can_deliver}
use Rattle.vs_machine.proofs.Kept.Delivering.{head_is}
use Rattle.vs_machine.proofs.Owners.{phase_of}
use Rattle.vs_state.specs.declared.state.State.{State}
use Rattle.vs_state.specs.Guard.{verdict}
use Rattle.vs_state.specs.Plain.{plain}
use Rattle.vs_core.specs.Delivering.{HasItsBucket, HasPageRoomAt, IsDeliverReady, IsMessageReady, bucket_by, reply_to}
use Rattle.vs_core.specs.Keeps.{IsKnown}
use Rattle.vs_core.proofs.Frame.{put_here, put_same, put_twice}
use Rattle.vs_core.proofs.Sender.{goes_on}

-- ---- what is known where the event is possible

apart : {A : Type 0} (t : Bool) (xs : List A) (x : A) → (if t then None else first xs) ≡ Some x → t ≡ false
apart true xs x is = absurd (cc is)
apart false xs x is = refl

module _ (s : machine.State) (x y : ℕ) (h : verdict (deliver s x y) ≡ Ok tt) where
  can : CanDeliver s x y (goes_on (deliver s x y) h).0
  can = can_deliver s (goes_on (deliver s x y) h).0 x y (goes_on (deliver s x y) h).1

  pub deliver_to : machine.has_set s y ≡ true
  deliver_to = can.to

  pub deliver_link : machine.is_link s x y ≡ true
  deliver_link = λ i. can.from i && can.to i && not (apart (x == y) (s.link x y).calls can.sent can.head i)

  module _ (sent : Sent) (head : first_call s x y ≡ Some sent) where
    pub deliver_is : deliver s x y ≡ Ok (after_deliver s x y sent sent.message)
    deliver_is =
        let same : can.sent ≡ sent = cc (sym can.head ∙ head) in
        (goes_on (deliver s x y) h).1 ∙ ap Ok (sym can.gives) ∙ ap (λ (m : Sent). Ok (after_deliver s x y m m.message)) same

    -- its bucket is being sent, or was sent, so it is one of the cluster
    pub its_bucket : IsKnown s → HasItsBucket s sent.message
    its_bucket known = by sent.message (All-head (SentFits l.epoch s.bucket x y) sent (rest l.calls) (subst (All (SentFits l.epoch s.bucket x y)) (head_is (x == y) l.calls sent head) (known.whole.inner.links x y).calls))
      where
        l : Connection
        l = s.link x y

        by : (m : Message) → MessageFits l.epoch (s.bucket (bucket_of m)) x y sent.sync m → HasItsBucket s m
        by (Chunk b page) fits = known.whole.known b x (λ none. absurd (cc (sym (phase_of (machine.sets_of s) (known.own b) (s.bucket b) x y _ (known.whole.inner.buckets b) fits.0) ∙ none)))
        by (Last b) fits = known.whole.known b x (λ none. absurd (cc (sym (phase_of (machine.sets_of s) (known.own b) (s.bucket b) x y _ (known.whole.inner.buckets b) fits) ∙ none)))
        by (Stat b) fits = tt

-- ---- the first message

pub first_is : (s : State) (x y : ℕ) → IsPair s.links x y → first_call (plain s) x y ≡ first (connection_of s.links x y).calls
first_is s x y pair = λ i. if ne_eqb x y pair.apart i then None else first (if ne_eqb x y pair.apart i then unused else connection_of s.links x y).calls

-- ---- what was made ready

-- rows that are taken have room in any state with the same tables of sets and the same buckets
pub still_ready : (s t : State) (x y p q : ℕ) (l : Connection) (m : Message) → plain t ≡ machine.put_link (plain s) p q l → t.sets ≡ s.sets → IsMessageReady s x y m → IsMessageReady t x y m
still_ready s t x y p q l (Chunk b page) same sets ready = λ took is. subst (λ sets. HasPageRoomAt (record s { sets = sets }) y b (length page)) (sym sets) (ready took (sym (ap (λ (n : machine.State). received_at n x y b false) same) ∙ is))
still_ready s t x y p q l (Last b) same sets ready = tt
still_ready s t x y p q l (Stat b) same sets ready = tt

-- there is one first message
pub first_ready : (s : State) (x y : ℕ) (m : Sent) → first_call (plain s) x y ≡ Some m → IsMessageReady s x y m.message → IsDeliverReady s x y
first_ready s x y m head ready = λ other there.
    let same : m ≡ other = cc (sym head ∙ there) in
    subst (λ (k : Sent). IsMessageReady s x y k.message) same ready

-- ---- the message is taken, and then answered

pub still_its : (s : machine.State) (p q : ℕ) (l : Connection) (m : Message) → HasItsBucket s m → HasItsBucket (machine.put_link s p q l) m
still_its s p q l (Chunk b page) has = has
still_its s p q l (Last b) has = has
still_its s p q l (Stat b) has = tt

pub delivered : (s : machine.State) (x y n : ℕ) (m : Message) → after_deliver s x y (record { sync = n; message = m }) m
    ≡ record s { bucket = put s.bucket (bucket_of m) (bucket_by s x y m); link = put_at s.link x y (answered (s.link x y) (record { sync = n; message = m }) (reply_to s x y m)) }
delivered s x y n (Chunk b page) = refl
delivered s x y n (Last b) = refl
delivered s x y n (Stat b) = sym (λ i. record s { bucket = put_same s.bucket b i; link = put_at s.link x y (answered (s.link x y) (record { sync = n; message = Stat b }) (reply_to s x y (Stat b))) })

-- what a set does with a message doesn't depend on the lines
pub same_reply : (s : machine.State) (x y p q : ℕ) (l : Connection) (m : Message) → reply_to (machine.put_link s p q l) x y m ≡ reply_to s x y m
same_reply s x y p q l (Chunk b page) = refl
same_reply s x y p q l (Last b) = refl
same_reply s x y p q l (Stat b) = refl

pub same_bucket : (s : machine.State) (x y p q : ℕ) (l : Connection) (m : Message) → bucket_by (machine.put_link s p q l) x y m ≡ bucket_by s x y m
same_bucket s x y p q l (Chunk b page) = refl
same_bucket s x y p q l (Last b) = refl
same_bucket s x y p q l (Stat b) = refl

put_at_here : {A : Type 0} (f : ℕ → ℕ → A) (x y : ℕ) (v : A) → put_at f x y v x y ≡ v
put_at_here f x y v = ap (λ g. g y) (put_here f x (put (f x) y v)) ∙ put_here (f x) y v

put_at_twice : {A : Type 0} (f : ℕ → ℕ → A) (x y : ℕ) (v w : A) → put_at (put_at f x y v) x y w ≡ put_at f x y w
put_at_twice f x y v w =
    ap (λ g. put (put_at f x y v) x (put g y w)) (put_here f x (put (f x) y v))
    ∙ put_twice f x (put (f x) y v) (put (put (f x) y v) y w)
    ∙ ap (put f x) (put_twice (f x) y v w)

-- a connection that is written twice, with a bucket in between
pub answers_after : (s : machine.State) (x y b : ℕ) (l : Connection) (v : machine.Bucket) (heard : Heard)
    → machine.put_link (machine.put_bucket (machine.put_link s x y l) b v) x y (with_reply (put_at s.link x y l x y) heard) ≡ record s { bucket = put s.bucket b v; link = put_at s.link x y (with_reply l heard) }
answers_after s x y b l v heard =
    ap (λ (m : Connection). machine.put_link (machine.put_bucket (machine.put_link s x y l) b v) x y (with_reply m heard)) (put_at_here s.link x y l)
    ∙ ap (λ f. record s { bucket = put s.bucket b v; link = f }) (put_at_twice s.link x y l (with_reply l heard))
