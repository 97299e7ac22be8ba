-- A message is taken, a reply is heard, a connection is closed, and a set asks: asks and their answers are kept.
use Rattle.std.proofs.Common.{◌≡◌, ℕ, inl, inr, ◌<◌, Bool, true, false, refl, sym, ap, subst, ◌∙◌, arith, Option, Some, None, Result, Ok, Err, List, length, get_or, ◌∷◌, map}
use Rattle.std.specs.Prelude.{◌≢◌, ◌⊎◌, ◌==◌, ◌&&◌, if◌then◌else◌, is_some, Contains, All}
use Rattle.std.proofs.lemmas.Bool.{cases_eq, eq-eqb}
use Rattle.std.proofs.lemmas.List.Elements.{Contains-push, All-nil, All-head, All-tail, All-push}
use Rattle.vs_space.specs.declared.reply.Reply.{Reply}
use Rattle.vs_space.specs.declared.reply.Reply.TheVariants as reply
use Rattle.vs_space.specs.declared.reply.RecvFault.{RecvFault}
use Rattle.vs_space.specs.declared.status.Status.{Status}
use Rattle.vs_space.specs.declared.status.Status.TheVariants.{Active, Pinned, Sending, Receiving, Sent, Garbage}
use Rattle.vs_link.specs.Connection.{Connection, Message, Chunk, Last, Stat, bucket_of, rest, closed, with_message, without_reply}
use Rattle.vs_link.specs.Connection as link
use Rattle.vs_link.specs.declared.message.Heard.{Heard}
use Rattle.vs_recv.specs.declared.took.Took.{Took}
use Rattle.vs_recover.specs.declared.decision.Decision.{Decision}
use Rattle.vs_recover.specs.declared.decision.Decision.TheVariants.{Stay, ToActive, ToGarbage}
use Rattle.vs_send.specs.declared.transfer.Phase.TheVariants.{Waiting}
use Rattle.vs_send.specs.declared.transfer.Transfer.{Transfer}
use Rattle.vs_machine.specs.Tables.{put, put_at}
use Rattle.vs_machine.specs.State.{State, Bucket, Ask, sets_of, is_locked, with_ask}
use Rattle.vs_machine.specs.Coherence.{IsAway}
use Rattle.vs_machine.specs.Kinds.Sender.{last_key}
use Rattle.vs_machine.specs.Kinds.Connections.{receiving_at, received_at, with_page, with_last, answered, after_message, status_at, after_deliver, deliver, asked_set, is_set_named, is_ask, decision_by, decided, recovered, bucket_hearing, after_hear, hear, close}
use Rattle.vs_machine.specs.Kinds.Recovery.{may_ask, ask}
use Rattle.vs_machine.specs.Whole.{Inner}
use Rattle.vs_machine.specs.Inner.Asks.{AskFits, IsFound, AnswerFits, DecisionFits, HeardSays, IsOpen, AsksFit}
use Rattle.vs_machine.specs.Inner.Down.{UpFits}
use Rattle.vs_machine.specs.Inner.Lines.{ReplyFits, HeardFits}
use Rattle.vs_machine.specs.Inner.Owner.{IsPlaced, Owns, Beside}
use Rattle.vs_machine.proofs.Asked.Changing.{AsksOf, SaysOf, KeepsAsks, Both, Never, touched, same_asks, one_bucket, one_link, open_sent, first_or_rest, open_answered, open_closed, none_ends, put_ends, phase_asks}
use Rattle.vs_machine.proofs.Calm.{Calm, unasked, last_calm, page_calm, same_calm, decided_calm}
use Rattle.vs_machine.proofs.Can.Others.{can_deliver, can_hear, can_close, can_ask}
use Rattle.vs_machine.proofs.Frame.{put_each, put_here, put_pair, put_same, put_split}
use Rattle.vs_machine.proofs.Numbers.{All-before, All-unmap}
use Rattle.vs_machine.proofs.Owners.{phase_of}
use Rattle.vs_machine.proofs.Possible.{none_is}
use Rattle.vs_machine.proofs.Kept.Delivering.{head_is, head_fits, sync_of, heard_sync}
use Rattle.vs_machine.proofs.Kept.Recovering.{head_says, hears, decides}
use Rattle.vs_machine.proofs.Kept.Taking.{data_taken, last_taken}

pub same_owners : (own : ℕ → ℕ) (b q : ℕ) → q ≢ b → own q ≡ own q
same_owners own b q ne = refl

pub unchanged : (s : State) (o : ℕ) (b : Bucket) → AsksOf b → KeepsAsks s o o b b
unchanged s o b af = same_asks s o b b af refl refl refl

-- ---- deliver

-- what y answers of its own bucket is so
pub answer_true : (o : ℕ) (b : Bucket) (x y : ℕ) → IsPlaced o b.entry → asked_set (b.entry x) ≡ Some y → AnswerFits o b.entry b.transfer x y (b.entry x) (b.entry y) (is_some (b.transfer y))
answer_true o b x y f named = by_local (b.entry x) refl named
  where
    none_by : (v : Option Transfer) → is_some v ≡ false → v ≡ None
    none_by None e = refl
    none_by (Some w) e = absurd cc

    found : (st : Option Status) → b.entry y ≡ st → (live : Bool) → is_some (b.transfer y) ≡ live → ((x ≡ o) × (y ≢ o)) ⊎ (b.entry y ≡ Some (Sending x)) → IsFound o b.entry b.transfer x y st live
    found (Some (Receiving c)) is live l h = tt
    found (Some (Sending c)) is true l h = tt
    found (Some (Sending c)) is false l (inl h) = absurd (subst (Beside o (b.entry o) y) is (f.beside y h.1))
    found (Some (Sending c)) is false l (inr h) = (h, none_by (b.transfer y) l)
    found (Some Active) is live l (inl h) = subst (Beside o (b.entry o) y) is (f.beside y h.1)
    found (Some Active) is live l (inr h) = absurd (cc (is, h))
    found (Some Pinned) is live l (inl h) = subst (Beside o (b.entry o) y) is (f.beside y h.1)
    found (Some Pinned) is live l (inr h) = absurd (cc (is, h))
    found None is live l (inl h) = sym h.0
    found None is live l (inr h) = absurd (cc (is, h))
    found (Some (Sent c)) is live l (inl h) = sym h.0
    found (Some (Sent c)) is live l (inr h) = absurd (cc (is, h))
    found (Some Garbage) is live l (inl h) = sym h.0
    found (Some Garbage) is live l (inr h) = absurd (cc (is, h))

    either : b.entry x ≡ Some (Receiving y) → ((x ≡ o) × (y ≢ o)) ⊎ (b.entry y ≡ Some (Sending x))
    either from = elim (cases_eq x o) [
      | inl e ↦ inl (e, subst (Owns o) (ap b.entry (sym e) ∙ from) f.owner)
      | inr ne ↦ let g = subst (Beside o (b.entry o) x) from (f.beside x ne) in inr (ap b.entry g.0 ∙ g.1)
    ]

    by_local : (local : Option Status) → b.entry x ≡ local → asked_set local ≡ Some y → AnswerFits o b.entry b.transfer x y local (b.entry y) (is_some (b.transfer y))
    by_local None is nm = tt
    by_local (Some Active) is nm = tt
    by_local (Some Pinned) is nm = tt
    by_local (Some (Sent d)) is nm = tt
    by_local (Some Garbage) is nm = tt
    by_local (Some (Sending d)) is nm = λ gone h. subst IsAway h gone
    by_local (Some (Receiving d)) is nm = let same : d ≡ y = cc in found (b.entry y) refl _ refl (either (is ∙ ap (λ w. Some (Receiving w)) same))

-- one bucket changes, and the first message is answered
answer_asks : (own : ℕ → ℕ) (s : State) (x y : ℕ) (m : link.Sent) (r : Reply) (bs : ℕ → Bucket) → (s.link x y).calls ≡ m ∷ rest (s.link x y).calls
    → ((b : ℕ) → m.message ≡ Stat b → (st : Option Status) × (live : Bool) × (r ≡ reply.State st live))
    → HeardSays own (s.link x y).epoch bs x y (record { sync = m.sync; bucket = bucket_of m.message; reply = r })
    → AsksFit own bs s.link → AsksFit own bs (put_at s.link x y (answered (s.link x y) m r))
answer_asks own s x y m r bs is tells says k =
    let l = s.link x y in
    one_link own bs s.link x y (answered l m r) (All-push (HeardSays own l.epoch bs x y) l.replies (record { sync = m.sync; bucket = bucket_of m.message; reply = r }) (k.answers x y) says) (λ q v h nm. open_answered l m r v q is (tells q)) k

pub deliver_asks : (own : ℕ → ℕ) (s t : State) (x y : ℕ) → Inner own s → UpFits s → AsksFit own s.bucket s.link → deliver s x y ≡ Ok t → AsksFit own t.bucket t.link
deliver_asks own s t x y i u a e =
    let p = can_deliver s t x y e in
    subst (λ (v : State). AsksFit own v.bucket v.link) p.gives (by_message p.sent.sync p.sent.message (head_is (x == y) (s.link x y).calls p.sent p.head))
  where
    taking : (k : ℕ) (m : Message) (r : Reply) (new : Bucket) → let v : link.Sent = record { sync = k; message = m } in (s.link x y).calls ≡ v ∷ rest (s.link x y).calls
        → ((b : ℕ) → m ≡ Stat b → (st : Option Status) × (live : Bool) × (r ≡ reply.State st live)) → ((bs : ℕ → Bucket) → HeardSays own (s.link x y).epoch bs x y (record { sync = k; bucket = bucket_of m; reply = r }))
        → KeepsAsks s (own (bucket_of m)) (own (bucket_of m)) (s.bucket (bucket_of m)) new → AsksFit own (put s.bucket (bucket_of m) new) (put_at s.link x y (answered (s.link x y) v r))
    taking k m r new is tells says keeps =
        let v : link.Sent = record { sync = k; message = m } in
        answer_asks own s x y v r (put s.bucket (bucket_of m) new) is tells (says (put s.bucket (bucket_of m) new)) (one_bucket s own own (bucket_of m) new (same_owners own (bucket_of m)) keeps u a)

    by_rows : (k b : ℕ) (page : List (List ℕ × List ℕ)) (r : Result Took RecvFault) → (s.link x y).calls ≡ (record { sync = k; message = Chunk b page }) ∷ rest (s.link x y).calls → received_at s x y b false ≡ r
        → let v = after_message s x y (record { sync = k; message = Chunk b page }) r in AsksFit own v.bucket v.link
    by_rows k b page (Err fault) is e = taking k (Chunk b page) (reply.Not fault) (s.bucket b) is (λ q g. absurd cc) (λ bs. tt) (unchanged s (own b) (s.bucket b) (a.asks b))
    by_rows k b page (Ok took) is e =
        let old = s.bucket b in
        let m : link.Sent = record { sync = k; message = Chunk b page } in
        let head = (head_fits s.bucket x y (s.link x y) m is (i.links x y)).0 in
        let sends = phase_of (sets_of s) (own b) old x y (Waiting (s.link x y).epoch k (last_key page)) (i.buckets b) head.0 in
        let free = data_taken (old.entry y) (is_locked s y) (receiving_at s y) s.config.max_receiving x took e in
        let calm = page_calm (Both s y) (Both s y) Never (sets_of s) (own b) old x y (i.buckets b) sends free (λ up none. absurd (cc (none, head.0.there))) in
        taking k (Chunk b page) reply.Took (with_page old x y page) is (λ q g. absurd cc) (λ bs. tt) (page_asks b page took e (a.asks b) calm)
      where
        -- y asks nothing of a bucket that it hasn't; where it is receiving already it stays so
        page_asks : (b : ℕ) (page : List (List ℕ × List ℕ)) (took : Took) → received_at s x y b false ≡ Ok took → AsksOf (s.bucket b)
            → Calm (Both s y) (Both s y) Never (own b) (own b) (s.bucket b).entry (s.bucket b).transfer (put (s.bucket b).entry y (Some (Receiving x))) (s.bucket b).transfer y
            → KeepsAsks s (own b) (own b) (s.bucket b) (with_page (s.bucket b) x y page)
        page_asks b page took e af calm = by (data_taken ((s.bucket b).entry y) (is_locked s y) (receiving_at s y) s.config.max_receiving x took e)
          where
            by : ((s.bucket b).entry y ≡ None) ⊎ ((s.bucket b).entry y ≡ Some (Receiving x)) → KeepsAsks s (own b) (own b) (s.bucket b) (with_page (s.bucket b) x y page)
            by (inl none) = touched s (own b) (own b) (s.bucket b) (with_page (s.bucket b) x y page) y af (none_ends (s.bucket b) y af (λ g. subst (λ w. AskFits w ((s.bucket b).transfer y)) none g)) calm
            by (inr from) =
                let same : put (s.bucket b).entry y (Some (Receiving x)) ≡ (s.bucket b).entry = ap (put (s.bucket b).entry y) (sym from) ∙ put_same (s.bucket b).entry y in
                same_asks s (own b) (s.bucket b) (with_page (s.bucket b) x y page) af same refl refl

    by_last : (k b : ℕ) (r : Result Took RecvFault) → (s.link x y).calls ≡ (record { sync = k; message = Last b }) ∷ rest (s.link x y).calls → received_at s x y b true ≡ r
        → let v = after_message s x y (record { sync = k; message = Last b }) r in AsksFit own v.bucket v.link
    by_last k b (Err fault) is e = taking k (Last b) (reply.Not fault) (s.bucket b) is (λ q g. absurd cc) (λ bs. tt) (unchanged s (own b) (s.bucket b) (a.asks b))
    by_last k b (Ok took) is e =
        let old = s.bucket b in
        let from = last_taken (old.entry y) (is_locked s y) (receiving_at s y) s.config.max_receiving x took e in
        taking k (Last b) reply.Took (with_last old y) is (λ q g. absurd cc) (λ bs. tt)
        (touched s (own b) (own b) old (with_last old y) y (a.asks b) (put_ends old y) (last_calm (Both s y) (Both s y) Never (own b) old y x from))

    by_message : (k : ℕ) (m : Message) → (s.link x y).calls ≡ (record { sync = k; message = m }) ∷ rest (s.link x y).calls → let v = after_deliver s x y (record { sync = k; message = m }) m in AsksFit own v.bucket v.link
    by_message k (Chunk b page) is = by_rows k b page (received_at s x y b false) is refl
    by_message k (Last b) is = by_last k b (received_at s x y b true) is refl
    by_message k (Stat b) is = answer_asks own s x y (record { sync = k; message = Stat b }) (status_at (s.bucket b) y) s.bucket is (λ q g. (_, _, refl)) (λ asks named. answer_true (own b) (s.bucket b) x y (i.buckets b).placed named) a

-- ---- hear

-- what x decides leaves to the other asks
pub decided_asks : (s : State) (o : ℕ) (b : Bucket) (x y : ℕ) (d : Decision) → AsksOf b → DecisionFits o b.entry b.transfer x y d → KeepsAsks s o o b (decided b x d)
decided_asks s o b x y Stay af k = touched s o o b (decided b x Stay) x af (put_ends b x) (same_calm (Both s x) (Both s x) Never o b.entry b.transfer x)
decided_asks s o b x y ToActive af k = touched s o o b (decided b x ToActive) x af (put_ends b x) (decided_calm (Both s x) (Both s x) Never o b x y ToActive k (λ w t. absurd t))
decided_asks s o b x y ToGarbage af k = touched s o o b (decided b x ToGarbage) x af (put_ends b x) (decided_calm (Both s x) (Both s x) Never o b x y ToGarbage k (λ w t. absurd t))

-- the answer to an ask ends it
pub answer_ends : (e : ℕ) (b : Bucket) (x y : ℕ) (v : Ask) (st : Option Status) (live : Bool) → b.ask x ≡ Some v → v.epoch ≡ e → asked_set (b.entry x) ≡ Some y → (recovered b e x y v.sync st live).ask x ≡ None
answer_ends e b x y v st live at is named = subst (λ t. (if t then decided b x (decision_by (b.entry x) st live) else b).ask x ≡ None) (sym holds) (gone (decision_by (b.entry x) st live))
  where
    holds : (is_ask (b.ask x) e v.sync && is_set_named (asked_set (b.entry x)) y) ≡ true
    holds = subst (λ o. (is_ask o e v.sync && is_set_named (asked_set (b.entry x)) y) ≡ true) (sym at) (subst (λ o. (((v.epoch == e) && (v.sync == v.sync)) && is_set_named o y) ≡ true) (sym named)
        (subst (λ t. ((t && (v.sync == v.sync)) && (y == y)) ≡ true) (sym (eq-eqb v.epoch e is)) (subst (λ t. (t && (y == y)) ≡ true) (sym (eq-eqb v.sync v.sync refl)) (eq-eqb y y refl))))

    gone : (d : Decision) → (decided b x d).ask x ≡ None
    gone Stay = put_here b.ask x None
    gone ToActive = put_here b.ask x None
    gone ToGarbage = put_here b.ask x None

pub hear_asks : (own : ℕ → ℕ) (s t : State) (x y : ℕ) → Inner own s → UpFits s → AsksFit own s.bucket s.link → hear s x y ≡ Ok t → AsksFit own t.bucket t.link
hear_asks own s t x y i u a e =
    let p = can_hear s t x y e in
    subst (λ (v : State). AsksFit own v.bucket v.link) p.gives (whole p.heard.sync p.heard.bucket p.heard.reply (head_is (x == y) (s.link x y).replies p.heard p.head))
  where
    l : Connection
    l = s.link x y

    waits : (n q : ℕ) (r : Reply) → ReplyFits l.epoch (s.bucket q) x y n r → ((st : Option Status) (live : Bool) → r ≢ reply.State st live) → (w : Transfer) × ((s.bucket q).transfer x ≡ Some w)
    waits n q reply.Took (inl h) ne = (h.it, h.there)
    waits n q reply.Took (inr h) ne = (h.waits.it, h.waits.there)
    waits n q (reply.Not f) (inl h) ne = (h.it, h.there)
    waits n q (reply.Not f) (inr h) ne = (h.waits.it, h.waits.there)
    waits n q (reply.State st live) h ne = absurd (ne st live refl)

    fits : (n q : ℕ) (r : Reply) → l.replies ≡ (record { sync = n; bucket = q; reply = r }) ∷ rest l.replies → ReplyFits l.epoch (s.bucket q) x y n r
    fits n q r is = All-head (HeardFits l.epoch s.bucket x y) (record { sync = n; bucket = q; reply = r }) (rest l.replies) (subst (All (HeardFits l.epoch s.bucket x y)) is (i.links x y).replies)

    by_reply : (n q : ℕ) (r : Reply) → l.replies ≡ (record { sync = n; bucket = q; reply = r }) ∷ rest l.replies → KeepsAsks s (own q) (own q) (s.bucket q) (bucket_hearing (s.bucket q) l.epoch x y (record { sync = n; bucket = q; reply = r }) r)
    by_reply n q reply.Took is = let w = waits n q reply.Took (fits n q reply.Took is) (λ st live g. absurd cc) in phase_asks s (own q) (s.bucket q) x _ (a.asks q) (unasked (sets_of s) (own q) (s.bucket q) x w.0 (i.buckets q) w.1)
    by_reply n q (reply.Not f) is = let w = waits n q (reply.Not f) (fits n q (reply.Not f) is) (λ st live g. absurd cc) in phase_asks s (own q) (s.bucket q) x _ (a.asks q) (unasked (sets_of s) (own q) (s.bucket q) x w.0 (i.buckets q) w.1)
    by_reply n q (reply.State st live) is =
        let old = s.bucket q in
        let says = head_says own s x y (record { sync = n; bucket = q; reply = reply.State st live }) a is in
        elim (hears l.epoch old x y n st live) [
          | inl g ↦ subst (KeepsAsks s (own q) (own q) old) (sym g) (unchanged s (own q) old (a.asks q))
          | inr k ↦ subst (KeepsAsks s (own q) (own q) old) (sym k.gives) (decided_asks s (own q) old x y _ (a.asks q) (decides (own q) old x y (old.entry x) st live refl (a.asks q x _ k.asks) k.named (says k.asks k.named)))
        ]

    -- the first reply answers no ask that is left
    ended : (n q : ℕ) (r : Reply) (v : Ask) (b : ℕ) (st : Option Status) (live : Bool) → (let h : Heard = record { sync = n; bucket = q; reply = r } in h) ≡ record { sync = v.sync; bucket = b; reply = reply.State st live }
        → (s.bucket b).ask x ≡ Some v → asked_set ((s.bucket b).entry x) ≡ Some y → v.epoch ≡ l.epoch
        → let next = put s.bucket q (bucket_hearing (s.bucket q) l.epoch x y (record { sync = n; bucket = q; reply = r }) r) in (next b).ask x ≡ None
    ended n q r v b st live same at named e =
        let syncs : n ≡ v.sync = ap (λ (h : Heard). h.sync) same in
        let buckets : q ≡ b = ap (λ (h : Heard). h.bucket) same in
        let replies : r ≡ reply.State st live = ap (λ (h : Heard). h.reply) same in
        let here : put s.bucket b (recovered (s.bucket b) l.epoch x y v.sync st live) b ≡ recovered (s.bucket b) l.epoch x y v.sync st live = put_here s.bucket b _ in
        let gone : (put s.bucket b (recovered (s.bucket b) l.epoch x y v.sync st live) b).ask x ≡ None = ap (λ (w : Bucket). w.ask x) here ∙ answer_ends l.epoch (s.bucket b) x y v st live at e named in
        subst (λ z. (put s.bucket z (bucket_hearing (s.bucket z) l.epoch x y (record { sync = n; bucket = z; reply = r }) r) b).ask x ≡ None) (sym buckets)
        (subst (λ k. (put s.bucket b (bucket_hearing (s.bucket b) l.epoch x y (record { sync = k; bucket = b; reply = r }) r) b).ask x ≡ None) (sym syncs)
        (subst (λ k. (put s.bucket b (bucket_hearing (s.bucket b) l.epoch x y (record { sync = v.sync; bucket = b; reply = k }) k) b).ask x ≡ None) (sym replies) gone))

    whole : (n q : ℕ) (r : Reply) → l.replies ≡ (record { sync = n; bucket = q; reply = r }) ∷ rest l.replies → let v = after_hear s x y (record { sync = n; bucket = q; reply = r }) in AsksFit own v.bucket v.link
    whole n q r is =
        let heard : Heard = record { sync = n; bucket = q; reply = r } in
        let new : Bucket = bucket_hearing (s.bucket q) l.epoch x y heard r in
        let keeps = by_reply n q r is in
        let kept = one_bucket s own own q new (same_owners own q) keeps u a in
        let next : ℕ → Bucket = put s.bucket q new in
        let P : Heard → Type 0 = HeardSays own l.epoch next x y in
        one_link own next s.link x y (without_reply l) (All-tail P heard (rest l.replies) (subst (All P) is (kept.answers x y)))
        (λ b v h nm was. (
          was.0,
          λ e. elim (was.1 e) [
            | inl c ↦ inl c
            | inr w ↦ elim (first_or_rest heard (rest l.replies) _ (subst (λ rs. Contains rs (record { sync = v.sync; bucket = b; reply = reply.State w.0 w.1 })) is w.2)) [
              | inl g ↦
                  let before = put_each (λ z (c : Bucket). c.ask x ≡ Some v → ((s.bucket z).ask x ≡ Some v) × (c.entry x ≡ (s.bucket z).entry x)) s.bucket q new (keeps.same x v) (λ z k. (k, refl)) b h in
                  absurd (cc (h, ended n q r v b w.0 w.1 g before.0 (ap asked_set (sym before.1) ∙ nm) e))
              | inr g ↦ inr (w.0, w.1, g)
            ]
          ],
        )) kept

-- ---- close

pub close_asks : (own : ℕ → ℕ) (s t : State) (o : ℕ) → AsksFit own s.bucket s.link → close s o ≡ Ok t → AsksFit own t.bucket t.link
close_asks own s t o a e =
    let p = can_close s t o e in
    subst (λ (v : State). AsksFit own v.bucket v.link) p.gives (one_link own s.bucket s.link p.x p.y (closed (s.link p.x p.y)) (All-nil _) (λ q v h nm. open_closed (s.link p.x p.y) v q) a)

-- ---- ask

abbrev sync_or : Option Ask → ℕ
sync_or None = 0
sync_or (Some v) = v.sync

abbrev or : Ask → Option Ask → Ask
or v None = v
or v (Some w) = w

may_fits : (y : ℕ) (e : Option Status) (m : Option Transfer) → asked_set e ≡ Some y → may_ask e m ≡ true → AskFits e m
may_fits y (Some (Sending d)) m nm may = none_is m may
may_fits y (Some (Receiving d)) m nm may = tt
may_fits y None m nm may = absurd cc
may_fits y (Some Active) m nm may = absurd cc
may_fits y (Some Pinned) m nm may = absurd cc
may_fits y (Some (Sent d)) m nm may = absurd cc
may_fits y (Some Garbage) m nm may = absurd cc

new_open : (l : Connection) (b : ℕ) (w : Ask) → record { epoch = l.epoch; sync = l.next } ≡ w → IsOpen (with_message l (Stat b)) w b
new_open l b w same = subst (λ v. IsOpen (with_message l (Stat b)) v b) same (omega arith, λ e. inl (Contains-push l.calls (record { sync = l.next; message = Stat b })))

put_pair_here : (f : ℕ → ℕ → Connection) (p q : ℕ) (l : Connection) → put_at f p q l p q ≡ l
put_pair_here f p q l = ap (λ (g : ℕ → Connection). g q) (put_here f p (put (f p) q l)) ∙ put_here (f p) q l

pub ask_asks : (own : ℕ → ℕ) (s t : State) (x b : ℕ) → Inner own s → AsksFit own s.bucket s.link → ask s x b ≡ Ok t → AsksFit own t.bucket t.link
ask_asks own s t x b i a e =
    let can = can_ask s t x b e in
    let y = can.y in
    let l = s.link x y in
    let old = s.bucket b in
    let v : Ask = record { epoch = l.epoch; sync = l.next } in
    let new : Bucket = with_ask old x (Some v) in
    let next : ℕ → Bucket = put s.bucket b new in
    let lines : ℕ → ℕ → Connection = put_at s.link x y (with_message l (Stat b)) in
    let answers : (z w : ℕ) → All (HeardSays own (s.link z w).epoch next z w) (s.link z w).replies = λ z w k d lt.
    let r = get_or (s.link z w).replies k d in
    put_each (λ q (n : Bucket). SaysOf (own q) (s.link z w).epoch (s.bucket q) z w r.sync r.reply → SaysOf (own q) (s.link z w).epoch n z w r.sync r.reply) s.bucket b new
    (says y z w r.sync r.reply can.named (λ gz gw. below y z w gz gw k d lt)) (λ q h. h) r.bucket (a.answers z w k d lt) in
    let grows : (z p : ℕ) (w : Ask) (q : ℕ) → IsOpen (s.link z p) w q → IsOpen (lines z p) w q = λ z p w q.
    put_pair (λ z p (k : Connection). IsOpen (s.link z p) w q → IsOpen k w q) s.link x y _ (open_sent l (Stat b) w q) (λ z p h. h) z p in
    let kept : AsksFit own next lines = record {
      asks = put_each (λ q. AsksOf) s.bucket b new (λ z w h. elim (put_split old.ask x (Some v) z (Some w) h) [
        | inl g ↦ subst (λ q. AskFits (old.entry q) (old.transfer q)) (sym g.0) (may_fits y (old.entry x) (old.transfer x) can.named can.may)
        | inr g ↦ a.asks b z w g.1
      ]) a.asks;
      sought = put_each (λ q (n : Bucket). (z : ℕ) (w : Ask) → n.ask z ≡ Some w → (p : ℕ) → asked_set (n.entry z) ≡ Some p → IsOpen (lines z p) w q) s.bucket b new
          (λ z w h p nm. elim (put_split old.ask x (Some v) z (Some w) h) [
            | inl g ↦
                let to : y ≡ p = cc (ap (λ r. asked_set (old.entry r)) g.0, nm, can.named) in
                subst (λ r. IsOpen (lines r p) w b) (sym g.0) (subst (λ r. IsOpen (lines x r) w b) to
                (subst (λ k. IsOpen k w b) (sym (put_pair_here s.link x y _)) (new_open l b w (ap (or v) g.1))))
            | inr g ↦ grows z p w b (a.sought b z w g.1 p nm)
          ]) (λ q z w h p nm. grows z p w q (a.sought q z w h p nm));
      answers = put_pair (λ z w (k : Connection). All (HeardSays own k.epoch next z w) k.replies) s.link x y _ (answers x y) answers;
    } in
    subst (λ (v : State). AsksFit own v.bucket v.link) can.gives kept
  where
    -- each reply in this line has an older number
    below : (y z w : ℕ) → z ≡ x → w ≡ y → (k : ℕ) (d : Heard) → k < length (s.link z w).replies → (get_or (s.link z w).replies k d).sync < (s.link x y).next
    below y z w gz gw k d lt =
        let l = s.link z w in
        let h : (get_or l.replies k d).sync < l.next = All-unmap (λ n. n < l.next) heard_sync l.replies (All-before (λ n. n < l.next) (map heard_sync l.replies) (map sync_of l.calls) (i.links z w).below) k d lt in
        subst (λ p. (get_or l.replies k d).sync < (s.link p y).next) gz (subst (λ p. (get_or l.replies k d).sync < (s.link z p).next) gw h)

    -- so no answer is for the new ask yet
    says : (y z w n : ℕ) (r : Reply) → asked_set ((s.bucket b).entry x) ≡ Some y → (z ≡ x → w ≡ y → n < (s.link x y).next)
        → let old = s.bucket b in SaysOf (own b) (s.link z w).epoch old z w n r → SaysOf (own b) (s.link z w).epoch (with_ask old x (Some (record { epoch = (s.link x y).epoch; sync = (s.link x y).next }))) z w n r
    says y z w n reply.Took named lt h = tt
    says y z w n (reply.Not f) named lt h = tt
    says y z w n (reply.State st live) named lt h = λ asks nm. elim (put_split (s.bucket b).ask x _ z _ asks) [
      | inl g ↦
          let gw : w ≡ y = cc (ap (λ p. asked_set ((s.bucket b).entry p)) g.0, nm, named) in
          let same : (s.link x y).next ≡ n = ap sync_or g.1 in
          let less : n < (s.link x y).next = lt g.0 gw in
          absurd (omega arith)
      | inr g ↦ h g.1 nm
    ]
