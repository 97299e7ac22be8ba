-- Calls that began, transfers, asks and messages stand only at sets that are up: kept by every event.
use Rattle.std.proofs.Common.{◌≡◌, ℕ, Ok, Err, inl, inr, Bool, true, false, refl, sym, subst, ◌∙◌, arith, [], ◌∷◌, ◌++◌, drop, Option, Some, None, Result}
use Rattle.std.specs.Prelude.{◌-◌, ◌≢◌, ◌==◌, ◌||◌, ◌&&◌, not, if◌then◌else◌, All}
use Rattle.std.proofs.lemmas.Bool.{eqb-false, eq-eqb}
use Rattle.std.proofs.lemmas.List.Elements.{All-nil, All-head, All-tail, All-push, All-weaker}
use Rattle.vs_rows.specs.Operations.{answers_to}
use Rattle.vs_space.specs.declared.reply.Reply.{Reply}
use Rattle.vs_space.specs.declared.reply.Reply.TheVariants as reply
use Rattle.vs_space.specs.declared.reply.RecvFault.{RecvFault}
use Rattle.vs_space.specs.declared.status.Status.{Status}
use Rattle.vs_space.specs.declared.status.Status.TheVariants.{Sending, Sent, Garbage}
use Rattle.vs_space.specs.declared.status.Cause.TheVariants.{Down}
use Rattle.vs_space.specs.declared.status.Verdict.{Verdict}
use Rattle.vs_space.specs.declared.status.Verdict.TheVariants.{Granted, Refused}
use Rattle.vs_space.specs.Verdict.{verdict_of}
use Rattle.vs_calls.specs.declared.stage.Stage.{Stage}
use Rattle.vs_calls.specs.declared.stage.Stage.TheVariants as stage
use Rattle.vs_calls.specs.Progress.{Progress, posted, begun, acted, ended, cut, cut_at, lost, taken, outcome_of, is_running, is_acted, is_at_set}
use Rattle.vs_event.specs.declared.event.Event.{Event}
use Rattle.vs_event.specs.declared.event.Event.TheVariants.{Post, Begin, Act, End, Take, Cut, Start, Haul, NotYet, Freeze, Chunk, Seal, Last, Abort, EndMove, Deliver, Hear, Close, Ask, Condemn, Wipe, Forget, Pin, Plan, Stop, Fault, Restart}
use Rattle.vs_event.specs.declared.event.Recorded.{Recorded}
use Rattle.vs_event.specs.declared.event.RestartBy.{RestartBy}
use Rattle.vs_event.specs.declared.event.RestartBy.TheVariants.{Line, Service}
use Rattle.vs_event.specs.declared.reason.Reason.TheVariants as reason
use Rattle.vs_history.specs.History.{write_count}
use Rattle.vs_link.specs.Connection.{Connection, Message, bucket_of, rest, with_message, without_reply, unused, closed}
use Rattle.vs_link.specs.Connection as link
use Rattle.vs_link.specs.declared.message.Heard.{Heard}
use Rattle.vs_record.specs.Change.{Change}
use Rattle.vs_record.specs.Change as changes
use Rattle.vs_recover.specs.declared.decision.Decision.{Decision}
use Rattle.vs_recover.specs.declared.decision.Decision.TheVariants.{Stay, ToActive, ToGarbage}
use Rattle.vs_recv.specs.declared.took.Took.{Took}
use Rattle.vs_send.specs.declared.transfer.By.TheVariants as by_what
use Rattle.vs_send.specs.declared.transfer.Phase.TheVariants.{Ready, Waiting, Sealed, WaitingLast}
use Rattle.vs_send.specs.declared.transfer.Transfer.{Transfer}
use Rattle.vs_machine.specs.declared.outcome.CommandFault.{CommandFault}
use Rattle.vs_machine.specs.declared.outcome.CommandOutcome.TheVariants.{Done, Late, WasDown, WasUp}
use Rattle.vs_machine.specs.State as state
use Rattle.vs_machine.specs.State.{State, Bucket, Client, Operator, sets_of, is_link, is_set, is_draining, answer, call_id, put_client, put_operator, put_bucket, put_link, with_progress, with_entry, put_rows, with_transfer, with_ask}
use Rattle.vs_machine.specs.Step.{step}
use Rattle.vs_machine.specs.Tables.{put, least_to}
use Rattle.vs_machine.specs.Kinds.Calls.{post, begin, act, «end», take, cut_call, place_of, bucket_after, is_answered}
use Rattle.vs_machine.specs.Kinds.Sender.{Move, in_phase, last_key, next_page, with_begun, start, after_start, not_yet, freeze, chunk, seal, last, abort, end_move}
use Rattle.vs_machine.specs.Kinds.Faults.{send_fault}
use Rattle.vs_machine.specs.Kinds.Connections.{deliver, after_deliver, after_message, answered, received_at, bucket_taking, reply_of, status_at, hear, bucket_hearing, recovered, decided, counts_at, decision_by, close}
use Rattle.vs_machine.specs.Kinds.Recovery.{ask}
use Rattle.vs_machine.specs.Kinds.Collection.{condemn, wipe, forget}
use Rattle.vs_machine.specs.Kinds.Pinning.{Pinning, pin, pinning_fault, after_pin}
use Rattle.vs_machine.specs.Kinds.Rebalancing.{haul, after_haul, bucket_to_haul, put_left, left_on, plan, plan_round, is_in_move}
use Rattle.vs_machine.specs.Kinds.Stops.{gone_down, stop, fault, restart, restarted, up_again, with_change}
use Rattle.vs_machine.specs.Whole.{Inner}
use Rattle.vs_machine.specs.Inner.Down.{has_begun, IsUp, UpFits}
use Rattle.vs_machine.proofs.Frame.{put_each, put_there, put_split, put_pair}
use Rattle.vs_machine.proofs.Leaves.{acted_transfer, acted_ask, changed_transfer, changed_ask}
use Rattle.vs_machine.proofs.Possible.{ok_is, wants_none_ok}
use Rattle.vs_machine.proofs.Can.Calls.{can_post, can_begin, can_act, can_end, can_take, can_cut}
use Rattle.vs_machine.proofs.Can.Sender.{can_start, can_wait, can_freeze, can_chunk, can_seal, can_last, can_abort, can_end_move}
use Rattle.vs_machine.proofs.Can.Others.{can_deliver, can_hear, can_close, can_ask, can_condemn, can_wipe, can_forget, can_pin, can_haul, can_plan}
use Rattle.vs_machine.proofs.Can.Stops.{can_stop, can_fault, can_restart, can_restart_line}
use Rattle.vs_machine.proofs.Kept.Delivering.{head_is}
use Rattle.vs_machine.proofs.Kept.Sending.{may_send, may_haul}

-- ---- what one change leaves

abbrev Lines : State → ℕ → ℕ → Connection → Type 0
Lines s x y l = All (λ m. IsUp s x × IsUp s y) l.calls × All (λ r. IsUp s x × IsUp s y) l.replies

-- the transfers and the asks of a bucket are at sets that are up
record Stands (s : State) (b : Bucket) : Type 0 where
  transfers : (x : ℕ) (t : Transfer) → b.transfer x ≡ Some t → IsUp s x
  asks : (x : ℕ) (a : state.Ask) → b.ask x ≡ Some a → IsUp s x

stands_of : (s : State) → UpFits s → (b : ℕ) → Stands s (s.bucket b)
stands_of s i b = record { transfers = i.transfers b; asks = i.asks b }

-- the bucket has the transfers and the asks that another has
stands_as : (s : State) (old new : Bucket) → new.transfer ≡ old.transfer → new.ask ≡ old.ask → Stands s old → Stands s new
stands_as s old new moves seeks h = record {
  transfers = subst (λ (f : ℕ → Option Transfer). (x : ℕ) (t : Transfer) → f x ≡ Some t → IsUp s x) (sym moves) h.transfers;
  asks = subst (λ (f : ℕ → Option state.Ask). (x : ℕ) (a : state.Ask) → f x ≡ Some a → IsUp s x) (sym seeks) h.asks;
}

operators_move : (s : State) (ops : ℕ → Operator) → UpFits s → UpFits (record s { operator = ops })
operators_move s ops i = record { calls = i.calls; transfers = i.transfers; asks = i.asks; messages = i.messages; replies = i.replies }

client_moves : (s : State) (c : ℕ) (new : Client) → UpFits s → ((x : ℕ) → has_begun new.present.stage ≡ true → new.present.set ≡ Some x → IsUp s x) → UpFits (put_client s c new)
client_moves s c new i up = record {
  calls = put_each (λ q (u : Client). (x : ℕ) → has_begun u.present.stage ≡ true → u.present.set ≡ Some x → IsUp s x) s.client c new up i.calls;
  transfers = i.transfers;
  asks = i.asks;
  messages = i.messages;
  replies = i.replies;
}

bucket_moves : (s : State) (b : ℕ) (new : Bucket) → UpFits s → Stands s new → UpFits (put_bucket s b new)
bucket_moves s b new i up = record {
  calls = i.calls;
  transfers = put_each (λ q (u : Bucket). (x : ℕ) (t : Transfer) → u.transfer x ≡ Some t → IsUp s x) s.bucket b new up.transfers i.transfers;
  asks = put_each (λ q (u : Bucket). (x : ℕ) (a : state.Ask) → u.ask x ≡ Some a → IsUp s x) s.bucket b new up.asks i.asks;
  messages = i.messages;
  replies = i.replies;
}

link_moves : (s : State) (x y : ℕ) (l : Connection) → UpFits s → Lines s x y l → UpFits (put_link s x y l)
link_moves s x y l i up =
    let all = put_pair (Lines s) s.link x y l up (λ p q. (i.messages p q, i.replies p q)) in
    record { calls = i.calls; transfers = i.transfers; asks = i.asks; messages = λ p q. (all p q).0; replies = λ p q. (all p q).1 }

-- a bucket of which the transfers and the asks stay
still_moves : (s : State) (b : ℕ) (new : Bucket) → UpFits s → new.transfer ≡ (s.bucket b).transfer → new.ask ≡ (s.bucket b).ask → UpFits (put_bucket s b new)
still_moves s b new i moves seeks = bucket_moves s b new i (stands_as s (s.bucket b) new moves seeks (stands_of s i b))

-- a transfer is put at a set that is up
put_up : (s : State) (b : Bucket) (x : ℕ) (v : Option Transfer) → IsUp s x → Stands s b → Stands s (with_transfer b x v)
put_up s b x v up h = record {
  transfers = λ z t e. elim (put_split b.transfer x v z (Some t) e) [ inl at ↦ subst (IsUp s) (sym at.0) up | inr at ↦ h.transfers z t at.1 ];
  asks = h.asks;
}

-- an ask ends
end_up : (s : State) (b : Bucket) (x : ℕ) → Stands s b → Stands s (with_ask b x None)
end_up s b x h = record {
  transfers = h.transfers;
  asks = λ z a e. elim (put_split b.ask x None z (Some a) e) [ inl at ↦ absurd (cc (at.1)) | inr at ↦ h.asks z a at.1 ];
}

-- a message goes into a line between sets that are up
sent_up : (s : State) (x y : ℕ) (m : Message) → UpFits s → IsUp s x → IsUp s y → Lines s x y (with_message (s.link x y) m)
sent_up s x y m i ux uy =
    let l = s.link x y in
    (All-push (λ u. IsUp s x × IsUp s y) l.calls (record { sync = l.next; message = m }) (i.messages x y) (ux, uy), i.replies x y)

-- ---- calls

pub post_ups : (s t : State) (c x : ℕ) → UpFits s → post s c x ≡ Ok t → UpFits t
post_ups s t c x i e =
    let p = can_post s t c x e in
    let old = s.client c in
    let new : Client = with_progress old (posted old.present x (write_count (s.bucket p.k.bucket).history)) in
    subst UpFits p.gives (client_moves s c new i (λ y h is. absurd cc))

begun_up : (s : State) (old : Progress) (x : ℕ) (up : Bool) (v : Verdict) → s.up x ≡ up → old.set ≡ Some x
    → (y : ℕ) → has_begun (begun old (if up then v else Refused Down)).stage ≡ true → (begun old (if up then v else Refused Down)).set ≡ Some y → IsUp s y
begun_up s old x true Granted is at y h e = let same : x ≡ y = cc (at, e) in subst (IsUp s) same is
begun_up s old x true (Refused cause) is at y h e = absurd cc
begun_up s old x false v is at y h e = absurd cc

pub begin_ups : (s t : State) (c : ℕ) → UpFits s → begin s c ≡ Ok t → UpFits t
begin_ups s t c i e =
    let p = can_begin s t c e in
    let b = s.bucket p.k.bucket in
    subst UpFits p.gives (client_moves s c _ i (begun_up s (s.client c).present p.x (s.up p.x) (verdict_of (b.entry p.x) (is_draining (b.transfer p.x)) p.k.mode) refl p.set))

running_began : (g : Stage) → is_running g ≡ true → has_begun g ≡ true
running_began g h = grind (arith, h)

acted_began : (g : Stage) → is_acted g ≡ true → has_begun g ≡ true
acted_began g h = grind (arith, h)

pub act_ups : (s t : State) (c : ℕ) → UpFits s → act s c ≡ Ok t → UpFits t
act_ups s t c i e =
    let p = can_act s t c e in
    let old = s.client c in
    let b = s.bucket p.k.bucket in
    let id = call_id c old in
    let new : Client = with_progress old (acted old.present (place_of b p.x p.k.mode) (answers_to (b.rows p.x) p.k.ops)) in
    let there : (x : ℕ) → old.present.set ≡ Some x → IsUp s x = λ x. i.calls c x (running_began old.present.stage p.running) in
    subst UpFits p.gives (still_moves (put_client s c new) p.k.bucket (bucket_after b p.x id p.k.mode p.k.ops) (client_moves s c new i (λ x h. there x)) (acted_transfer b p.x id p.k.mode p.k.ops) (acted_ask b p.x id p.k.mode p.k.ops))

pub end_ups : (s t : State) (c : ℕ) → UpFits s → «end» s c ≡ Ok t → UpFits t
end_ups s t c i e =
    let p = can_end s t c e in
    let old = s.client c in
    subst UpFits p.gives (client_moves s c (with_progress old (ended old.present)) i (by old.present old.present.cut (λ x. i.calls c x (acted_began old.present.stage p.acted))))
  where
    by : (q : Progress) (u : Bool) → ((x : ℕ) → q.set ≡ Some x → IsUp s x)
        → (x : ℕ) → has_begun (if u then lost q else record q { stage = stage.Ended }).stage ≡ true → (if u then lost q else record q { stage = stage.Ended }).set ≡ Some x → IsUp s x
    by q true up x h at = absurd cc
    by q false up x h at = up x at

pub take_ups : (s t : State) (c : ℕ) → UpFits s → take s c ≡ Ok t → UpFits t
take_ups s t c i e =
    let p = can_take s t c e in
    let old = s.client c in
    let new : Client = record old { answered = old.answered ++ outcome_of old.present ∷ []; present = taken old.present } in
    subst UpFits p.gives (client_moves s c new i (λ x h at. absurd cc))

-- a call that is cut is where it was, or it is lost
cut_up : (s : State) (q : Progress) (g : Stage) → q.stage ≡ g → ((x : ℕ) → has_begun q.stage ≡ true → q.set ≡ Some x → IsUp s x)
    → (x : ℕ) → has_begun (cut_at g q).stage ≡ true → (cut_at g q).set ≡ Some x → IsUp s x
cut_up s q stage.Running is up x h at = up x h at
cut_up s q stage.Acted is up x h at = up x h at
cut_up s q stage.Idle is up x h at = absurd cc
cut_up s q stage.Posted is up x h at = absurd cc
cut_up s q stage.Refused is up x h at = absurd cc
cut_up s q stage.Ended is up x h at = absurd cc
cut_up s q stage.Lost is up x h at = absurd cc

pub cut_ups : (s t : State) (o : ℕ) → UpFits s → cut_call s o ≡ Ok t → UpFits t
cut_ups s t o i e =
    let p = can_cut s t o e in
    subst UpFits p.gives (by p.c (is_answered (s.client p.c) p.n))
  where
    by : (c : ℕ) (late : Bool) → UpFits (let old = s.client c in if late then put_operator s o (answer (s.operator o) Late) else put_operator (put_client s c (with_progress old (cut old.present))) o (answer (s.operator o) Done))
    by c true = operators_move s _ i
    by c false =
        let old = s.client c in
        let new : Client = with_progress old (cut old.present) in
        operators_move (put_client s c new) _ (client_moves s c new i (cut_up s old.present old.present.stage refl (i.calls c)))

-- ---- the source of a transfer

pub start_ups : (s t : State) (o : ℕ) → UpFits s → start s o ≡ Ok t → UpFits t
start_ups s t o i e =
    let p = can_start s t o e in
    subst UpFits p.gives (by p.m (send_fault s p.m.bucket p.m.from p.m.to) refl)
  where
    by : (m : Move) (f : Option CommandFault) → send_fault s m.bucket m.from m.to ≡ f → UpFits (after_start s o m f)
    by m (Some f) is = operators_move s _ i
    by m None is =
        let may = may_send s m.bucket m.from m.to is in
        let new : Bucket = with_begun (s.bucket m.bucket) m.from m.to (by_what.Command o) in
        operators_move (put_bucket s m.bucket new) _ (bucket_moves s m.bucket new i (put_up s (s.bucket m.bucket) m.from _ may.x_up (stands_of s i m.bucket)))

pub haul_ups : (s t : State) (o x d : ℕ) → UpFits s → haul s o x d ≡ Ok t → UpFits t
haul_ups s t o x d i e =
    let p = can_haul s t o x d e in
    subst UpFits p.gives (by (bucket_to_haul s x d) refl)
  where
    by : (v : Option ℕ) → bucket_to_haul s x d ≡ v → UpFits (after_haul s o x d v)
    by None is = operators_move s _ i
    by (Some b) is =
        let may = may_haul s x d b is in
        let left = put_left s o x d (left_on (s.operator o).routes x d - 1) in
        bucket_moves left b _ (operators_move s left.operator i) (put_up left (s.bucket b) x _ may.x_up (stands_of left (operators_move s left.operator i) b))

-- a transfer goes on, or is gone
goes_up : (s : State) (x b : ℕ) (u : Transfer) (v : Option Transfer) → UpFits s → (s.bucket b).transfer x ≡ Some u → UpFits (put_bucket s b (with_transfer (s.bucket b) x v))
goes_up s x b u v i there = bucket_moves s b _ i (put_up s (s.bucket b) x v (i.transfers b x u there) (stands_of s i b))

pub not_yet_ups : (s t : State) (x b : ℕ) → UpFits s → not_yet s x b ≡ Ok t → UpFits t
not_yet_ups s t x b i e = let p = can_wait s t x b e in subst UpFits p.gives (goes_up s x b p.u _ i p.there)

pub freeze_ups : (s t : State) (x b : ℕ) → UpFits s → freeze s x b ≡ Ok t → UpFits t
freeze_ups s t x b i e =
    let p = can_freeze s t x b e in
    let old = s.bucket b in
    let v : Option Transfer = Some (in_phase p.u (Ready None)) in
    let new : Bucket = record old { entry = put old.entry x (Some (Sending p.u.dest)); transfer = put old.transfer x v } in
    subst UpFits p.gives (bucket_moves s b new i (stands_as s (with_transfer old x v) new refl refl (put_up s old x v (i.transfers b x p.u p.there) (stands_of s i b))))

pub chunk_ups : (s t : State) (x b : ℕ) → UpFits s → chunk s x b ≡ Ok t → UpFits t
chunk_ups s t x b i e =
    let p = can_chunk s t x b e in
    let up = i.transfers b x p.u p.there in
    let l = s.link x p.u.dest in
    let page = next_page ((s.bucket b).rows x) p.key in
    let v : Option Transfer = Some (in_phase p.u (Waiting l.epoch l.next (last_key page))) in
    subst UpFits p.gives (link_moves (put_bucket s b (with_transfer (s.bucket b) x v)) x p.u.dest (with_message l (link.Chunk b page)) (goes_up s x b p.u v i p.there) (sent_up s x p.u.dest (link.Chunk b page) i up p.dest_up))

pub seal_ups : (s t : State) (x b : ℕ) → UpFits s → seal s x b ≡ Ok t → UpFits t
seal_ups s t x b i e =
    let p = can_seal s t x b e in
    let old = s.bucket b in
    let v : Option Transfer = Some (in_phase p.u Sealed) in
    let new : Bucket = record old { entry = put old.entry x (Some (Sent p.u.dest)); kept = put old.kept x (write_count old.history); transfer = put old.transfer x v } in
    subst UpFits p.gives (bucket_moves s b new i (stands_as s (with_transfer old x v) new refl refl (put_up s old x v (i.transfers b x p.u p.there) (stands_of s i b))))

pub last_ups : (s t : State) (x b : ℕ) → UpFits s → last s x b ≡ Ok t → UpFits t
last_ups s t x b i e =
    let p = can_last s t x b e in
    let up = i.transfers b x p.u p.there in
    let l = s.link x p.u.dest in
    let v : Option Transfer = Some (in_phase p.u (WaitingLast l.epoch l.next)) in
    subst UpFits p.gives (link_moves (put_bucket s b (with_transfer (s.bucket b) x v)) x p.u.dest (with_message l (link.Last b)) (goes_up s x b p.u v i p.there) (sent_up s x p.u.dest (link.Last b) i up p.dest_up))

pub abort_ups : (s t : State) (x b : ℕ) → UpFits s → abort s x b ≡ Ok t → UpFits t
abort_ups s t x b i e =
    let p = can_abort s t x b e in
    subst UpFits p.gives (operators_move (put_bucket s b (with_transfer (s.bucket b) x None)) _ (goes_up s x b p.u None i p.there))

pub end_move_ups : (s t : State) (x b : ℕ) → UpFits s → end_move s x b ≡ Ok t → UpFits t
end_move_ups s t x b i e =
    let p = can_end_move s t x b e in
    subst UpFits p.gives (operators_move (put_bucket s b (with_transfer (s.bucket b) x None)) _ (goes_up s x b p.u None i p.there))

-- ---- connections

-- the first message of a line is answered
answered_up : (s : State) (x y : ℕ) (m : link.Sent) (r : Reply) → UpFits s → (s.link x y).calls ≡ m ∷ rest (s.link x y).calls → Lines s x y (answered (s.link x y) m r)
answered_up s x y m r i is =
    let l = s.link x y in
    let P : link.Sent → Type 0 = λ u. IsUp s x × IsUp s y in
    let all = subst (All P) is (i.messages x y) in
    (All-tail P m (rest l.calls) all, All-push (λ u. IsUp s x × IsUp s y) l.replies (record { sync = m.sync; bucket = bucket_of m.message; reply = r }) (i.replies x y) (All-head P m (rest l.calls) all))

taking_up : (s : State) (b : Bucket) (x y : ℕ) (m : Message) (r : Result Took RecvFault) → Stands s b → Stands s (bucket_taking b x y m r)
taking_up s b x y (link.Chunk q page) (Ok took) h = record { transfers = h.transfers; asks = h.asks }
taking_up s b x y (link.Chunk q page) (Err f) h = h
taking_up s b x y (link.Last q) (Ok took) h = let g = end_up s b y h in record { transfers = g.transfers; asks = g.asks }
taking_up s b x y (link.Last q) (Err f) h = h
taking_up s b x y (link.Stat q) (Ok took) h = h
taking_up s b x y (link.Stat q) (Err f) h = h

pub deliver_ups : (s t : State) (x y : ℕ) → UpFits s → deliver s x y ≡ Ok t → UpFits t
deliver_ups s t x y i e =
    let p = can_deliver s t x y e in
    subst UpFits p.gives (by p.sent.sync p.sent.message (head_is (x == y) (s.link x y).calls p.sent p.head))
  where
    taken_up : (m : link.Sent) (r : Result Took RecvFault) → (s.link x y).calls ≡ m ∷ rest (s.link x y).calls → UpFits (after_message s x y m r)
    taken_up m r is =
        let b = bucket_of m.message in
        let new : Bucket = bucket_taking (s.bucket b) x y m.message r in
        link_moves (put_bucket s b new) x y _ (bucket_moves s b new i (taking_up s (s.bucket b) x y m.message r (stands_of s i b))) (answered_up s x y m (reply_of r) i is)

    by : (k : ℕ) (m : Message) → (s.link x y).calls ≡ (record { sync = k; message = m }) ∷ rest (s.link x y).calls → UpFits (after_deliver s x y (record { sync = k; message = m }) m)
    by k (link.Chunk b page) is = taken_up (record { sync = k; message = link.Chunk b page }) (received_at s x y b false) is
    by k (link.Last b) is = taken_up (record { sync = k; message = link.Last b }) (received_at s x y b true) is
    by k (link.Stat b) is = link_moves s x y _ i (answered_up s x y (record { sync = k; message = link.Stat b }) (status_at (s.bucket b) y) i is)

decided_up : (s : State) (b : Bucket) (x : ℕ) (d : Decision) → Stands s b → Stands s (decided b x d)
decided_up s b x Stay h = end_up s b x h
decided_up s b x ToActive h = let g = end_up s b x h in record { transfers = g.transfers; asks = g.asks }
decided_up s b x ToGarbage h = let g = end_up s b x h in record { transfers = g.transfers; asks = g.asks }

recovered_up : (s : State) (b : Bucket) (epoch x y n : ℕ) (remote : Option Status) (live : Bool) → Stands s b → Stands s (recovered b epoch x y n remote live)
recovered_up s b epoch x y n remote live h = by (counts_at b epoch x y n)
  where
    by : (t : Bool) → Stands s (if t then decided b x (decision_by (b.entry x) remote live) else b)
    by true = decided_up s b x (decision_by (b.entry x) remote live) h
    by false = h

hearing_up : (s : State) (b : Bucket) (epoch x y : ℕ) (heard : Heard) (r : Reply) → IsUp s x → Stands s b → Stands s (bucket_hearing b epoch x y heard r)
hearing_up s b epoch x y heard reply.Took up h = put_up s b x _ up h
hearing_up s b epoch x y heard (reply.Not f) up h = put_up s b x _ up h
hearing_up s b epoch x y heard (reply.State remote live) up h = recovered_up s b epoch x y heard.sync remote live h

pub hear_ups : (s t : State) (x y : ℕ) → UpFits s → hear s x y ≡ Ok t → UpFits t
hear_ups s t x y i e =
    let p = can_hear s t x y e in
    let r = p.heard in
    let l = s.link x y in
    let P : Heard → Type 0 = λ u. IsUp s x × IsUp s y in
    let all = subst (All P) (head_is (x == y) l.replies r p.head) (i.replies x y) in
    let ups : IsUp s x × IsUp s y = All-head P r (rest l.replies) all in
    let new : Bucket = bucket_hearing (s.bucket r.bucket) l.epoch x y r r.reply in
    subst UpFits p.gives (link_moves (put_bucket s r.bucket new) x y (without_reply l) (bucket_moves s r.bucket new i (hearing_up s (s.bucket r.bucket) l.epoch x y r r.reply ups.0 (stands_of s i r.bucket)))
    (i.messages x y, All-tail P r (rest l.replies) all))

pub close_ups : (s t : State) (o : ℕ) → UpFits s → close s o ≡ Ok t → UpFits t
close_ups s t o i e =
    let p = can_close s t o e in
    let l = closed (s.link p.x p.y) in
    subst UpFits p.gives (operators_move (put_link s p.x p.y l) _ (link_moves s p.x p.y l i (All-nil _, All-nil _)))

pub ask_ups : (s t : State) (x b : ℕ) → UpFits s → ask s x b ≡ Ok t → UpFits t
ask_ups s t x b i e =
    let p = can_ask s t x b e in
    let y = p.y in
    let l = s.link x y in
    let old = s.bucket b in
    let asks : Option state.Ask = Some (record { epoch = l.epoch; sync = l.next }) in
    let new : Bucket = with_ask old x asks in
    let sought : (z : ℕ) (a : state.Ask) → new.ask z ≡ Some a → IsUp s z = λ z a h. elim (put_split old.ask x asks z (Some a) h) [ inl g ↦ subst (IsUp s) (sym g.0) p.x_up | inr g ↦ i.asks b z a g.1 ] in
    subst UpFits p.gives (link_moves (put_bucket s b new) x y _ (bucket_moves s b new i (record { transfers = i.transfers b; asks = sought })) (sent_up s x y (link.Stat b) i p.x_up p.y_up))

-- ---- collection, pins and rounds

pub condemn_ups : (s t : State) (x b : ℕ) → UpFits s → condemn s x b ≡ Ok t → UpFits t
condemn_ups s t x b i e = subst UpFits (can_condemn s t x b e).gives (still_moves s b (with_entry (s.bucket b) x (Some Garbage)) i refl refl)

pub wipe_ups : (s t : State) (x b : ℕ) → UpFits s → wipe s x b ≡ Ok t → UpFits t
wipe_ups s t x b i e = subst UpFits (can_wipe s t x b e).gives (still_moves s b (put_rows (s.bucket b) x (drop 1000 ((s.bucket b).rows x))) i refl refl)

pub forget_ups : (s t : State) (x b : ℕ) → UpFits s → forget s x b ≡ Ok t → UpFits t
forget_ups s t x b i e = subst UpFits (can_forget s t x b e).gives (still_moves s b (with_entry (s.bucket b) x None) i refl refl)

pub pin_ups : (s t : State) (o : ℕ) → UpFits s → pin s o ≡ Ok t → UpFits t
pin_ups s t o i e =
    let p = can_pin s t o e in
    subst UpFits p.gives (by p.p (pinning_fault s p.p p.p.status))
  where
    by : (p : Pinning) (f : Option CommandFault) → UpFits (after_pin s o p f)
    by p (Some f) = operators_move s _ i
    by p None =
        let new : Bucket = with_entry (s.bucket p.bucket) p.at (Some p.status) in
        operators_move (put_bucket s p.bucket new) _ (still_moves s p.bucket new i refl refl)

pub plan_ups : (s t : State) (o : ℕ) → UpFits s → plan s o ≡ Ok t → UpFits t
plan_ups s t o i e = by (least_to (λ x. not (s.up x)) (sets_of s)) (can_plan s t o e).gives
  where
    by : (down : Option ℕ) → plan_round s o down ≡ Ok t → UpFits t
    by (Some x) h = subst UpFits (ok_is _ t h) (operators_move s _ i)
    by None h =
        let g = wants_none_ok (least_to (is_in_move s) s.config.bucket_count) reason.Moving _ t h in
        subst UpFits (ok_is _ t g.1) (operators_move s _ i)

-- ---- stop, fault, restart

-- a set that is up beside one that goes down
up_beside : (f : ℕ → Bool) (x y : ℕ) → y ≢ x → f y ≡ true → put f x false y ≡ true
up_beside f x y ne h = put_there f x false y ne ∙ h

begun_is_at : (g : Stage) → has_begun g ≡ true → is_at_set g ≡ true
begun_is_at g h = grind (arith, h)

is_set_here : (o : Option ℕ) (y x : ℕ) → o ≡ Some y → y ≡ x → is_set o x ≡ true
is_set_here None y x e is = absurd cc
is_set_here (Some z) y x e is = let same : z ≡ y = cc in eq-eqb z x (same ∙ is)

both_hold : (p q : Bool) → p ≡ true → q ≡ true → (p && q) ≡ true
both_hold true q a h = h
both_hold false q a h = absurd cc

gone_down_up : (s : State) (x : ℕ) → UpFits s → UpFits (gone_down s x)
gone_down_up s x i = record {
  calls = λ c y. calls (s.client c) y (is_at_set (s.client c).present.stage && is_set (s.client c).present.set x) refl (i.calls c y);
  transfers = λ b z t h. elim (put_split (s.bucket b).transfer x None z (Some t) h) [ inl e ↦ absurd (cc (e.1)) | inr e ↦ up_beside s.up x z e.0 (i.transfers b z t e.1) ];
  asks = λ b z a h. elim (put_split (s.bucket b).ask x None z (Some a) h) [ inl e ↦ absurd (cc (e.1)) | inr e ↦ up_beside s.up x z e.0 (i.asks b z a e.1) ];
  messages = λ p q. (lines p q (is_link s p q) (p == x) refl (q == x) refl).0;
  replies = λ p q. (lines p q (is_link s p q) (p == x) refl (q == x) refl).1;
}
  where
    calls : (c : Client) (y : ℕ) (here : Bool) → (is_at_set c.present.stage && is_set c.present.set x) ≡ here → (has_begun c.present.stage ≡ true → c.present.set ≡ Some y → IsUp s y)
        → has_begun (if here then with_progress c (lost c.present) else c).present.stage ≡ true → (if here then with_progress c (lost c.present) else c).present.set ≡ Some y → put s.up x false y ≡ true
    calls c y true is f h at = absurd cc
    calls c y false is f h at =
        up_beside s.up x y (λ e. absurd (cc (is, both_hold (is_at_set c.present.stage) (is_set c.present.set x) (begun_is_at c.present.stage h) (is_set_here c.present.set y x at e)))) (f h at)

    lines : (p q : ℕ) (there a : Bool) → (p == x) ≡ a → (d : Bool) → (q == x) ≡ d → Lines (gone_down s x) p q (if there then (if a || d then closed (s.link p q) else s.link p q) else unused)
    lines p q false a ea d ed = (All-nil _, All-nil _)
    lines p q true true ea d ed = (All-nil _, All-nil _)
    lines p q true false ea true ed = (All-nil _, All-nil _)
    lines p q true false ea false ed =
        let both : IsUp s p × IsUp s q → IsUp (gone_down s x) p × IsUp (gone_down s x) q = λ h. (up_beside s.up x p (eqb-false p x ea) h.0, up_beside s.up x q (eqb-false q x ed) h.1) in (
          All-weaker (λ m. IsUp s p × IsUp s q) (λ m. IsUp (gone_down s x) p × IsUp (gone_down s x) q) (λ m. both) (s.link p q).calls (i.messages p q),
          All-weaker (λ m. IsUp s p × IsUp s q) (λ m. IsUp (gone_down s x) p × IsUp (gone_down s x) q) (λ m. both) (s.link p q).replies (i.replies p q),
        )

pub stop_ups : (s t : State) (o : ℕ) → UpFits s → stop s o ≡ Ok t → UpFits t
stop_ups s t o i e =
    let p = can_stop s t o e in
    subst UpFits p.gives (by p.x (s.up p.x))
  where
    by : (x : ℕ) (up : Bool) → UpFits (if up then put_operator (gone_down s x) o (answer (s.operator o) Done) else put_operator s o (answer (s.operator o) WasDown))
    by x true = operators_move (gone_down s x) _ (gone_down_up s x i)
    by x false = operators_move s _ i

pub fault_ups : (s t : State) (x n : ℕ) (e : Recorded) → UpFits s → fault s x n e ≡ Ok t → UpFits t
fault_ups s t x n e i h =
    let p = can_fault s t x n e h in
    let down = gone_down_up s x i in
    subst UpFits p.gives (record { calls = down.calls; transfers = down.transfers; asks = down.asks; messages = down.messages; replies = down.replies })

-- one more set is up
again_up : (s : State) (x : ℕ) → UpFits s → UpFits (up_again s x)
again_up s x i = record {
  calls = λ c y h at. more y (i.calls c y h at);
  transfers = λ b z t h. more z (i.transfers b z t h);
  asks = λ b z a h. more z (i.asks b z a h);
  messages = λ q r. All-weaker (λ m. IsUp s q × IsUp s r) (λ m. (put s.up x true q ≡ true) × (put s.up x true r ≡ true)) (λ m h. (more q h.0, more r h.1)) (s.link q r).calls (i.messages q r);
  replies = λ q r. All-weaker (λ m. IsUp s q × IsUp s r) (λ m. (put s.up x true q ≡ true) × (put s.up x true r ≡ true)) (λ m h. (more q h.0, more r h.1)) (s.link q r).replies (i.replies q r);
}
  where
    more : (y : ℕ) → s.up y ≡ true → put s.up x true y ≡ true
    more y h = put_each (λ q t. s.up q ≡ true → t ≡ true) s.up x true (λ _. refl) (λ q g. g) y h

restarted_up : (s : State) (x : ℕ) (kept : Bool) (pending : Option Change) → UpFits s → UpFits (restarted s x kept pending)
restarted_up s x true (Some change) i =
    let again = up_again s x in
    let b = changes.bucket_of change in
    still_moves again b (with_change (s.bucket b) x change) (again_up s x i) (changed_transfer (s.bucket b) x change) (changed_ask (s.bucket b) x change)
restarted_up s x true None i = again_up s x i
restarted_up s x false (Some change) i = again_up s x i
restarted_up s x false None i = again_up s x i

pub restart_ups : (s t : State) (x : ℕ) (kept : Bool) (by : RestartBy) → UpFits s → restart s x kept by ≡ Ok t → UpFits t
restart_ups s t x kept Service i e = subst UpFits (can_restart s t x kept e).gives (restarted_up s x kept (s.pending x) i)
restart_ups s t x kept (Line o) i e = subst UpFits (can_restart_line s t x o kept e).gives (by (s.up x))
  where
    by : (up : Bool) → UpFits (if up then put_operator s o (answer (s.operator o) WasUp) else put_operator (restarted s x kept (s.pending x)) o (answer (s.operator o) Done))
    by true = operators_move s _ i
    by false = operators_move (restarted s x kept (s.pending x)) _ (restarted_up s x kept (s.pending x) i)

-- ---- every event

pub step_ups : (own : ℕ → ℕ) (s t : State) (e : Event) → Inner own s → UpFits s → step s e ≡ Ok t → UpFits t
step_ups own s t (Post c x) inner i e = post_ups s t c x i e
step_ups own s t (Begin c) inner i e = begin_ups s t c i e
step_ups own s t (Act c) inner i e = act_ups s t c i e
step_ups own s t (End c) inner i e = end_ups s t c i e
step_ups own s t (Take c) inner i e = take_ups s t c i e
step_ups own s t (Cut o) inner i e = cut_ups s t o i e
step_ups own s t (Start o) inner i e = start_ups s t o i e
step_ups own s t (Haul o x d) inner i e = haul_ups s t o x d i e
step_ups own s t (NotYet x b) inner i e = not_yet_ups s t x b i e
step_ups own s t (Freeze x b) inner i e = freeze_ups s t x b i e
step_ups own s t (Chunk x b) inner i e = chunk_ups s t x b i e
step_ups own s t (Seal x b) inner i e = seal_ups s t x b i e
step_ups own s t (Last x b) inner i e = last_ups s t x b i e
step_ups own s t (Abort x b) inner i e = abort_ups s t x b i e
step_ups own s t (EndMove x b) inner i e = end_move_ups s t x b i e
step_ups own s t (Deliver x y) inner i e = deliver_ups s t x y i e
step_ups own s t (Hear x y) inner i e = hear_ups s t x y i e
step_ups own s t (Close o) inner i e = close_ups s t o i e
step_ups own s t (Ask x b) inner i e = ask_ups s t x b i e
step_ups own s t (Condemn x b) inner i e = condemn_ups s t x b i e
step_ups own s t (Wipe x b) inner i e = wipe_ups s t x b i e
step_ups own s t (Forget x b) inner i e = forget_ups s t x b i e
step_ups own s t (Pin o) inner i e = pin_ups s t o i e
step_ups own s t (Plan o) inner i e = plan_ups s t o i e
step_ups own s t (Stop o) inner i e = stop_ups s t o i e
step_ups own s t (Fault x n r) inner i e = fault_ups s t x n r i e
step_ups own s t (Restart x kept by) inner i e = restart_ups s t x kept by i e
