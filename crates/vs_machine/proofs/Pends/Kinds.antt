-- A pending change may still take effect: kept by each kind of event at sets that are up.
use Rattle.std.proofs.Common.{◌≡◌, ℕ, inl, inr, true, false, refl, sym, ap, subst, ◌∙◌, arith, List, ◌∷◌, drop, Option, Some, None, Result, Ok, Err}
use Rattle.std.specs.Prelude.{◌≢◌, ◌==◌, not, All}
use Rattle.std.proofs.lemmas.List.Elements.{All-head}
use Rattle.vs_base.specs.declared.numbers.CallId.{CallId}
use Rattle.vs_base.specs.declared.numbers.Mode.{Mode}
use Rattle.vs_base.specs.declared.numbers.Mode.TheVariants.{Ro, Rw}
use Rattle.vs_rows.specs.RowMap.{RowMap}
use Rattle.vs_rows.specs.declared.op.Op.{Op}
use Rattle.vs_event.specs.declared.reason.Reason.TheVariants as reason
use Rattle.vs_space.specs.declared.reply.Reply.{Reply}
use Rattle.vs_space.specs.declared.reply.Reply.TheVariants as reply
use Rattle.vs_space.specs.declared.reply.RecvFault.{RecvFault}
use Rattle.vs_space.specs.declared.status.Status.{Status}
use Rattle.vs_space.specs.declared.status.Status.TheVariants.{Active, Sending, Receiving, Garbage}
use Rattle.vs_calls.specs.declared.stage.Stage.{Stage}
use Rattle.vs_calls.specs.Progress.{is_running, is_held}
use Rattle.vs_link.specs.Connection.{Message, Chunk, Last, Stat, rest}
use Rattle.vs_link.specs.Connection as link
use Rattle.vs_link.specs.declared.message.Heard.{Heard}
use Rattle.vs_recv.specs.declared.took.Took.{Took}
use Rattle.vs_recover.specs.declared.decision.Decision.{Decision}
use Rattle.vs_recover.specs.declared.decision.Decision.TheVariants.{Stay, ToActive, ToGarbage}
use Rattle.vs_send.specs.declared.transfer.Phase.{Phase}
use Rattle.vs_send.specs.declared.transfer.Phase.TheVariants.{Draining, Ready, Waiting, Copied, Sealed, WaitingLast, Refused, Done}
use Rattle.vs_send.specs.declared.transfer.Transfer.{Transfer}
use Rattle.vs_machine.specs.declared.outcome.CommandFault.{CommandFault}
use Rattle.vs_machine.specs.Tables.{put, least_to}
use Rattle.vs_machine.specs.State.{State, Bucket, sets_of, call_id, is_locked, next_command, put_rows, with_entry, with_transfer}
use Rattle.vs_machine.specs.Coherence.{IsServing, dest_or}
use Rattle.vs_machine.specs.Kinds.Calls.{act, bucket_after}
use Rattle.vs_machine.specs.Kinds.Collection.{condemn, wipe, forget}
use Rattle.vs_machine.specs.Kinds.Connections.{received_at, receiving_at, with_page, with_last, after_message, after_deliver, deliver, decided, after_hear, hear, asked_set}
use Rattle.vs_machine.specs.Kinds.Faults.{send_fault}
use Rattle.vs_machine.specs.Kinds.Pinning.{Pinning, pinning_of, pinning_fault, pin, after_pin}
use Rattle.vs_machine.specs.Kinds.Rebalancing.{haul, after_haul, bucket_to_haul, plan, plan_round, is_in_move}
use Rattle.vs_machine.specs.Kinds.Recovery.{ask}
use Rattle.vs_machine.specs.Kinds.Sender.{Move, start, after_start, not_yet, freeze, chunk, seal, last, last_key, abort, end_move}
use Rattle.vs_machine.specs.Whole.{Inner}
use Rattle.vs_machine.specs.Inner.Asks.{AskFits, DecisionFits, AsksFit}
use Rattle.vs_machine.specs.Inner.Calls.{HoldFits}
use Rattle.vs_machine.specs.Inner.Down.{has_begun, IsUp, UpFits, IsWaiting, IsStuck, PendingFits}
use Rattle.vs_machine.specs.Inner.Lines.{ReplyFits, HeardFits}
use Rattle.vs_machine.specs.Inner.Phases.{PhaseFits}
use Rattle.vs_machine.proofs.Asked.Connecting.{same_owners}
use Rattle.vs_machine.proofs.Calm.{unasked, phase_calm, same_calm, freeze_calm, seal_calm, last_calm, page_calm, pinned_calm, left_calm, decided_calm}
use Rattle.vs_machine.proofs.Can.Calls.{can_act}
use Rattle.vs_machine.proofs.Can.Others.{can_deliver, can_hear, can_ask, can_condemn, can_wipe, can_forget, can_pin, can_haul, can_plan}
use Rattle.vs_machine.proofs.Can.Sender.{can_start, can_wait, can_freeze, can_chunk, can_seal, can_last, can_abort, can_end_move}
use Rattle.vs_machine.proofs.Frame.{put_there, put_same}
use Rattle.vs_machine.proofs.Owners.{sending_owns, phase_of}
use Rattle.vs_machine.proofs.Possible.{ok_is, wants_none_ok}
use Rattle.vs_machine.proofs.Kept.Acting.{held_at}
use Rattle.vs_machine.proofs.Kept.Collecting.{IsLeft, IsSpent}
use Rattle.vs_machine.proofs.Kept.Delivering.{head_is, head_fits}
use Rattle.vs_machine.proofs.Kept.Pinning.{may_pin}
use Rattle.vs_machine.proofs.Kept.Recovering.{hears, head_says, decides}
use Rattle.vs_machine.proofs.Kept.Sending.{may_send, may_haul}
use Rattle.vs_machine.proofs.Kept.Taking.{IsOpenTo, data_taken, last_taken}
use Rattle.vs_machine.proofs.Pends.Fitting.{IsDown, IsPendingIn, LeavesAll, all_left, others_left, entry_left, rows_left, apart_up, leaves_calm}

-- ---- an entry that isn't receiving from a set that is down

serving_not : (e : Option Status) (w : ℕ) → IsServing e → e ≢ Some (Receiving w)
serving_not e w at is = subst IsServing is at

left_not : (e : Option Status) (w : ℕ) → IsLeft e → e ≢ Some (Receiving w)
left_not e w at is = subst IsLeft is at

module _ (own : ℕ → ℕ) (s : State) (i : Inner own s) (u : UpFits s) (p : PendingFits own s) where
  -- ---- calls

  written_pends : (b x : ℕ) (id : CallId) (ops : List Op) (m : Mode) (posted : ℕ) → IsUp s x → HoldFits (s.bucket b) x m posted → IsPendingIn (sets_of s) own s.up s.pending (put s.bucket b (bucket_after (s.bucket b) x id m ops))
  written_pends b x id ops Ro posted up h =
      let old = s.bucket b in
      leaves_calm own own s b (bucket_after old x id Ro ops) x u p (same_owners own b) up (same_calm (IsDown s) (IsDown s) (IsDown s) (own b) old.entry old.transfer x) (λ w down. all_left old.entry old.rows w)
  written_pends b x id ops Rw posted up h =
      let old = s.bucket b in
      leaves_calm own own s b (bucket_after old x id Rw ops) x u p (same_owners own b) up (same_calm (IsDown s) (IsDown s) (IsDown s) (own b) old.entry old.transfer x)
      (λ w down. rows_left old.entry old.rows x _ w (λ e. apart_up s x w up down (sym e)) (serving_not _ w h))

  -- ---- a transfer begins, moves to another phase or goes

  begun_pends : (b x : ℕ) (v : Option Transfer) → IsUp s x → (s.bucket b).entry x ≡ Some Active → IsPendingIn (sets_of s) own s.up s.pending (put s.bucket b (with_transfer (s.bucket b) x v))
  begun_pends b x v up active =
      let old = s.bucket b in
      leaves_calm own own s b (with_transfer old x v) x u p (same_owners own b) up
      (phase_calm (IsDown s) (IsDown s) (IsDown s) (own b) old.entry old.transfer x v (λ h. subst (λ w. AskFits w (old.transfer x)) active h) (λ w k to st. absurd (cc (to, active)))) (λ w down. all_left old.entry old.rows w)

  -- a transfer that stands changes, and waits if it did
  moves_pends : (b x : ℕ) (w : Transfer) (v : Option Transfer) → (s.bucket b).transfer x ≡ Some w → ((d : ℕ) → IsDown s d → (s.bucket b).entry x ≡ Some (Sending d) → IsWaiting w.phase → IsStuck v)
      → IsPendingIn (sets_of s) own s.up s.pending (put s.bucket b (with_transfer (s.bucket b) x v))
  moves_pends b x w v at waits =
      let old = s.bucket b in
      leaves_calm own own s b (with_transfer old x v) x u p (same_owners own b) (u.transfers b x w at)
      (phase_calm (IsDown s) (IsDown s) (IsDown s) (own b) old.entry old.transfer x v (unasked (sets_of s) (own b) old x w (i.buckets b) at) (λ d k to st. waits d k to (subst IsStuck at st))) (λ z down. all_left old.entry old.rows z)

  entry_pends : (b x : ℕ) (e : Option Status) → IsUp s x → IsServing ((s.bucket b).entry x) → IsServing e → IsPendingIn (sets_of s) own s.up s.pending (put s.bucket b (with_entry (s.bucket b) x e))
  entry_pends b x e up at serves =
      let old = s.bucket b in
      leaves_calm own own s b (with_entry old x e) x u p (same_owners own b) up (pinned_calm (IsDown s) (IsDown s) (IsDown s) (own b) old x e at serves) (λ w down. entry_left old.entry old.rows x e w (serving_not _ w at))

  left_pends : (b x : ℕ) (e : Option Status) → IsUp s x → IsLeft ((s.bucket b).entry x) → IsSpent e → IsPendingIn (sets_of s) own s.up s.pending (put s.bucket b (with_entry (s.bucket b) x e))
  left_pends b x e up left spent =
      let old = s.bucket b in
      leaves_calm own own s b (with_entry old x e) x u p (same_owners own b) up (left_calm (IsDown s) (IsDown s) (IsDown s) (own b) old x e left spent) (λ w down. entry_left old.entry old.rows x e w (left_not _ w left))

  wiped_pends : (b x k : ℕ) → IsUp s x → IsLeft ((s.bucket b).entry x) → IsPendingIn (sets_of s) own s.up s.pending (put s.bucket b (put_rows (s.bucket b) x (drop k ((s.bucket b).rows x))))
  wiped_pends b x k up left =
      let old = s.bucket b in
      leaves_calm own own s b (put_rows old x (drop k (old.rows x))) x u p (same_owners own b) up (same_calm (IsDown s) (IsDown s) (IsDown s) (own b) old.entry old.transfer x)
      (λ w down. rows_left old.entry old.rows x _ w (λ e. apart_up s x w up down (sym e)) (left_not _ w left))

  -- ---- what x decides by an answer of y

  decided_pends : (b x y : ℕ) (d : Decision) → IsUp s x → IsUp s y → asked_set ((s.bucket b).entry x) ≡ Some y → (let old = s.bucket b in DecisionFits (own b) old.entry old.transfer x y d) → IsPendingIn (sets_of s) own s.up s.pending (put s.bucket b (decided (s.bucket b) x d))
  decided_pends b x y d up other named fits =
      let old = s.bucket b in
      leaves_calm own own s b (decided old x d) x u p (same_owners own b) up (decided_calm (IsDown s) (IsDown s) (IsDown s) (own b) old x y d fits (λ z down g e. apart_up s y z other down e)) (left d)
    where
      from_up : (w : ℕ) → IsDown s w → (s.bucket b).entry x ≢ Some (Receiving w)
      from_up w down from = apart_up s y w other down (cc (ap asked_set from, named))

      left : (d : Decision) → LeavesAll s (s.bucket b) (decided (s.bucket b) x d)
      left Stay w down = all_left (s.bucket b).entry (s.bucket b).rows w
      left ToActive w down = entry_left (s.bucket b).entry (s.bucket b).rows x (Some Active) w (from_up w down)
      left ToGarbage w down = entry_left (s.bucket b).entry (s.bucket b).rows x (Some Garbage) w (from_up w down)

pub act_pends : (own : ℕ → ℕ) (s t : State) (c : ℕ) → Inner own s → UpFits s → PendingFits own s → act s c ≡ Ok t → PendingFits own t
act_pends own s t c i u p e =
    let can = can_act s t c e in
    let k = can.k in
    let st = (s.client c).present.stage in
    let up = u.calls c can.x (at_set st can.running) can.set in
    subst (PendingFits own) can.gives (written_pends own s i u p k.bucket can.x (call_id c (s.client c)) k.ops k.mode (s.client c).present.writes up (i.clients c k can.x can.called (held_at (s.client c).present can.x (held st can.running) can.set)))
  where
    held : (g : Stage) → is_running g ≡ true → is_held g ≡ true
    held g h = grind arith

    at_set : (g : Stage) → is_running g ≡ true → has_begun g ≡ true
    at_set g h = grind arith

pub start_pends : (own : ℕ → ℕ) (s t : State) (o : ℕ) → Inner own s → UpFits s → PendingFits own s → start s o ≡ Ok t → PendingFits own t
start_pends own s t o i u p e =
    let can = can_start s t o e in
    subst (PendingFits own) can.gives (by can.m (send_fault s can.m.bucket can.m.from can.m.to) refl)
  where
    by : (m : Move) (f : Option CommandFault) → send_fault s m.bucket m.from m.to ≡ f → PendingFits own (after_start s o m f)
    by m (Some f) is = p
    by m None is = let may = may_send s m.bucket m.from m.to is in begun_pends own s i u p m.bucket m.from _ may.x_up may.active

pub haul_pends : (own : ℕ → ℕ) (s t : State) (o x d : ℕ) → Inner own s → UpFits s → PendingFits own s → haul s o x d ≡ Ok t → PendingFits own t
haul_pends own s t o x d i u p e =
    let can = can_haul s t o x d e in
    subst (PendingFits own) can.gives (by (bucket_to_haul s x d) refl)
  where
    by : (v : Option ℕ) → bucket_to_haul s x d ≡ v → PendingFits own (after_haul s o x d v)
    by None is = p
    by (Some b) is = let may = may_haul s x d b is in begun_pends own s i u p b x _ may.x_up may.active

pub not_yet_pends : (own : ℕ → ℕ) (s t : State) (x b : ℕ) → Inner own s → UpFits s → PendingFits own s → not_yet s x b ≡ Ok t → PendingFits own t
not_yet_pends own s t x b i u p e = let can = can_wait s t x b e in subst (PendingFits own) can.gives (moves_pends own s i u p b x can.u _ can.there (λ d k to w. absurd (subst IsWaiting can.draining w)))

pub chunk_pends : (own : ℕ → ℕ) (s t : State) (x b : ℕ) → Inner own s → UpFits s → PendingFits own s → chunk s x b ≡ Ok t → PendingFits own t
chunk_pends own s t x b i u p e = let can = can_chunk s t x b e in subst (PendingFits own) can.gives (moves_pends own s i u p b x can.u _ can.there (λ d k to w. absurd (subst IsWaiting can.ready w)))

pub last_pends : (own : ℕ → ℕ) (s t : State) (x b : ℕ) → Inner own s → UpFits s → PendingFits own s → last s x b ≡ Ok t → PendingFits own t
last_pends own s t x b i u p e = let can = can_last s t x b e in subst (PendingFits own) can.gives (moves_pends own s i u p b x can.u _ can.there (λ d k to w. absurd (subst IsWaiting can.sealed w)))

pub abort_pends : (own : ℕ → ℕ) (s t : State) (x b : ℕ) → Inner own s → UpFits s → PendingFits own s → abort s x b ≡ Ok t → PendingFits own t
abort_pends own s t x b i u p e = let can = can_abort s t x b e in subst (PendingFits own) can.gives (moves_pends own s i u p b x can.u None can.there (λ d k to w. tt))

pub end_move_pends : (own : ℕ → ℕ) (s t : State) (x b : ℕ) → Inner own s → UpFits s → PendingFits own s → end_move s x b ≡ Ok t → PendingFits own t
end_move_pends own s t x b i u p e = let can = can_end_move s t x b e in subst (PendingFits own) can.gives (moves_pends own s i u p b x can.u None can.there (λ d k to w. tt))

pub freeze_pends : (own : ℕ → ℕ) (s t : State) (x b : ℕ) → Inner own s → UpFits s → PendingFits own s → freeze s x b ≡ Ok t → PendingFits own t
freeze_pends own s t x b i u p e =
    let can = can_freeze s t x b e in
    let old = s.bucket b in
    let active : old.entry x ≡ Some Active = subst (PhaseFits can.u.dest (old.entry x)) can.draining ((i.buckets b).transfers x can.u can.there).phase in
    subst (PendingFits own) can.gives (leaves_calm own own s b _ x u p (same_owners own b) (u.transfers b x can.u can.there) (freeze_calm (IsDown s) (IsDown s) (IsDown s) (own b) old x can.u.dest _ active)
    (λ w down. entry_left old.entry old.rows x _ w (λ h. absurd (cc (h, active)))))

pub seal_pends : (own : ℕ → ℕ) (s t : State) (x b : ℕ) → Inner own s → UpFits s → PendingFits own s → seal s x b ≡ Ok t → PendingFits (put own b (dest_or (own b) ((s.bucket b).transfer x))) t
seal_pends own s t x b i u p e =
    let can = can_seal s t x b e in
    let old = s.bucket b in
    let sends : old.entry x ≡ Some (Sending can.u.dest) = subst (PhaseFits can.u.dest (old.entry x)) can.copied ((i.buckets b).transfers x can.u can.there).phase in
    let owns : x ≡ own b = sending_owns (own b) old.entry x can.u.dest (i.buckets b).placed sends in
    let next : ℕ → ℕ = put own b (dest_or (own b) (old.transfer x)) in
    subst (PendingFits next) can.gives (leaves_calm own next s b _ x u p (λ q ne. put_there own b _ q ne) (u.transfers b x can.u can.there)
    (seal_calm (IsDown s) (IsDown s) (IsDown s) (own b) old x (next b) can.u.dest can.u _ owns can.there (λ k. subst IsWaiting can.copied k)) (λ w down. entry_left old.entry old.rows x _ w (λ h. absurd (cc (h, sends)))))

pub ask_pends : (own : ℕ → ℕ) (s t : State) (x b : ℕ) → UpFits s → PendingFits own s → ask s x b ≡ Ok t → PendingFits own t
ask_pends own s t x b u p e =
    let can = can_ask s t x b e in
    let old = s.bucket b in
    subst (PendingFits own) can.gives (leaves_calm own own s b _ x u p (same_owners own b) can.x_up (same_calm (IsDown s) (IsDown s) (IsDown s) (own b) old.entry old.transfer x) (λ w down. all_left old.entry old.rows w))

pub condemn_pends : (own : ℕ → ℕ) (s t : State) (x b : ℕ) → Inner own s → UpFits s → PendingFits own s → condemn s x b ≡ Ok t → PendingFits own t
condemn_pends own s t x b i u p e = let can = can_condemn s t x b e in subst (PendingFits own) can.gives (left_pends own s i u p b x (Some Garbage) can.x_up (subst IsLeft (sym can.sent) tt) tt)

pub wipe_pends : (own : ℕ → ℕ) (s t : State) (x b : ℕ) → Inner own s → UpFits s → PendingFits own s → wipe s x b ≡ Ok t → PendingFits own t
wipe_pends own s t x b i u p e = let can = can_wipe s t x b e in subst (PendingFits own) can.gives (wiped_pends own s i u p b x 1000 can.x_up (subst IsLeft (sym can.garbage) tt))

pub forget_pends : (own : ℕ → ℕ) (s t : State) (x b : ℕ) → Inner own s → UpFits s → PendingFits own s → forget s x b ≡ Ok t → PendingFits own t
forget_pends own s t x b i u p e = let can = can_forget s t x b e in subst (PendingFits own) can.gives (left_pends own s i u p b x None can.x_up (subst IsLeft (sym can.garbage) tt) tt)

pub pin_pends : (own : ℕ → ℕ) (s t : State) (o : ℕ) → Inner own s → UpFits s → PendingFits own s → pin s o ≡ Ok t → PendingFits own t
pin_pends own s t o i u p e =
    let can = can_pin s t o e in
    subst (PendingFits own) can.gives (by can.p can.named (pinning_fault s can.p can.p.status) refl)
  where
    by : (q : Pinning) → pinning_of (next_command (s.operator o)) ≡ Some q → (f : Option CommandFault) → pinning_fault s q q.status ≡ f → PendingFits own (after_pin s o q f)
    by q named (Some f) is = p
    by q named None is = let may = may_pin s (next_command (s.operator o)) q named is in entry_pends own s i u p q.bucket q.at (Some q.status) may.x_up may.serving may.serves

pub plan_pends : (own : ℕ → ℕ) (s t : State) (o : ℕ) → PendingFits own s → plan s o ≡ Ok t → PendingFits own t
plan_pends own s t o p e = by (least_to (λ x. not (s.up x)) (sets_of s)) (can_plan s t o e).gives
  where
    by : (down : Option ℕ) → plan_round s o down ≡ Ok t → PendingFits own t
    by (Some x) h = subst (PendingFits own) (ok_is _ t h) p
    by None h =
        let g = wants_none_ok (least_to (is_in_move s) s.config.bucket_count) reason.Moving _ t h in
        subst (PendingFits own) (ok_is _ t g.1) p

-- ---- deliver

pub deliver_pends : (own : ℕ → ℕ) (s t : State) (x y : ℕ) → Inner own s → UpFits s → PendingFits own s → deliver s x y ≡ Ok t → PendingFits own t
deliver_pends own s t x y i u p e =
    let can = can_deliver s t x y e in
    subst (PendingFits own) can.gives (by_message can.sent.sync can.sent.message (head_is (x == y) (s.link x y).calls can.sent can.head))
  where
    ups : (m : link.Sent) → (s.link x y).calls ≡ m ∷ rest (s.link x y).calls → IsUp s x × IsUp s y
    ups m is = let P : link.Sent → Type 0 = λ v. IsUp s x × IsUp s y in All-head P m (rest (s.link x y).calls) (subst (All P) is (u.messages x y))

    by_rows : (k b : ℕ) (page : RowMap) (r : Result Took RecvFault) → (s.link x y).calls ≡ (record { sync = k; message = Chunk b page }) ∷ rest (s.link x y).calls → received_at s x y b false ≡ r
        → PendingFits own (after_message s x y (record { sync = k; message = Chunk b page }) r)
    by_rows k b page (Err fault) is g = subst (λ (bs : ℕ → Bucket). IsPendingIn (sets_of s) own s.up s.pending bs) (sym (put_same s.bucket b)) p
    by_rows k b page (Ok took) is g =
        let old = s.bucket b in
        let m : link.Sent = record { sync = k; message = Chunk b page } in
        let both = ups m is in
        let head = (head_fits s.bucket x y (s.link x y) m is (i.links x y)).0 in
        let sends = phase_of (sets_of s) (own b) old x y (Waiting (s.link x y).epoch k (last_key page)) (i.buckets b) head.0 in
        let free = data_taken (old.entry y) (is_locked s y) (receiving_at s y) s.config.max_receiving x took g in
        leaves_calm own own s b (with_page old x y page) y u p (same_owners own b) both.1 (page_calm (IsDown s) (IsDown s) (IsDown s) (sets_of s) (own b) old x y (i.buckets b) sends free (λ k none. absurd (cc (none, head.0.there))))
        (λ w down. others_left old.entry old.rows y (Some (Receiving x)) _ w (λ h. apart_up s y w both.1 down (sym h)) (not_from b w both.0 down free))
      where
        not_from : (b w : ℕ) → IsUp s x → IsDown s w → IsOpenTo x ((s.bucket b).entry y) → (s.bucket b).entry y ≢ Some (Receiving w)
        not_from b w up down (inl none) from = absurd (cc (none, from))
        not_from b w up down (inr here) from = apart_up s x w up down (cc (here, from))

    by_last : (k b : ℕ) (r : Result Took RecvFault) → (s.link x y).calls ≡ (record { sync = k; message = Last b }) ∷ rest (s.link x y).calls → received_at s x y b true ≡ r
        → PendingFits own (after_message s x y (record { sync = k; message = Last b }) r)
    by_last k b (Err fault) is g = subst (λ (bs : ℕ → Bucket). IsPendingIn (sets_of s) own s.up s.pending bs) (sym (put_same s.bucket b)) p
    by_last k b (Ok took) is g =
        let old = s.bucket b in
        let both = ups (record { sync = k; message = Last b }) is in
        let from = last_taken (old.entry y) (is_locked s y) (receiving_at s y) s.config.max_receiving x took g in
        leaves_calm own own s b (with_last old y) y u p (same_owners own b) both.1 (last_calm (IsDown s) (IsDown s) (IsDown s) (own b) old y x from)
        (λ w down. entry_left old.entry old.rows y (Some Active) w (λ h. apart_up s x w both.0 down (cc (from, h))))

    by_message : (k : ℕ) (m : Message) → (s.link x y).calls ≡ (record { sync = k; message = m }) ∷ rest (s.link x y).calls → PendingFits own (after_deliver s x y (record { sync = k; message = m }) m)
    by_message k (Chunk b page) is = by_rows k b page (received_at s x y b false) is refl
    by_message k (Last b) is = by_last k b (received_at s x y b true) is refl
    by_message k (Stat b) is = p

-- ---- hear

pub hear_pends : (own : ℕ → ℕ) (s t : State) (x y : ℕ) → Inner own s → UpFits s → PendingFits own s → AsksFit own s.bucket s.link → hear s x y ≡ Ok t → PendingFits own t
hear_pends own s t x y i u p a e =
    let can = can_hear s t x y e in
    subst (PendingFits own) can.gives (by_reply can.heard.sync can.heard.bucket can.heard.reply (head_is (x == y) (s.link x y).replies can.heard can.head))
  where
    ups : (r : Heard) → (s.link x y).replies ≡ r ∷ rest (s.link x y).replies → IsUp s x × IsUp s y
    ups r is = let P : Heard → Type 0 = λ v. IsUp s x × IsUp s y in All-head P r (rest (s.link x y).replies) (subst (All P) is (u.replies x y))

    fits : (k q : ℕ) (r : Reply) → (s.link x y).replies ≡ (record { sync = k; bucket = q; reply = r }) ∷ rest (s.link x y).replies → ReplyFits (s.link x y).epoch (s.bucket q) x y k r
    fits k q r is = All-head (HeardFits (s.link x y).epoch s.bucket x y) (record { sync = k; bucket = q; reply = r }) (rest (s.link x y).replies) (subst (All (HeardFits (s.link x y).epoch s.bucket x y)) is (i.links x y).replies)

    -- a transfer that a reply moves leads to y, which is up
    turned : (q : ℕ) (w : Transfer) (v : Option Transfer) → IsUp s y → (s.bucket q).transfer x ≡ Some w → w.dest ≡ y → IsPendingIn (sets_of s) own s.up s.pending (put s.bucket q (with_transfer (s.bucket q) x v))
    turned q w v up at to = moves_pends own s i u p q x w v at (λ d down sends waits. absurd (apart_up s y d up down (sym to ∙ dest w.phase d sends waits ((i.buckets q).transfers x w at).phase)))
      where
        dest : (g : Phase) (d : ℕ) → (s.bucket q).entry x ≡ Some (Sending d) → IsWaiting g → PhaseFits w.dest ((s.bucket q).entry x) g → w.dest ≡ d
        dest (Waiting f k l) d sends waits h = cc (sends, h)
        dest (Draining k) d sends waits h = absurd waits
        dest (Ready k) d sends waits h = absurd waits
        dest Copied d sends waits h = absurd waits
        dest Sealed d sends waits h = absurd waits
        dest (WaitingLast f k) d sends waits h = absurd waits
        dest (Refused r) d sends waits h = absurd waits
        dest Done d sends waits h = absurd waits

    by_reply : (k q : ℕ) (r : Reply) → (s.link x y).replies ≡ (record { sync = k; bucket = q; reply = r }) ∷ rest (s.link x y).replies → PendingFits own (after_hear s x y (record { sync = k; bucket = q; reply = r }))
    by_reply k q reply.Took is = elim (fits k q reply.Took is) [
      | inl h ↦ turned q h.it _ (ups _ is).1 h.there h.to
      | inr h ↦ turned q h.waits.it _ (ups _ is).1 h.waits.there h.waits.to
    ]
    by_reply k q (reply.Not f) is = elim (fits k q (reply.Not f) is) [
      | inl h ↦ turned q h.it _ (ups _ is).1 h.there h.to
      | inr h ↦ turned q h.waits.it _ (ups _ is).1 h.waits.there h.waits.to
    ]
    by_reply k q (reply.State st live) is =
        let old = s.bucket q in
        let both = ups (record { sync = k; bucket = q; reply = reply.State st live }) is in
        let says = head_says own s x y (record { sync = k; bucket = q; reply = reply.State st live }) a is in
        elim (hears (s.link x y).epoch old x y k st live) [
          | inl g ↦ subst (λ (w : Bucket). IsPendingIn (sets_of s) own s.up s.pending (put s.bucket q w)) (sym g)
              (subst (λ (bs : ℕ → Bucket). IsPendingIn (sets_of s) own s.up s.pending bs) (sym (put_same s.bucket q)) p)
          | inr h ↦ subst (λ (w : Bucket). IsPendingIn (sets_of s) own s.up s.pending (put s.bucket q w)) (sym h.gives)
              (decided_pends own s i u p q x y _ both.0 both.1 h.named (decides (own q) old x y (old.entry x) st live refl (a.asks q x _ h.asks) h.named (says h.asks h.named)))
        ]
