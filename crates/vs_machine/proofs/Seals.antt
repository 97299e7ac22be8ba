-- A bucket that was handed over stays as it was at its seal: kept by every kind of event.
use Rattle.std.proofs.Common.{◌≡◌, ℕ, inl, inr, Bool, true, false, refl, sym, ap, subst, ◌∙◌, arith, List, ◌∷◌, Option, Some, None, Result, Ok, Err}
use Rattle.std.specs.Prelude.{◌≢◌, ◌==◌, not, if◌then◌else◌}
use Rattle.vs_base.specs.declared.numbers.CallId.{CallId}
use Rattle.vs_base.specs.declared.numbers.Mode.{Mode}
use Rattle.vs_base.specs.declared.numbers.Mode.TheVariants.{Ro, Rw}
use Rattle.vs_rows.specs.RowMap.{RowMap}
use Rattle.vs_rows.specs.declared.op.Op.{Op}
use Rattle.vs_calls.specs.declared.stage.Stage.{Stage}
use Rattle.vs_calls.specs.Progress.{is_running, is_held, cut}
use Rattle.vs_event.specs.declared.event.Event.{Event}
use Rattle.vs_event.specs.declared.event.Event.TheVariants.{Post, Begin, Act, End, Take, Cut, Start, Haul, NotYet, Freeze, Chunk, Seal, Last, Abort, EndMove, Deliver, Hear, Close, Ask, Condemn, Wipe, Forget, Pin, Plan, Stop, Fault, Restart}
use Rattle.vs_event.specs.declared.event.RestartBy.{RestartBy}
use Rattle.vs_event.specs.declared.event.RestartBy.TheVariants.{Line, Service}
use Rattle.vs_event.specs.declared.reason.Reason.TheVariants as reason
use Rattle.vs_space.specs.declared.reply.Reply.{Reply}
use Rattle.vs_space.specs.declared.reply.Reply.TheVariants as reply
use Rattle.vs_space.specs.declared.reply.RecvFault.{RecvFault}
use Rattle.vs_space.specs.declared.status.Status.{Status}
use Rattle.vs_space.specs.declared.status.Status.TheVariants.{Active, Pinned, Sending, Receiving, Sent, Garbage}
use Rattle.vs_history.specs.History.{write_count}
use Rattle.vs_link.specs.Connection.{Message, Chunk, Last, Stat, rest}
use Rattle.vs_link.specs.Connection as link
use Rattle.vs_link.specs.declared.message.Heard.{Heard}
use Rattle.vs_record.specs.Change as changes
use Rattle.vs_record.specs.Change.{Change, bucket_of}
use Rattle.vs_recover.specs.declared.decision.Decision.{Decision}
use Rattle.vs_recover.specs.declared.decision.Decision.TheVariants.{Stay, ToActive, ToGarbage}
use Rattle.vs_recv.specs.declared.took.Took.{Took}
use Rattle.vs_send.specs.declared.transfer.Phase.TheVariants.{Waiting}
use Rattle.vs_machine.specs.declared.outcome.CommandFault.{CommandFault}
use Rattle.vs_machine.specs.declared.outcome.CommandOutcome.TheVariants.{Done, Late, WasDown, WasUp}
use Rattle.vs_machine.specs.Tables.{put, least_to}
use Rattle.vs_machine.specs.State.{State, Bucket, sets_of, answer, call_id, next_command, put_client, put_operator, with_entry, with_progress}
use Rattle.vs_machine.specs.Step.{step}
use Rattle.vs_machine.specs.Coherence.{handed_by, IsServing, names, dest_or, owners}
use Rattle.vs_machine.specs.Kinds.Calls.{act, bucket_after, is_answered, cut_call}
use Rattle.vs_machine.specs.Kinds.Connections.{received_at, with_page, bucket_taking, after_message, after_deliver, deliver, decision_by, decided, bucket_hearing, hear, counts_at}
use Rattle.vs_machine.specs.Kinds.Faults.{send_fault}
use Rattle.vs_machine.specs.Kinds.Pinning.{Pinning, pinning_of, pinning_fault, pin, after_pin}
use Rattle.vs_machine.specs.Kinds.Rebalancing.{haul, after_haul, bucket_to_haul, plan, plan_round, is_in_move}
use Rattle.vs_machine.specs.Kinds.Sender.{Move, start, after_start, seal, after_seal, freeze, last_key}
use Rattle.vs_machine.specs.Kinds.Stops.{gone_down, stop, restart, restarted, with_status, with_change}
use Rattle.vs_machine.specs.Whole.{Inner}
use Rattle.vs_machine.specs.Inner.Buckets.{BucketFits}
use Rattle.vs_machine.specs.Inner.Calls.{HoldFits}
use Rattle.vs_machine.specs.Inner.Copying.{CopyFits}
use Rattle.vs_machine.specs.Inner.Down.{StatusFits, FitsIn, PendingFits}
use Rattle.vs_machine.specs.Inner.Lines.{MessageFits}
use Rattle.vs_machine.specs.Inner.Sealed.{SealFits, SealsFit}
use Rattle.vs_machine.proofs.Can.Calls.{can_post, can_begin, can_act, can_end, can_take, can_cut}
use Rattle.vs_machine.proofs.Can.Others.{can_deliver, can_hear, can_close, can_ask, can_condemn, can_wipe, can_forget, can_pin, can_haul, can_plan}
use Rattle.vs_machine.proofs.Can.Sender.{can_start, can_wait, can_freeze, can_chunk, can_seal, can_last, can_abort, can_end_move}
use Rattle.vs_machine.proofs.Can.Stops.{can_stop, can_fault, can_restart, can_restart_line}
use Rattle.vs_machine.proofs.Frame.{put_each, put_both, put_here, put_there, put_split}
use Rattle.vs_machine.proofs.Owners.{serving_owns, sending_owns, phase_of}
use Rattle.vs_machine.proofs.Possible.{ok_is, wants_none_ok}
use Rattle.vs_machine.proofs.Restarts.{owners_same}
use Rattle.vs_machine.proofs.Kept.Acting.{held_at}
use Rattle.vs_machine.proofs.Kept.Delivering.{head_is, head_fits}
use Rattle.vs_machine.proofs.Kept.Pinning.{may_pin}
use Rattle.vs_machine.proofs.Kept.Restarting.{owners_kept, owners_restarted}

-- ---- one bucket

-- a set gets an entry that isn't receiving
entry_seals : (o : ℕ) (b : Bucket) (x : ℕ) (e : Option Status) → ((w : ℕ) → e ≢ Some (Receiving w)) → SealFits o b → (w : ℕ) → put b.entry x e o ≡ Some (Receiving w) → b.kept w ≡ write_count b.history
entry_seals o b x e other f w h = elim (put_split b.entry x e o (Some (Receiving w)) h) [ inl g ↦ absurd (other w g.1) | inr g ↦ f w g.1 ]

-- the owner x sends the bucket to y, which takes rows
page_seals : (o : ℕ) (b : Bucket) (x y : ℕ) (page : RowMap) → x ≡ o → y ≢ x → b.entry x ≡ Some (Sending y) → SealFits o (with_page b x y page)
page_seals o b x y page owns apart sends w h =
    let there : put b.entry y (Some (Receiving x)) x ≡ b.entry x = put_there b.entry y _ x (λ e. apart (sym e)) in
    let at : put b.entry y (Some (Receiving x)) x ≡ Some (Receiving w) = subst (λ q. put b.entry y (Some (Receiving x)) q ≡ Some (Receiving w)) (sym owns) h in
    absurd (cc (there, at, sends))

-- x hands the bucket over to d, and keeps the place of its rows
handed_seals : (b : Bucket) (x d : ℕ) → d ≢ x → b.entry d ≡ Some (Receiving x) → (w : ℕ) → put b.entry x (Some (Sent d)) d ≡ Some (Receiving w) → put b.kept x (write_count b.history) w ≡ write_count b.history
handed_seals b x d apart there w h =
    let same : x ≡ w = cc (put_there b.entry x (Some (Sent d)) d apart, h, there) in
    subst (λ q. put b.kept x (write_count b.history) q ≡ write_count b.history) same (put_here b.kept x (write_count b.history))

acted_seals : (n o : ℕ) (b : Bucket) (x posted : ℕ) (id : CallId) (m : Mode) (ops : List Op) → BucketFits n o b → HoldFits b x m posted → SealFits o b → SealFits o (bucket_after b x id m ops)
acted_seals n o b x posted id Ro ops f h g = g
acted_seals n o b x posted id Rw ops f h g = λ w from.
    let owns : x ≡ o = serving_owns o b.entry x f.placed h in
    absurd (subst IsServing (ap b.entry owns ∙ from) h)

decided_seals : (o : ℕ) (b : Bucket) (x : ℕ) (d : Decision) → SealFits o b → SealFits o (decided b x d)
decided_seals o b x Stay f = f
decided_seals o b x ToActive f = entry_seals o b x (Some Active) (λ w e. absurd cc) f
decided_seals o b x ToGarbage f = entry_seals o b x (Some Garbage) (λ w e. absurd cc) f

heard_seals : (o : ℕ) (b : Bucket) (e x y : ℕ) (heard : Heard) (r : Reply) → SealFits o b → SealFits o (bucket_hearing b e x y heard r)
heard_seals o b e x y heard reply.Took f = f
heard_seals o b e x y heard (reply.Not fault) f = f
heard_seals o b e x y heard (reply.State st live) f = by (counts_at b e x y heard.sync)
  where
    by : (t : Bool) → SealFits o (if t then decided b x (decision_by (b.entry x) st live) else b)
    by true = decided_seals o b x (decision_by (b.entry x) st live) f
    by false = f

module _ (own : ℕ → ℕ) (s : State) (i : Inner own s) (f : SealsFit own s) where
  one_seals : (b : ℕ) (new : Bucket) → SealFits (own b) new → (q : ℕ) → SealFits (own q) (put s.bucket b new q)
  one_seals b new fits = put_each (λ q. SealFits (own q)) s.bucket b new fits f

  entry_keeps : (b x : ℕ) (e : Option Status) → ((w : ℕ) → e ≢ Some (Receiving w)) → (q : ℕ) → SealFits (own q) (put s.bucket b (with_entry (s.bucket b) x e) q)
  entry_keeps b x e other = one_seals b (with_entry (s.bucket b) x e) (entry_seals (own b) (s.bucket b) x e other (f b))

  delivered : (x y : ℕ) (m : link.Sent) (v : Message) → m.message ≡ v → (s.link x y).calls ≡ m ∷ rest (s.link x y).calls → SealsFit own (after_deliver s x y m v)
  delivered x y m (Stat b) e is = f
  delivered x y m (Chunk b page) e is = by (received_at s x y b false)
    where
      by : (r : Result Took RecvFault) → SealsFit own (after_message s x y m r)
      by (Err fault) = one_seals (link.bucket_of m.message) _ (subst (λ v. SealFits (own (link.bucket_of m.message)) (bucket_taking (s.bucket (link.bucket_of m.message)) x y v (Err fault))) (sym e) (f (link.bucket_of m.message)))
      by (Ok took) =
          let q = link.bucket_of m.message in
          let old = s.bucket q in
          let at = (head_fits s.bucket x y (s.link x y) m is (i.links x y)).0 in
          let waits = (subst (λ v. MessageFits (s.link x y).epoch old x y m.sync v) e at).0 in
          let sends = phase_of (sets_of s) (own q) old x y (Waiting (s.link x y).epoch m.sync (last_key page)) (i.buckets q) waits in
          let owns : x ≡ own q = sending_owns (own q) old.entry x y (i.buckets q).placed sends in
          let apart : y ≢ x = subst (λ d. d ≢ x) waits.to ((i.buckets q).transfers x waits.it waits.there).apart in
          one_seals q _ (subst (λ v. SealFits (own q) (bucket_taking old x y v (Ok took))) (sym e) (page_seals (own q) old x y page owns apart sends))
  delivered x y m (Last b) e is = by (received_at s x y b true)
    where
      by : (r : Result Took RecvFault) → SealsFit own (after_message s x y m r)
      by (Err fault) = one_seals (link.bucket_of m.message) _ (subst (λ v. SealFits (own (link.bucket_of m.message)) (bucket_taking (s.bucket (link.bucket_of m.message)) x y v (Err fault))) (sym e) (f (link.bucket_of m.message)))
      by (Ok took) =
          let q = link.bucket_of m.message in
          one_seals q _ (subst (λ v. SealFits (own q) (bucket_taking (s.bucket q) x y v (Ok took))) (sym e) (entry_seals (own q) (s.bucket q) y (Some Active) (λ w g. absurd cc) (f q)))

  -- ---- a kept restart

  status_seals : (b x : ℕ) (e : Option Status) (st : Status) → (s.bucket b).entry x ≡ e → (let old = s.bucket b in StatusFits (sets_of s) (own b) old.entry old.transfer old.rows x e st)
      → (q : ℕ) → SealFits (handed_by own (Some (changes.SetStatus b st)) q) (put s.bucket b (with_status (s.bucket b) x st) q)
  status_seals b x (Some Active) Pinned at g = entry_keeps b x (Some Pinned) (λ w h. absurd cc)
  status_seals b x (Some Pinned) Active at g = entry_keeps b x (Some Active) (λ w h. absurd cc)
  status_seals b x (Some Active) (Sending d) at g = entry_keeps b x (Some (Sending d)) (λ w h. absurd cc)
  status_seals b x (Some (Sending d)) (Sent e) at g =
      let old = s.bucket b in
      let there : old.entry e ≡ Some (Receiving x) = subst (λ k. old.entry k ≡ Some (Receiving x)) (sym g.0) g.2 in
      let apart : e ≢ x = λ h. g.1 (sym g.0 ∙ h) in
      put_both (λ q. SealFits) own s.bucket b e (with_status old x (Sent e)) (handed_seals old x e apart there) f
  status_seals b x (Some (Sending d)) Active at g = entry_keeps b x (Some Active) (λ w h. absurd cc)
  status_seals b x (Some (Receiving y)) Active at g = entry_keeps b x (Some Active) (λ w h. absurd cc)
  status_seals b x (Some (Receiving y)) Garbage at g = entry_keeps b x (Some Garbage) (λ w h. absurd cc)
  status_seals b x (Some (Sent d)) Garbage at g = entry_keeps b x (Some Garbage) (λ w h. absurd cc)
  status_seals b x e st at g = absurd g

  changed_seals : (x : ℕ) (change : Change) → FitsIn (sets_of s) (own (bucket_of change)) (s.bucket (bucket_of change)) x change
      → (q : ℕ) → SealFits (handed_by own (Some change) q) (put s.bucket (bucket_of change) (with_change (s.bucket (bucket_of change)) x change) q)
  changed_seals x (changes.SetStatus b st) g = status_seals b x ((s.bucket b).entry x) st refl g
  changed_seals x (changes.AddRows b z page) g =
      let old = s.bucket b in
      let owns : z ≡ own b = sending_owns (own b) old.entry z x (i.buckets b).placed g.sends in
      let apart : x ≢ z = λ e. ((i.buckets b).named z x (ap names g.sends)).0 e in
      one_seals b _ (page_seals (own b) old z x page owns apart g.sends)
  changed_seals x (changes.Write id b ops) g = one_seals b _ (acted_seals (sets_of s) (own b) (s.bucket b) x 0 id Rw ops (i.buckets b) g (f b))
  changed_seals x (changes.Wipe b k) g = one_seals b _ (f b)
  changed_seals x (changes.Forget b) g = entry_keeps b x None (λ w h. absurd cc)

  restarted_seals : PendingFits own s → (x : ℕ) (kept : Bool) (pending : Option Change) → s.pending x ≡ pending → SealsFit (owners_kept own kept pending) (restarted s x kept pending)
  restarted_seals p x true (Some change) is = changed_seals x change (p x change is).1
  restarted_seals p x true None is = f
  restarted_seals p x false (Some change) is = f
  restarted_seals p x false None is = f

-- ---- the kinds

runs_held : (g : Stage) → is_running g ≡ true → is_held g ≡ true
runs_held g h = grind arith

pub restart_seals : (own : ℕ → ℕ) (s t : State) (x : ℕ) (kept : Bool) (by : RestartBy) → Inner own s → PendingFits own s → SealsFit own s → restart s x kept by ≡ Ok t → SealsFit (owners_restarted own s x kept) t
restart_seals own s t x kept Service i p f e =
    let can = can_restart s t x kept e in
    subst (λ q. SealsFit (if q then own else owners_kept own kept (s.pending x)) t) (sym can.x_down)
    (subst (SealsFit (owners_kept own kept (s.pending x))) can.gives (restarted_seals own s i f p x kept (s.pending x) refl))
restart_seals own s t x kept (Line o) i p f e =
    let can = can_restart_line s t x o kept e in
    subst (SealsFit (owners_restarted own s x kept)) can.gives (by (s.up x) refl)
  where
    by : (q : Bool) → s.up x ≡ q → SealsFit (if q then own else owners_kept own kept (s.pending x)) (if q then put_operator s o (answer (s.operator o) WasUp) else put_operator (restarted s x kept (s.pending x)) o (answer (s.operator o) Done))
    by true is = f
    by false is = restarted_seals own s i f p x kept (s.pending x) refl

act_seals : (own : ℕ → ℕ) (s t : State) (c : ℕ) → Inner own s → SealsFit own s → act s c ≡ Ok t → SealsFit own t
act_seals own s t c i f h =
    let p = can_act s t c h in
    let k = p.k in
    let held = held_at (s.client c).present p.x (runs_held (s.client c).present.stage p.running) p.set in
    subst (SealsFit own) p.gives (one_seals own s i f k.bucket _ (acted_seals (sets_of s) (own k.bucket) (s.bucket k.bucket) p.x (s.client c).present.writes (call_id c (s.client c)) k.mode k.ops (i.buckets k.bucket) (i.clients c k p.x p.called held) (f k.bucket)))

cut_seals : (own : ℕ → ℕ) (s t : State) (o : ℕ) → SealsFit own s → cut_call s o ≡ Ok t → SealsFit own t
cut_seals own s t o f h =
    let p = can_cut s t o h in
    subst (SealsFit own) p.gives (by p.c p.n (is_answered (s.client p.c) p.n))
  where
    by : (c n : ℕ) (late : Bool) → SealsFit own (if late then put_operator s o (answer (s.operator o) Late) else put_operator (put_client s c (with_progress (s.client c) (cut (s.client c).present))) o (answer (s.operator o) Done))
    by c n true = f
    by c n false = f

start_seals : (own : ℕ → ℕ) (s t : State) (o : ℕ) → Inner own s → SealsFit own s → start s o ≡ Ok t → SealsFit own t
start_seals own s t o i f h = let p = can_start s t o h in subst (SealsFit own) p.gives (by p.m (send_fault s p.m.bucket p.m.from p.m.to))
  where
    by : (m : Move) (v : Option CommandFault) → SealsFit own (after_start s o m v)
    by m (Some v) = f
    by m None = one_seals own s i f m.bucket _ (f m.bucket)

haul_seals : (own : ℕ → ℕ) (s t : State) (o x d : ℕ) → Inner own s → SealsFit own s → haul s o x d ≡ Ok t → SealsFit own t
haul_seals own s t o x d i f h = let p = can_haul s t o x d h in subst (SealsFit own) p.gives (by (bucket_to_haul s x d))
  where
    by : (v : Option ℕ) → SealsFit own (after_haul s o x d v)
    by None = f
    by (Some b) = one_seals own s i f b _ (f b)

freeze_seals : (own : ℕ → ℕ) (s t : State) (x b : ℕ) → Inner own s → SealsFit own s → freeze s x b ≡ Ok t → SealsFit own t
freeze_seals own s t x b i f h =
    let p = can_freeze s t x b h in
    subst (SealsFit own) p.gives (one_seals own s i f b _ (entry_seals (own b) (s.bucket b) x (Some (Sending p.u.dest)) (λ w e. absurd cc) (f b)))

seal_seals : (own : ℕ → ℕ) (s t : State) (x b : ℕ) → Inner own s → SealsFit own s → seal s x b ≡ Ok t → SealsFit (put own b (dest_or (own b) ((s.bucket b).transfer x))) t
seal_seals own s t x b i f h =
    let p = can_seal s t x b h in
    let old = s.bucket b in
    let fits = (i.buckets b).transfers x p.u p.there in
    let copy = subst (CopyFits old.entry old.rows x p.u.dest) p.copied fits.copy in
    let kept : SealsFit (put own b p.u.dest) (after_seal s x b p.u) = put_both (λ q. SealFits) own s.bucket b p.u.dest _ (handed_seals old x p.u.dest fits.apart copy.0) f in
    subst (λ o. SealsFit (put own b (dest_or (own b) o)) t) (sym p.there) (subst (SealsFit (put own b p.u.dest)) p.gives kept)

deliver_seals : (own : ℕ → ℕ) (s t : State) (x y : ℕ) → Inner own s → SealsFit own s → deliver s x y ≡ Ok t → SealsFit own t
deliver_seals own s t x y i f h =
    let p = can_deliver s t x y h in
    subst (SealsFit own) p.gives (delivered own s i f x y p.sent p.sent.message refl (head_is (x == y) (s.link x y).calls p.sent p.head))

hear_seals : (own : ℕ → ℕ) (s t : State) (x y : ℕ) → Inner own s → SealsFit own s → hear s x y ≡ Ok t → SealsFit own t
hear_seals own s t x y i f h =
    let p = can_hear s t x y h in
    let q = p.heard.bucket in
    subst (SealsFit own) p.gives (one_seals own s i f q _ (heard_seals (own q) (s.bucket q) (s.link x y).epoch x y p.heard p.heard.reply (f q)))

pin_seals : (own : ℕ → ℕ) (s t : State) (o : ℕ) → Inner own s → SealsFit own s → pin s o ≡ Ok t → SealsFit own t
pin_seals own s t o i f h = let p = can_pin s t o h in subst (SealsFit own) p.gives (by p.p p.named (pinning_fault s p.p p.p.status) refl)
  where
    by : (q : Pinning) → pinning_of (next_command (s.operator o)) ≡ Some q → (v : Option CommandFault) → pinning_fault s q q.status ≡ v → SealsFit own (after_pin s o q v)
    by q named (Some v) is = f
    by q named None is = let serves = (may_pin s (next_command (s.operator o)) q named is).serves in entry_keeps own s i f q.bucket q.at (Some q.status) (λ w e. subst IsServing e serves)

plan_seals : (own : ℕ → ℕ) (s t : State) (o : ℕ) → SealsFit own s → plan s o ≡ Ok t → SealsFit own t
plan_seals own s t o f h = by (least_to (λ x. not (s.up x)) (sets_of s)) (can_plan s t o h).gives
  where
    by : (down : Option ℕ) → plan_round s o down ≡ Ok t → SealsFit own t
    by (Some x) g = subst (SealsFit own) (ok_is _ t g) f
    by None g = let k = wants_none_ok (least_to (is_in_move s) s.config.bucket_count) reason.Moving _ t g in subst (SealsFit own) (ok_is _ t k.1) f

stop_seals : (own : ℕ → ℕ) (s t : State) (o : ℕ) → SealsFit own s → stop s o ≡ Ok t → SealsFit own t
stop_seals own s t o f h = let p = can_stop s t o h in subst (SealsFit own) p.gives (by p.x (s.up p.x))
  where
    by : (x : ℕ) (up : Bool) → SealsFit own (if up then put_operator (gone_down s x) o (answer (s.operator o) Done) else put_operator s o (answer (s.operator o) WasDown))
    by x true = f
    by x false = f

pub step_seals : (own : ℕ → ℕ) (s t : State) (e : Event) → Inner own s → PendingFits own s → SealsFit own s → step s e ≡ Ok t → SealsFit (owners own s e) t
step_seals own s t (Post c x) i p f h = subst (SealsFit own) (can_post s t c x h).gives f
step_seals own s t (Begin c) i p f h = subst (SealsFit own) (can_begin s t c h).gives f
step_seals own s t (Act c) i p f h = act_seals own s t c i f h
step_seals own s t (End c) i p f h = subst (SealsFit own) (can_end s t c h).gives f
step_seals own s t (Take c) i p f h = subst (SealsFit own) (can_take s t c h).gives f
step_seals own s t (Cut o) i p f h = cut_seals own s t o f h
step_seals own s t (Start o) i p f h = start_seals own s t o i f h
step_seals own s t (Haul o x d) i p f h = haul_seals own s t o x d i f h
step_seals own s t (NotYet x b) i p f h = subst (SealsFit own) (can_wait s t x b h).gives (one_seals own s i f b _ (f b))
step_seals own s t (Freeze x b) i p f h = freeze_seals own s t x b i f h
step_seals own s t (Chunk x b) i p f h = subst (SealsFit own) (can_chunk s t x b h).gives (one_seals own s i f b _ (f b))
step_seals own s t (Seal x b) i p f h = seal_seals own s t x b i f h
step_seals own s t (Last x b) i p f h = subst (SealsFit own) (can_last s t x b h).gives (one_seals own s i f b _ (f b))
step_seals own s t (Abort x b) i p f h = subst (SealsFit own) (can_abort s t x b h).gives (one_seals own s i f b _ (f b))
step_seals own s t (EndMove x b) i p f h = subst (SealsFit own) (can_end_move s t x b h).gives (one_seals own s i f b _ (f b))
step_seals own s t (Deliver x y) i p f h = deliver_seals own s t x y i f h
step_seals own s t (Hear x y) i p f h = hear_seals own s t x y i f h
step_seals own s t (Close o) i p f h = subst (SealsFit own) (can_close s t o h).gives f
step_seals own s t (Ask x b) i p f h = subst (SealsFit own) (can_ask s t x b h).gives (one_seals own s i f b _ (f b))
step_seals own s t (Condemn x b) i p f h = subst (SealsFit own) (can_condemn s t x b h).gives (entry_keeps own s i f b x (Some Garbage) (λ w e. absurd cc))
step_seals own s t (Wipe x b) i p f h = subst (SealsFit own) (can_wipe s t x b h).gives (one_seals own s i f b _ (f b))
step_seals own s t (Forget x b) i p f h = subst (SealsFit own) (can_forget s t x b h).gives (entry_keeps own s i f b x None (λ w e. absurd cc))
step_seals own s t (Pin o) i p f h = pin_seals own s t o i f h
step_seals own s t (Plan o) i p f h = plan_seals own s t o f h
step_seals own s t (Stop o) i p f h = stop_seals own s t o f h
step_seals own s t (Fault x n r) i p f h = subst (SealsFit own) (can_fault s t x n r h).gives f
step_seals own s t (Restart x kept by) i p f h = subst (λ o. SealsFit o t) (owners_same own s x kept by) (restart_seals own s t x kept by i p f h)
