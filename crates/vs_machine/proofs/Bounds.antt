-- Only sets of the cluster have entries, and only of its buckets: kept by every kind of event.
use Rattle.std.proofs.Common.{◌≡◌, ℕ, ◌≤◌, Bool, true, false, refl, ap, subst, List, ◌∷◌, Option, Some, None, Result, Ok, Err}
use Rattle.std.specs.Prelude.{◌≢◌, ◌==◌, not, if◌then◌else◌}
use Rattle.vs_base.specs.declared.numbers.CallId.{CallId}
use Rattle.vs_base.specs.declared.numbers.Mode.{Mode}
use Rattle.vs_base.specs.declared.numbers.Mode.TheVariants.{Ro, Rw}
use Rattle.vs_rows.specs.declared.op.Op.{Op}
use Rattle.vs_calls.specs.Progress.{cut}
use Rattle.vs_event.specs.declared.event.Event.{Event}
use Rattle.vs_event.specs.declared.event.Event.TheVariants.{Post, Begin, Act, End, Take, Cut, Start, Haul, NotYet, Freeze, Chunk, Seal, Last, Abort, EndMove, Deliver, Hear, Close, Ask, Condemn, Wipe, Forget, Pin, Plan, Stop, Fault, Restart}
use Rattle.vs_event.specs.declared.event.RestartBy.{RestartBy}
use Rattle.vs_event.specs.declared.event.RestartBy.TheVariants.{Line, Service}
use Rattle.vs_event.specs.declared.reason.Reason.TheVariants as reason
use Rattle.vs_space.specs.declared.reply.Reply.{Reply}
use Rattle.vs_space.specs.declared.reply.Reply.TheVariants as reply
use Rattle.vs_space.specs.declared.reply.RecvFault.{RecvFault}
use Rattle.vs_space.specs.declared.status.Status.{Status}
use Rattle.vs_space.specs.declared.status.Status.TheVariants.{Active, Pinned, Sending, Receiving, Sent, Garbage}
use Rattle.vs_link.specs.Connection.{Message, Chunk, Last, Stat, bucket_of, rest}
use Rattle.vs_link.specs.Connection as link
use Rattle.vs_link.specs.declared.message.Heard.{Heard}
use Rattle.vs_record.specs.Change as changes
use Rattle.vs_record.specs.Change.{Change}
use Rattle.vs_recover.specs.Decision.{decision_of}
use Rattle.vs_recover.specs.declared.decision.Decision.{Decision}
use Rattle.vs_recover.specs.declared.decision.Decision.TheVariants.{Stay, ToActive, ToGarbage}
use Rattle.vs_recv.specs.declared.took.Took.{Took}
use Rattle.vs_send.specs.declared.transfer.Phase.{Phase}
use Rattle.vs_send.specs.declared.transfer.Phase.TheVariants.{Waiting, WaitingLast}
use Rattle.vs_machine.specs.declared.outcome.CommandFault.{CommandFault}
use Rattle.vs_machine.specs.declared.outcome.CommandOutcome.TheVariants.{Done, Late, WasDown, WasUp}
use Rattle.vs_machine.specs.Tables.{put, is_to, least_to}
use Rattle.vs_machine.specs.State.{State, Bucket, sets_of, has_set, has_bucket, answer, call_id, next_command, put_client, put_operator, with_progress}
use Rattle.vs_machine.specs.Step.{step}
use Rattle.vs_machine.specs.Coherence.{IsServing, names}
use Rattle.vs_machine.specs.Kinds.Calls.{act, bucket_after, is_answered, cut_call}
use Rattle.vs_machine.specs.Kinds.Connections.{received_at, bucket_taking, after_message, after_deliver, deliver, decision_by, decided, bucket_hearing, hear, counts_at}
use Rattle.vs_machine.specs.Kinds.Faults.{send_fault}
use Rattle.vs_machine.specs.Kinds.Pinning.{Pinning, pinning_of, pinning_fault, pin, after_pin}
use Rattle.vs_machine.specs.Kinds.Rebalancing.{haul, after_haul, bucket_to_haul, plan, plan_round, is_in_move}
use Rattle.vs_machine.specs.Kinds.Sender.{Move, last_key, start, after_start}
use Rattle.vs_machine.specs.Kinds.Stops.{gone_down, stop, restart, restarted, with_change}
use Rattle.vs_machine.specs.Whole.{Inner}
use Rattle.vs_machine.specs.Inner.Down.{StatusFits, FitsIn, PendingFits}
use Rattle.vs_machine.specs.Inner.Lines.{IsIn}
use Rattle.vs_machine.proofs.Can.Calls.{can_post, can_begin, can_act, can_end, can_take, can_cut}
use Rattle.vs_machine.proofs.Can.Others.{can_deliver, can_hear, can_close, can_ask, can_condemn, can_wipe, can_forget, can_pin, can_haul, can_plan}
use Rattle.vs_machine.proofs.Can.Sender.{can_start, can_wait, can_freeze, can_chunk, can_seal, can_last, can_abort, can_end_move}
use Rattle.vs_machine.proofs.Can.Stops.{can_stop, can_fault, can_restart, can_restart_line}
use Rattle.vs_machine.proofs.Frame.{put_each}
use Rattle.vs_machine.proofs.Possible.{ok_is, wants_none_ok}
use Rattle.vs_machine.proofs.Linked.{has_entry}
use Rattle.vs_machine.proofs.Owners.{phase_of}
use Rattle.vs_machine.proofs.Kept.Delivering.{head_is, head_fits, within_of}
use Rattle.vs_machine.proofs.Kept.Pinning.{may_pin}

-- bucket b is one of m, and set x one of n
pub record IsOfCluster (m n b x : ℕ) : Type 0 where
  pub bucket : is_to m b ≡ true
  pub set : (1 ≤ x) × (x ≤ n)

abbrev pub Stands : State → ℕ → ℕ → Type 0
Stands s = IsOfCluster s.config.bucket_count (sets_of s)

-- the bucket has entries only at these sets
abbrev pub EntryFits : (ℕ → Type 0) → Bucket → Type 0
EntryFits R b = (x : ℕ) → b.entry x ≢ None → R x

abbrev pub BoundsFit : State → Type 0
BoundsFit s = (b x : ℕ) → (s.bucket b).entry x ≢ None → Stands s b x

-- ---- one bucket

module _ (R : ℕ → Type 0) (b : Bucket) (f : EntryFits R b) where
  entry_bound : (x : ℕ) (e : Option Status) → R x → (y : ℕ) → put b.entry x e y ≢ None → R y
  entry_bound x e here = put_each (λ y (u : Option Status). u ≢ None → R y) b.entry x e (λ _. here) f

  acted_bound : (x : ℕ) (id : CallId) (m : Mode) (ops : List Op) → EntryFits R (bucket_after b x id m ops)
  acted_bound x id Ro ops = f
  acted_bound x id Rw ops = f

  taken_bound : (x y : ℕ) (m : Message) (r : Result Took RecvFault) → R y → EntryFits R (bucket_taking b x y m r)
  taken_bound x y (Chunk q page) (Ok took) here = entry_bound y (Some (Receiving x)) here
  taken_bound x y (Last q) (Ok took) here = entry_bound y (Some Active) here
  taken_bound x y (Stat q) (Ok took) here = f
  taken_bound x y (Chunk q page) (Err fault) here = f
  taken_bound x y (Last q) (Err fault) here = f
  taken_bound x y (Stat q) (Err fault) here = f

  decided_bound : (x : ℕ) (d : Decision) → R x → EntryFits R (decided b x d)
  decided_bound x Stay here = f
  decided_bound x ToActive here = entry_bound x (Some Active) here
  decided_bound x ToGarbage here = entry_bound x (Some Garbage) here

  -- a set decides only about an entry that it has
  heard_bound : (e x y : ℕ) (heard : Heard) (r : Reply) → EntryFits R (bucket_hearing b e x y heard r)
  heard_bound e x y heard reply.Took = f
  heard_bound e x y heard (reply.Not fault) = f
  heard_bound e x y heard (reply.State st live) = by (counts_at b e x y heard.sync) (b.entry x) refl
    where
      by : (t : Bool) (u : Option Status) → b.entry x ≡ u → EntryFits R (if t then decided b x (decision_by u st live) else b)
      by false u is = f
      by true None is = f
      by true (Some local) is = decided_bound x (decision_of local st live) (f x (λ none. absurd (cc (none, is))))

  changed_bound : (x : ℕ) (change : Change) → R x → EntryFits R (with_change b x change)
  changed_bound x (changes.SetStatus q Active) here = entry_bound x (Some Active) here
  changed_bound x (changes.SetStatus q Pinned) here = entry_bound x (Some Pinned) here
  changed_bound x (changes.SetStatus q (Sending d)) here = entry_bound x (Some (Sending d)) here
  changed_bound x (changes.SetStatus q (Receiving d)) here = entry_bound x (Some (Receiving d)) here
  changed_bound x (changes.SetStatus q (Sent d)) here = entry_bound x (Some (Sent d)) here
  changed_bound x (changes.SetStatus q Garbage) here = entry_bound x (Some Garbage) here
  changed_bound x (changes.AddRows q z page) here = entry_bound x (Some (Receiving z)) here
  changed_bound x (changes.Write id q ops) here = f
  changed_bound x (changes.Wipe q k) here = f
  changed_bound x (changes.Forget q) here = entry_bound x None here

-- ---- the kinds

module _ (s : State) (f : BoundsFit s) where
  one_bound : (b : ℕ) (new : Bucket) → EntryFits (Stands s b) new → (q : ℕ) → EntryFits (Stands s q) (put s.bucket b new q)
  one_bound b new fits = put_each (λ q. EntryFits (Stands s q)) s.bucket b new fits f

  -- an entry is put at a set of the cluster
  put_bound : (b x : ℕ) (e : Option Status) → has_set s x ≡ true → has_bucket s b ≡ true → (y : ℕ) → put (s.bucket b).entry x e y ≢ None → Stands s b y
  put_bound b x e set bucket = entry_bound (Stands s b) (s.bucket b) (f b) x e (record { bucket = bucket; set = within_of (sets_of s) x set })

  act_bounds : (t : State) (c : ℕ) → act s c ≡ Ok t → BoundsFit t
  act_bounds t c h =
      let p = can_act s t c h in
      let b = p.k.bucket in
      subst BoundsFit p.gives (one_bound b _ (acted_bound (Stands s b) (s.bucket b) (f b) p.x (call_id c (s.client c)) p.k.mode p.k.ops))

  cut_bounds : (t : State) (o : ℕ) → cut_call s o ≡ Ok t → BoundsFit t
  cut_bounds t o h = let p = can_cut s t o h in subst BoundsFit p.gives (by p.c p.n (is_answered (s.client p.c) p.n))
    where
      by : (c n : ℕ) (late : Bool) → BoundsFit (if late then put_operator s o (answer (s.operator o) Late) else put_operator (put_client s c (with_progress (s.client c) (cut (s.client c).present))) o (answer (s.operator o) Done))
      by c n true = f
      by c n false = f

  start_bounds : (t : State) (o : ℕ) → start s o ≡ Ok t → BoundsFit t
  start_bounds t o h = let p = can_start s t o h in subst BoundsFit p.gives (by p.m (send_fault s p.m.bucket p.m.from p.m.to))
    where
      by : (m : Move) (v : Option CommandFault) → BoundsFit (after_start s o m v)
      by m (Some v) = f
      by m None = one_bound m.bucket _ (f m.bucket)

  haul_bounds : (t : State) (o x d : ℕ) → haul s o x d ≡ Ok t → BoundsFit t
  haul_bounds t o x d h = let p = can_haul s t o x d h in subst BoundsFit p.gives (by (bucket_to_haul s x d))
    where
      by : (v : Option ℕ) → BoundsFit (after_haul s o x d v)
      by None = f
      by (Some b) = one_bound b _ (f b)

  -- what is taken comes from a set with an entry of the bucket
  deliver_bounds : (own : ℕ → ℕ) (t : State) (x y : ℕ) → Inner own s → deliver s x y ≡ Ok t → BoundsFit t
  deliver_bounds own t x y i h =
      let p = can_deliver s t x y h in
      subst BoundsFit p.gives (by p.sent.sync p.sent.message (head_is (x == y) (s.link x y).calls p.sent p.head) (within_of (sets_of s) y p.to))
    where
      taken : (m : link.Sent) (r : Result Took RecvFault) → Stands s (bucket_of m.message) y → BoundsFit (after_message s x y m r)
      taken m r here = let b = bucket_of m.message in one_bound b _ (taken_bound (Stands s b) (s.bucket b) (f b) x y m.message r here)

      known : (b : ℕ) (phase : Phase) → IsIn (s.bucket b).transfer x y phase → has_bucket s b ≡ true
      known b phase at = (f b x (has_entry y ((s.bucket b).entry x) phase (phase_of (sets_of s) (own b) (s.bucket b) x y phase (i.buckets b) at))).bucket

      by : (k : ℕ) (m : Message) → (s.link x y).calls ≡ (record { sync = k; message = m }) ∷ rest (s.link x y).calls → (1 ≤ y) × (y ≤ sets_of s) → BoundsFit (after_deliver s x y (record { sync = k; message = m }) m)
      by k (Chunk b page) is within =
          let m : link.Sent = record { sync = k; message = Chunk b page } in
          let head = (head_fits s.bucket x y (s.link x y) m is (i.links x y)).0 in
          taken m (received_at s x y b false) (record { bucket = known b (Waiting (s.link x y).epoch k (last_key page)) head.0; set = within })
      by k (Last b) is within =
          let m : link.Sent = record { sync = k; message = Last b } in
          let head = (head_fits s.bucket x y (s.link x y) m is (i.links x y)).0 in
          taken m (received_at s x y b true) (record { bucket = known b (WaitingLast (s.link x y).epoch k) head; set = within })
      by k (Stat b) is within = f

  hear_bounds : (t : State) (x y : ℕ) → hear s x y ≡ Ok t → BoundsFit t
  hear_bounds t x y h =
      let p = can_hear s t x y h in
      let q = p.heard.bucket in
      subst BoundsFit p.gives (one_bound q _ (heard_bound (Stands s q) (s.bucket q) (f q) (s.link x y).epoch x y p.heard p.heard.reply))

  pin_bounds : (t : State) (o : ℕ) → pin s o ≡ Ok t → BoundsFit t
  pin_bounds t o h = let p = can_pin s t o h in subst BoundsFit p.gives (by p.p p.named (pinning_fault s p.p p.p.status) refl)
    where
      by : (q : Pinning) → pinning_of (next_command (s.operator o)) ≡ Some q → (v : Option CommandFault) → pinning_fault s q q.status ≡ v → BoundsFit (after_pin s o q v)
      by q named (Some v) is = f
      by q named None is =
          let serving = (may_pin s (next_command (s.operator o)) q named is).serving in
          one_bound q.bucket _ (entry_bound (Stands s q.bucket) (s.bucket q.bucket) (f q.bucket) q.at (Some q.status) (f q.bucket q.at (λ none. subst IsServing none serving)))

  plan_bounds : (t : State) (o : ℕ) → plan s o ≡ Ok t → BoundsFit t
  plan_bounds t o h = by (least_to (λ x. not (s.up x)) (sets_of s)) (can_plan s t o h).gives
    where
      by : (down : Option ℕ) → plan_round s o down ≡ Ok t → BoundsFit t
      by (Some x) g = subst BoundsFit (ok_is _ t g) f
      by None g = let k = wants_none_ok (least_to (is_in_move s) s.config.bucket_count) reason.Moving _ t g in subst BoundsFit (ok_is _ t k.1) f

  stop_bounds : (t : State) (o : ℕ) → stop s o ≡ Ok t → BoundsFit t
  stop_bounds t o h = let p = can_stop s t o h in subst BoundsFit p.gives (by p.x (s.up p.x))
    where
      by : (x : ℕ) (up : Bool) → BoundsFit (if up then put_operator (gone_down s x) o (answer (s.operator o) Done) else put_operator s o (answer (s.operator o) WasDown))
      by x true = f
      by x false = f

  -- a change that is pending is of an entry that the set has, or of rows that another sends
  module _ (own : ℕ → ℕ) (i : Inner own s) (p : PendingFits own s) where
    status_there : (b x : ℕ) (e : Option Status) (st : Status) → (s.bucket b).entry x ≡ e → (let old = s.bucket b in StatusFits (sets_of s) (own b) old.entry old.transfer old.rows x e st) → Stands s b x
    status_there b x None st at g = absurd g
    status_there b x (Some u) st at g = f b x (λ none. absurd (cc (none, at)))

    there : (x : ℕ) (change : Change) → FitsIn (sets_of s) (own (changes.bucket_of change)) (s.bucket (changes.bucket_of change)) x change → Stands s (changes.bucket_of change) x
    there x (changes.SetStatus b st) g = status_there b x ((s.bucket b).entry x) st refl g
    there x (changes.AddRows b z page) g =
        let to = (i.buckets b).named z x (ap names g.sends) in
        record { bucket = (f b z (λ none. absurd (cc (none, g.sends)))).bucket; set = (to.1, to.2) }
    there x (changes.Write id b ops) g = f b x (λ none. subst IsServing none g)
    there x (changes.Wipe b k) g = f b x (λ none. absurd (cc (none, g)))
    there x (changes.Forget b) g = f b x (λ none. absurd (cc (none, g.0)))

    restarted_bounds : (x : ℕ) (kept : Bool) (pending : Option Change) → s.pending x ≡ pending → BoundsFit (restarted s x kept pending)
    restarted_bounds x true (Some change) is = let b = changes.bucket_of change in one_bound b _ (changed_bound (Stands s b) (s.bucket b) (f b) x change (there x change (p x change is).1))
    restarted_bounds x true None is = f
    restarted_bounds x false (Some change) is = f
    restarted_bounds x false None is = f

    restart_bounds : (t : State) (x : ℕ) (kept : Bool) (by : RestartBy) → restart s x kept by ≡ Ok t → BoundsFit t
    restart_bounds t x kept Service h = subst BoundsFit (can_restart s t x kept h).gives (restarted_bounds x kept (s.pending x) refl)
    restart_bounds t x kept (Line o) h = subst BoundsFit (can_restart_line s t x o kept h).gives (by (s.up x))
      where
        by : (u : Bool) → BoundsFit (if u then put_operator s o (answer (s.operator o) WasUp) else put_operator (restarted s x kept (s.pending x)) o (answer (s.operator o) Done))
        by true = f
        by false = restarted_bounds x kept (s.pending x) refl

pub step_bounds : (own : ℕ → ℕ) (s t : State) (e : Event) → Inner own s → PendingFits own s → BoundsFit s → step s e ≡ Ok t → BoundsFit t
step_bounds own s t (Post c x) i p f h = subst BoundsFit (can_post s t c x h).gives f
step_bounds own s t (Begin c) i p f h = subst BoundsFit (can_begin s t c h).gives f
step_bounds own s t (Act c) i p f h = act_bounds s f t c h
step_bounds own s t (End c) i p f h = subst BoundsFit (can_end s t c h).gives f
step_bounds own s t (Take c) i p f h = subst BoundsFit (can_take s t c h).gives f
step_bounds own s t (Cut o) i p f h = cut_bounds s f t o h
step_bounds own s t (Start o) i p f h = start_bounds s f t o h
step_bounds own s t (Haul o x d) i p f h = haul_bounds s f t o x d h
step_bounds own s t (NotYet x b) i p f h = subst BoundsFit (can_wait s t x b h).gives (one_bound s f b _ (f b))
step_bounds own s t (Freeze x b) i p f h = let k = can_freeze s t x b h in subst BoundsFit k.gives (one_bound s f b _ (put_bound s f b x (Some (Sending k.u.dest)) k.set k.bucket))
step_bounds own s t (Chunk x b) i p f h = subst BoundsFit (can_chunk s t x b h).gives (one_bound s f b _ (f b))
step_bounds own s t (Seal x b) i p f h = let k = can_seal s t x b h in subst BoundsFit k.gives (one_bound s f b _ (put_bound s f b x (Some (Sent k.u.dest)) k.set k.bucket))
step_bounds own s t (Last x b) i p f h = subst BoundsFit (can_last s t x b h).gives (one_bound s f b _ (f b))
step_bounds own s t (Abort x b) i p f h = subst BoundsFit (can_abort s t x b h).gives (one_bound s f b _ (f b))
step_bounds own s t (EndMove x b) i p f h = subst BoundsFit (can_end_move s t x b h).gives (one_bound s f b _ (f b))
step_bounds own s t (Deliver x y) i p f h = deliver_bounds s f own t x y i h
step_bounds own s t (Hear x y) i p f h = hear_bounds s f t x y h
step_bounds own s t (Close o) i p f h = subst BoundsFit (can_close s t o h).gives f
step_bounds own s t (Ask x b) i p f h = subst BoundsFit (can_ask s t x b h).gives (one_bound s f b _ (f b))
step_bounds own s t (Condemn x b) i p f h = let k = can_condemn s t x b h in subst BoundsFit k.gives (one_bound s f b _ (put_bound s f b x (Some Garbage) k.set k.bucket))
step_bounds own s t (Wipe x b) i p f h = subst BoundsFit (can_wipe s t x b h).gives (one_bound s f b _ (f b))
step_bounds own s t (Forget x b) i p f h = let k = can_forget s t x b h in subst BoundsFit k.gives (one_bound s f b _ (put_bound s f b x None k.set k.bucket))
step_bounds own s t (Pin o) i p f h = pin_bounds s f t o h
step_bounds own s t (Plan o) i p f h = plan_bounds s f t o h
step_bounds own s t (Stop o) i p f h = stop_bounds s f t o h
step_bounds own s t (Fault x n r) i p f h = subst BoundsFit (can_fault s t x n r h).gives f
step_bounds own s t (Restart x kept by) i p f h = restart_bounds s f own i p t x kept by h
