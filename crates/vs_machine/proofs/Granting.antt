-- A set that would grant a call goes on to, unless it goes down, a transfer of the bucket begins there, or the bucket is sealed.
use Rattle.std.proofs.Common.{◌≡◌, ℕ, inl, inr, Bool, true, false, refl, sym, ap, subst, ◌∙◌, List, Option, Some, None, Result, Ok, Err}
use Rattle.std.specs.Prelude.{◌≢◌, ◌⊎◌, ◌==◌, not, if◌then◌else◌}
use Rattle.std.proofs.lemmas.Bool.{cases_eq}
use Rattle.vs_base.specs.declared.numbers.CallId.{CallId}
use Rattle.vs_base.specs.declared.numbers.Mode.{Mode}
use Rattle.vs_base.specs.declared.numbers.Mode.TheVariants.{Ro, Rw}
use Rattle.vs_rows.specs.RowMap.{RowMap}
use Rattle.vs_rows.specs.declared.op.Op.{Op}
use Rattle.vs_calls.specs.Progress.{cut}
use Rattle.vs_space.specs.declared.reply.Reply.{Reply}
use Rattle.vs_space.specs.declared.reply.Reply.TheVariants as reply
use Rattle.vs_space.specs.declared.reply.RecvFault.{RecvFault}
use Rattle.vs_space.specs.declared.status.Status.{Status}
use Rattle.vs_space.specs.declared.status.Status.TheVariants.{Active, Pinned, Sending, Receiving, Sent, Garbage}
use Rattle.vs_space.specs.declared.status.Cause.TheVariants as cause
use Rattle.vs_space.specs.declared.status.Verdict.TheVariants.{Granted, Refused}
use Rattle.vs_space.specs.Verdict.{verdict_of}
use Rattle.vs_event.specs.declared.event.Event.{Event}
use Rattle.vs_event.specs.declared.event.Event.TheVariants.{Post, Begin, Act, End, Take, Cut, Start, Haul, NotYet, Freeze, Chunk, Seal, Last, Abort, EndMove, Deliver, Hear, Close, Ask, Condemn, Wipe, Forget, Pin, Plan, Stop, Fault, Restart}
use Rattle.vs_event.specs.declared.event.RestartBy.{RestartBy}
use Rattle.vs_event.specs.declared.event.RestartBy.TheVariants.{Line, Service}
use Rattle.vs_event.specs.declared.reason.Reason.TheVariants as reason
use Rattle.vs_link.specs.Connection as link
use Rattle.vs_link.specs.declared.message.Heard.{Heard}
use Rattle.vs_recv.specs.Receive.{received}
use Rattle.vs_recv.specs.declared.took.Took.{Took}
use Rattle.vs_recover.specs.declared.decision.Decision.{Decision}
use Rattle.vs_recover.specs.declared.decision.Decision.TheVariants.{Stay, ToActive, ToGarbage}
use Rattle.vs_record.specs.Change.{Change, bucket_of}
use Rattle.vs_record.specs.Change as changes
use Rattle.vs_script.specs.Calls.{Call}
use Rattle.vs_script.specs.declared.command.Command.{Command}
use Rattle.vs_script.specs.declared.command.Command.TheVariants as command
use Rattle.vs_send.specs.Phases.{heard_phase, replied_phase}
use Rattle.vs_send.specs.declared.transfer.Phase.{Phase}
use Rattle.vs_send.specs.declared.transfer.Phase.TheVariants as phase
use Rattle.vs_send.specs.declared.transfer.Transfer.{Transfer}
use Rattle.vs_machine.specs.declared.outcome.CommandFault.{CommandFault}
use Rattle.vs_machine.specs.declared.outcome.CommandOutcome.TheVariants.{Done, Late, WasDown, WasUp}
use Rattle.vs_machine.specs.Tables.{put, least_to}
use Rattle.vs_machine.specs.State.{State, Bucket, sets_of, is_draining, is_draining_in, answer, next_command, put_client, put_operator, with_progress}
use Rattle.vs_machine.specs.Step.{step}
use Rattle.vs_machine.specs.Completeness.{TakesAway}
use Rattle.vs_machine.specs.Kinds.Calls.{verdict_at, bucket_after, is_answered}
use Rattle.vs_machine.specs.Kinds.Connections.{after_deliver, bucket_taking, received_at, bucket_hearing, decided, decision_by, counts_at, heard_by, has_more}
use Rattle.vs_machine.specs.Kinds.Faults.{send_fault}
use Rattle.vs_machine.specs.Kinds.Pinning.{Pinning, pinning_of, pinning_fault, after_pin}
use Rattle.vs_machine.specs.Kinds.Rebalancing.{after_haul, bucket_to_haul, plan_round, is_in_move}
use Rattle.vs_machine.specs.Kinds.Sender.{Move, move_of, after_start, in_phase}
use Rattle.vs_machine.specs.Kinds.Stops.{gone_down, restarted, with_change, with_status}
use Rattle.vs_machine.specs.Inner.Phases.{PhaseFits}
use Rattle.vs_machine.specs.Whole.{Whole}
use Rattle.vs_machine.proofs.Can.Calls.{can_post, can_begin, can_act, can_end, can_take, can_cut}
use Rattle.vs_machine.proofs.Can.Others.{can_deliver, can_hear, can_close, can_ask, can_condemn, can_wipe, can_forget, can_pin, can_haul, can_plan}
use Rattle.vs_machine.proofs.Can.Sender.{can_start, can_wait, can_freeze, can_chunk, can_seal, can_last, can_abort, can_end_move}
use Rattle.vs_machine.proofs.Can.Stops.{can_stop, can_fault, can_restart, can_restart_line}
use Rattle.vs_machine.proofs.Frame.{put_here, put_there, put_same}
use Rattle.vs_machine.proofs.Leaves.{changed_transfer}
use Rattle.vs_machine.proofs.Possible.{ok_is, wants_none_ok}

-- ---- verdicts

abbrev Grants : Option Status → Bool → Mode → Type 0
Grants e locked mode = verdict_of e locked mode ≡ Granted

-- without the lock a call is granted where it was with it or without it
unlocked : (e : Option Status) (locked : Bool) (mode : Mode) → Grants e locked mode → Grants e false mode
unlocked (Some Active) locked Ro h = refl
unlocked (Some Active) locked Rw h = refl
unlocked (Some Pinned) locked Ro h = refl
unlocked (Some Pinned) locked Rw h = refl
unlocked (Some (Sending d)) locked Ro h = refl
unlocked (Some (Sending d)) locked Rw h = h
unlocked (Some (Receiving d)) locked mode h = h
unlocked (Some (Sent d)) locked mode h = h
unlocked (Some Garbage) locked mode h = h
unlocked None locked mode h = h

-- a read doesn't see the lock, and a write isn't granted under it
any_lock : (e : Option Status) (locked other : Bool) → Grants e locked Ro → Grants e other Ro
any_lock (Some Active) locked other h = refl
any_lock (Some Pinned) locked other h = refl
any_lock (Some (Sending d)) locked other h = refl
any_lock (Some (Receiving d)) locked other h = h
any_lock (Some (Sent d)) locked other h = h
any_lock (Some Garbage) locked other h = h
any_lock None locked other h = h

no_write : (e : Option Status) → Grants e true Rw → ⊥
no_write (Some Active) h = absurd cc
no_write (Some Pinned) h = absurd cc
no_write (Some (Sending d)) h = absurd cc
no_write (Some (Receiving d)) h = absurd cc
no_write (Some (Sent d)) h = absurd cc
no_write (Some Garbage) h = absurd cc
no_write None h = absurd cc

-- where the lock is the same or gone
less_locked : (e : Option Status) (locked other : Bool) (mode : Mode) → (other ≡ true → locked ≡ true) → Grants e locked mode → Grants e other mode
less_locked e locked false mode kept h = unlocked e locked mode h
less_locked e locked true mode kept h = subst (λ (v : Bool). Grants e v mode) (kept refl) h

-- an active and a pinned bucket grant the same
pinned_kept : (e f : Option Status) (locked : Bool) (mode : Mode) → (f ≡ Some Active) ⊎ (f ≡ Some Pinned) → Grants e locked mode → Grants f locked mode
pinned_kept e f locked mode (inl is) h = subst (λ (v : Option Status). Grants v locked mode) (sym is) (by locked mode h)
  where
    by : (locked : Bool) (mode : Mode) → Grants e locked mode → Grants (Some Active) locked mode
    by locked Ro h = refl
    by false Rw h = refl
    by true Rw h = absurd (no_write e h)
pinned_kept e f locked mode (inr is) h = subst (λ (v : Option Status). Grants v locked mode) (sym is) (by locked mode h)
  where
    by : (locked : Bool) (mode : Mode) → Grants e locked mode → Grants (Some Pinned) locked mode
    by locked Ro h = refl
    by false Rw h = refl
    by true Rw h = absurd (no_write e h)

-- a set that takes rows, or the last message, doesn't grant
taken_refused : (e : Option Status) (set_locked : Bool) (n m z : ℕ) (is_last : Bool) (took : Took) (locked : Bool) (mode : Mode) → received e set_locked n m z is_last ≡ Ok took → Grants e locked mode → ⊥
taken_refused None set_locked n m z is_last took locked mode r h = absurd (cc h)
taken_refused (Some (Receiving d)) set_locked n m z is_last took locked mode r h = absurd (cc h)
taken_refused (Some Active) set_locked n m z is_last took locked mode r h = absurd (cc r)
taken_refused (Some Pinned) set_locked n m z is_last took locked mode r h = absurd (cc r)
taken_refused (Some (Sending d)) set_locked n m z is_last took locked mode r h = absurd (cc r)
taken_refused (Some (Sent d)) set_locked n m z is_last took locked mode r h = absurd (cc r)
taken_refused (Some Garbage) set_locked n m z is_last took locked mode r h = absurd (cc r)

-- a set that decides goes on to grant
active_grants : (e remote : Option Status) (live locked : Bool) (mode : Mode) → decision_by e remote live ≡ ToActive → Grants e locked mode → Grants (Some Active) locked mode
active_grants None remote live locked mode d h = absurd (cc h)
active_grants (Some Active) remote live locked mode d h = h
active_grants (Some Pinned) remote live locked mode d h = absurd (cc d)
active_grants (Some (Sending z)) remote live locked Ro d h = refl
active_grants (Some (Sending z)) remote live locked Rw d h = absurd (cc h)
active_grants (Some (Receiving z)) remote live locked mode d h = absurd (cc h)
active_grants (Some (Sent z)) remote live locked mode d h = absurd (cc h)
active_grants (Some Garbage) remote live locked mode d h = absurd (cc h)

never_garbage : (e remote : Option Status) (live locked : Bool) (mode : Mode) → decision_by e remote live ≡ ToGarbage → Grants e locked mode → ⊥
never_garbage None remote live locked mode d h = absurd (cc h)
never_garbage (Some Active) remote live locked mode d h = absurd (cc d)
never_garbage (Some Pinned) remote live locked mode d h = absurd (cc d)
never_garbage (Some (Sending z)) None live locked mode d h = absurd (cc d)
never_garbage (Some (Sending z)) (Some Active) live locked mode d h = absurd (cc d)
never_garbage (Some (Sending z)) (Some Pinned) live locked mode d h = absurd (cc d)
never_garbage (Some (Sending z)) (Some (Sending y)) live locked mode d h = absurd (cc d)
never_garbage (Some (Sending z)) (Some (Receiving y)) live locked mode d h = absurd (cc d)
never_garbage (Some (Sending z)) (Some (Sent y)) live locked mode d h = absurd (cc d)
never_garbage (Some (Sending z)) (Some Garbage) live locked mode d h = absurd (cc d)
never_garbage (Some (Receiving z)) remote live locked mode d h = absurd (cc h)
never_garbage (Some (Sent z)) remote live locked mode d h = absurd (cc h)
never_garbage (Some Garbage) remote live locked mode d h = absurd (cc h)

-- a reply that is heard brings no lock
heard_unlocked : (p : Phase) (n : ℕ) (r : Reply) (more : Bool) → is_draining_in (heard_phase p n r more) ≡ true → is_draining_in p ≡ true
heard_unlocked (phase.Draining m) n r more h = refl
heard_unlocked (phase.Ready k) n r more h = absurd (cc h)
heard_unlocked phase.Copied n r more h = absurd (cc h)
heard_unlocked phase.Sealed n r more h = absurd (cc h)
heard_unlocked (phase.Refused f) n r more h = absurd (cc h)
heard_unlocked phase.Done n r more h = absurd (cc h)
heard_unlocked (phase.Waiting e m k) n r more h = absurd (by (m == n) r more h)
  where
    by : (t : Bool) (r : Reply) (more : Bool) → is_draining_in (if t then replied_phase (phase.Waiting e m k) r more else phase.Waiting e m k) ≡ true → ⊥
    by false r more h = absurd (cc h)
    by true reply.Took true h = absurd (cc h)
    by true reply.Took false h = absurd (cc h)
    by true (reply.Not f) more h = absurd (cc h)
    by true (reply.State st live) more h = absurd (cc h)
heard_unlocked (phase.WaitingLast e m) n r more h = absurd (by (m == n) r more h)
  where
    by : (t : Bool) (r : Reply) (more : Bool) → is_draining_in (if t then replied_phase (phase.WaitingLast e m) r more else phase.WaitingLast e m) ≡ true → ⊥
    by false r more h = absurd (cc h)
    by true reply.Took more h = absurd (cc h)
    by true (reply.Not f) more h = absurd (cc h)
    by true (reply.State st live) more h = absurd (cc h)

heard_by_unlocked : (v : Option Transfer) (rows : RowMap) (y : ℕ) (heard : Heard) → is_draining (heard_by v rows y heard) ≡ true → is_draining v ≡ true
heard_by_unlocked None rows y heard h = absurd (cc h)
heard_by_unlocked (Some t) rows y heard h = by (t.dest == y) h
  where
    by : (k : Bool) → is_draining (Some (if k then in_phase t (heard_phase t.phase heard.sync heard.reply (has_more rows t.phase)) else t)) ≡ true → is_draining_in t.phase ≡ true
    by true h = heard_unlocked t.phase heard.sync heard.reply (has_more rows t.phase) h
    by false h = h

-- ---- one set's cell of one bucket

abbrev Serves : Mode → ℕ → Bucket → Type 0
Serves mode x b = Grants (b.entry x) (is_draining (b.transfer x)) mode

-- a set that is up and serves the calls of a mode goes on to, or the bucket is taken from them
abbrev Keeps : State → Event → (ℕ → Bucket) → Type 0
Keeps s e bs = (b x : ℕ) (mode : Mode) → s.up x ≡ true → Serves mode x (s.bucket b) → Serves mode x (bs b) ⊎ TakesAway s e x b mode

serves_as : (mode : Mode) (x : ℕ) (old new : Bucket) → new.entry x ≡ old.entry x → new.transfer x ≡ old.transfer x → Serves mode x old → Serves mode x new
serves_as mode x old new entry transfer h =
    subst (λ (e : Option Status). Grants e (is_draining (new.transfer x)) mode) (sym entry)
    (subst (λ (v : Option Transfer). Grants (old.entry x) (is_draining v) mode) (sym transfer) h)

-- the cell of set y changes, to entry f and transfer v
module _ (s : State) (e : Event) (q y : ℕ) (new : Bucket) (f : Option Status) (v : Option Transfer) (entry : new.entry ≡ put (s.bucket q).entry y f) (transfer : new.transfer ≡ put (s.bucket q).transfer y v) where
  cell : ((mode : Mode) → s.up y ≡ true → Serves mode y (s.bucket q) → Grants f (is_draining v) mode ⊎ TakesAway s e y q mode) → Keeps s e (put s.bucket q new)
  cell here b x mode up h = by (cases_eq b q) (cases_eq x y)
    where
      changed : Grants f (is_draining v) mode ⊎ TakesAway s e y q mode → Serves mode y new ⊎ TakesAway s e y q mode
      changed (inl g) = inl (subst (λ (u : Option Status). Grants u (is_draining (new.transfer y)) mode) (sym (ap (λ (k : ℕ → Option Status). k y) entry ∙ put_here (s.bucket q).entry y f))
          (subst (λ (u : Option Transfer). Grants f (is_draining u) mode) (sym (ap (λ (k : ℕ → Option Transfer). k y) transfer ∙ put_here (s.bucket q).transfer y v)) g))
      changed (inr g) = inr g

      at_bucket : b ≡ q → Serves mode x new ⊎ TakesAway s e x q mode → Serves mode x (put s.bucket q new b) ⊎ TakesAway s e x b mode
      at_bucket is (inl g) = inl (subst (Serves mode x) (sym (ap (put s.bucket q new) is ∙ put_here s.bucket q new)) g)
      at_bucket is (inr g) = inr (subst (λ (u : ℕ). TakesAway s e x u mode) (sym is) g)

      by : (b ≡ q) ⊎ (b ≢ q) → (x ≡ y) ⊎ (x ≢ y) → Serves mode x (put s.bucket q new b) ⊎ TakesAway s e x b mode
      by (inr ne) at = inl (subst (Serves mode x) (sym (put_there s.bucket q new b ne)) h)
      by (inl is) (inl at) =
          at_bucket is (subst (λ (u : ℕ). Serves mode u new ⊎ TakesAway s e u q mode) (sym at)
          (changed (here mode (subst (λ (u : ℕ). s.up u ≡ true) at up) (subst (λ (u : ℕ). Serves mode u (s.bucket q)) at (subst (λ (u : ℕ). Serves mode x (s.bucket u)) is h)))))
      by (inl is) (inr other) =
          at_bucket is (inl (serves_as mode x (s.bucket q) new (ap (λ (k : ℕ → Option Status). k x) entry ∙ put_there (s.bucket q).entry y f x other)
          (ap (λ (k : ℕ → Option Transfer). k x) transfer ∙ put_there (s.bucket q).transfer y v x other) (subst (λ (u : ℕ). Serves mode x (s.bucket u)) is h)))

-- only a transfer changes
moved_cell : (s : State) (e : Event) (q y : ℕ) (new : Bucket) (v : Option Transfer) → new.entry ≡ (s.bucket q).entry → new.transfer ≡ put (s.bucket q).transfer y v
    → ((mode : Mode) → Serves mode y (s.bucket q) → Grants ((s.bucket q).entry y) (is_draining v) mode ⊎ TakesAway s e y q mode) → Keeps s e (put s.bucket q new)
moved_cell s e q y new v entry transfer here = cell s e q y new ((s.bucket q).entry y) v (entry ∙ sym (put_same (s.bucket q).entry y)) transfer (λ mode up h. here mode h)

-- only an entry changes
entry_cell : (s : State) (e : Event) (q y : ℕ) (new : Bucket) (f : Option Status) → new.entry ≡ put (s.bucket q).entry y f → new.transfer ≡ (s.bucket q).transfer
    → ((mode : Mode) → s.up y ≡ true → Serves mode y (s.bucket q) → Grants f (is_draining ((s.bucket q).transfer y)) mode ⊎ TakesAway s e y q mode) → Keeps s e (put s.bucket q new)
entry_cell s e q y new f entry transfer here = cell s e q y new f ((s.bucket q).transfer y) entry (transfer ∙ sym (put_same (s.bucket q).transfer y)) here

-- neither changes
same_cell : (s : State) (e : Event) (q : ℕ) (new : Bucket) → new.entry ≡ (s.bucket q).entry → new.transfer ≡ (s.bucket q).transfer → Keeps s e (put s.bucket q new)
same_cell s e q new entry transfer = entry_cell s e q 0 new ((s.bucket q).entry 0) (entry ∙ sym (put_same (s.bucket q).entry 0)) transfer (λ mode up h. inl h)

same_buckets : (s : State) (e : Event) → Keeps s e s.bucket
same_buckets s e b x mode up h = inl h

-- ---- each event

module _ (s : State) where
  act_keeps : (c q x : ℕ) (id : CallId) (mode : Mode) (ops : List Op) → Keeps s (Act c) (put s.bucket q (bucket_after (s.bucket q) x id mode ops))
  act_keeps c q x id Ro ops = same_cell s (Act c) q _ refl refl
  act_keeps c q x id Rw ops = same_cell s (Act c) q _ refl refl

  start_keeps : (t : State) (o : ℕ) → step s (Start o) ≡ Ok t → Keeps s (Start o) t.bucket
  start_keeps t o h = let p = can_start s t o h in subst (λ (u : State). Keeps s (Start o) u.bucket) p.gives (by p.m p.named (send_fault s p.m.bucket p.m.from p.m.to) refl)
    where
      by : (m : Move) → move_of (next_command (s.operator o)) ≡ Some m → (f : Option CommandFault) → send_fault s m.bucket m.from m.to ≡ f → Keeps s (Start o) (after_start s o m f).bucket
      by m named (Some f) is = same_buckets s (Start o)
      by m named None is = moved_cell s (Start o) m.bucket m.from _ _ refl refl now
        where
          now : (mode : Mode) → Serves mode m.from (s.bucket m.bucket) → Grants ((s.bucket m.bucket).entry m.from) true mode ⊎ TakesAway s (Start o) m.from m.bucket mode
          now Ro g = inl (any_lock ((s.bucket m.bucket).entry m.from) (is_draining ((s.bucket m.bucket).transfer m.from)) true g)
          now Rw g = inr (m.to, named, is)

  haul_keeps : (t : State) (o y d : ℕ) → step s (Haul o y d) ≡ Ok t → Keeps s (Haul o y d) t.bucket
  haul_keeps t o y d h = let p = can_haul s t o y d h in subst (λ (u : State). Keeps s (Haul o y d) u.bucket) p.gives (by (bucket_to_haul s y d) refl)
    where
      by : (v : Option ℕ) → bucket_to_haul s y d ≡ v → Keeps s (Haul o y d) (after_haul s o y d v).bucket
      by None is = same_buckets s (Haul o y d)
      by (Some b) is = moved_cell s (Haul o y d) b y _ _ refl refl now
        where
          now : (mode : Mode) → Serves mode y (s.bucket b) → Grants ((s.bucket b).entry y) true mode ⊎ TakesAway s (Haul o y d) y b mode
          now Ro g = inl (any_lock ((s.bucket b).entry y) (is_draining ((s.bucket b).transfer y)) true g)
          now Rw g = inr (refl, is)

  -- a transfer that doesn't drain then
  freed : (e : Event) (q y : ℕ) (new : Bucket) (v : Option Transfer) → new.entry ≡ (s.bucket q).entry → new.transfer ≡ put (s.bucket q).transfer y v → (is_draining v ≡ true → is_draining ((s.bucket q).transfer y) ≡ true) → Keeps s e (put s.bucket q new)
  freed e q y new v entry transfer less = moved_cell s e q y new v entry transfer
      (λ mode g. inl (less_locked ((s.bucket q).entry y) (is_draining ((s.bucket q).transfer y)) (is_draining v) mode less g))

  freeze_keeps : (t : State) (y b : ℕ) → step s (Freeze y b) ≡ Ok t → Keeps s (Freeze y b) t.bucket
  freeze_keeps t y b h = let p = can_freeze s t y b h in subst (λ (u : State). Keeps s (Freeze y b) u.bucket) p.gives
      (cell s (Freeze y b) b y _ _ _ refl refl (now p.u (ap is_draining p.there ∙ ap is_draining_in p.draining)))
    where
      now : (v : Transfer) → is_draining ((s.bucket b).transfer y) ≡ true → (mode : Mode) → s.up y ≡ true → Serves mode y (s.bucket b) → Grants (Some (Sending v.dest)) false mode ⊎ TakesAway s (Freeze y b) y b mode
      now v locked Ro up g = inl refl
      now v locked Rw up g = absurd (no_write ((s.bucket b).entry y) (subst (λ (l : Bool). Grants ((s.bucket b).entry y) l Rw) locked g))

  seal_keeps : (own : ℕ → ℕ) (t : State) (y b : ℕ) → Whole own s → step s (Seal y b) ≡ Ok t → Keeps s (Seal y b) t.bucket
  seal_keeps own t y b w h = let p = can_seal s t y b h in subst (λ (u : State). Keeps s (Seal y b) u.bucket) p.gives
      (cell s (Seal y b) b y _ _ _ refl refl (now p.u (subst (PhaseFits p.u.dest ((s.bucket b).entry y)) p.copied ((w.inner.buckets b).transfers y p.u p.there).phase)))
    where
      now : (u : Transfer) → (s.bucket b).entry y ≡ Some (Sending u.dest) → (mode : Mode) → s.up y ≡ true → Serves mode y (s.bucket b) → Grants (Some (Sent u.dest)) false mode ⊎ TakesAway s (Seal y b) y b mode
      now u is Ro up g = inr (refl, refl)
      now u is Rw up g = absurd (cc (subst (λ (e : Option Status). Grants e (is_draining ((s.bucket b).transfer y)) Rw) is g))

  deliver_keeps : (t : State) (z y : ℕ) → step s (Deliver z y) ≡ Ok t → Keeps s (Deliver z y) t.bucket
  deliver_keeps t z y h = let p = can_deliver s t z y h in subst (λ (u : State). Keeps s (Deliver z y) u.bucket) p.gives (by p.sent p.sent.message refl)
    where
      chunk : (q : ℕ) (page : RowMap) (r : Result Took RecvFault) → received_at s z y q false ≡ r → Keeps s (Deliver z y) (put s.bucket q (bucket_taking (s.bucket q) z y (link.Chunk q page) r))
      chunk q page (Ok took) is = entry_cell s (Deliver z y) q y _ (Some (Receiving z)) refl refl (λ mode up g. absurd (taken_refused ((s.bucket q).entry y) _ _ _ z false took (is_draining ((s.bucket q).transfer y)) mode is g))
      chunk q page (Err fault) is = same_cell s (Deliver z y) q _ refl refl

      last : (q : ℕ) (r : Result Took RecvFault) → received_at s z y q true ≡ r → Keeps s (Deliver z y) (put s.bucket q (bucket_taking (s.bucket q) z y (link.Last q) r))
      last q (Ok took) is = entry_cell s (Deliver z y) q y _ (Some Active) refl refl (λ mode up g. absurd (taken_refused ((s.bucket q).entry y) _ _ _ z true took (is_draining ((s.bucket q).transfer y)) mode is g))
      last q (Err fault) is = same_cell s (Deliver z y) q _ refl refl

      by : (m : link.Sent) (v : link.Message) → m.message ≡ v → Keeps s (Deliver z y) (after_deliver s z y m v).bucket
      by m (link.Chunk b page) is = subst (λ (w : link.Message). Keeps s (Deliver z y) (put s.bucket (link.bucket_of w) (bucket_taking (s.bucket (link.bucket_of w)) z y w (received_at s z y b false)))) (sym is)
          (chunk b page (received_at s z y b false) refl)
      by m (link.Last b) is = subst (λ (w : link.Message). Keeps s (Deliver z y) (put s.bucket (link.bucket_of w) (bucket_taking (s.bucket (link.bucket_of w)) z y w (received_at s z y b true)))) (sym is)
          (last b (received_at s z y b true) refl)
      by m (link.Stat b) is = same_buckets s (Deliver z y)

  hear_keeps : (t : State) (y z : ℕ) → step s (Hear y z) ≡ Ok t → Keeps s (Hear y z) t.bucket
  hear_keeps t y z h = let p = can_hear s t y z h in subst (λ (u : State). Keeps s (Hear y z) u.bucket) p.gives (by p.heard p.heard.reply refl)
    where
      decides : (q : ℕ) (d : Decision) (remote : Option Status) (live : Bool) → decision_by ((s.bucket q).entry y) remote live ≡ d → Keeps s (Hear y z) (put s.bucket q (decided (s.bucket q) y d))
      decides q Stay remote live is = same_cell s (Hear y z) q _ refl refl
      decides q ToActive remote live is = entry_cell s (Hear y z) q y _ (Some Active) refl refl (λ mode up g. inl (active_grants ((s.bucket q).entry y) remote live (is_draining ((s.bucket q).transfer y)) mode is g))
      decides q ToGarbage remote live is = entry_cell s (Hear y z) q y _ (Some Garbage) refl refl (λ mode up g. absurd (never_garbage ((s.bucket q).entry y) remote live (is_draining ((s.bucket q).transfer y)) mode is g))

      state : (q n : ℕ) (remote : Option Status) (live k : Bool) → Keeps s (Hear y z) (put s.bucket q (if k then decided (s.bucket q) y (decision_by ((s.bucket q).entry y) remote live) else s.bucket q))
      state q n remote live true = decides q (decision_by ((s.bucket q).entry y) remote live) remote live refl
      state q n remote live false = same_cell s (Hear y z) q (s.bucket q) refl refl

      other : (m : Heard) → Keeps s (Hear y z) (put s.bucket m.bucket (record (s.bucket m.bucket) { transfer = put (s.bucket m.bucket).transfer y (heard_by ((s.bucket m.bucket).transfer y) ((s.bucket m.bucket).rows y) z m) }))
      other m = freed (Hear y z) m.bucket y _ _ refl refl (heard_by_unlocked ((s.bucket m.bucket).transfer y) ((s.bucket m.bucket).rows y) z m)

      by : (m : Heard) (r : Reply) → m.reply ≡ r → Keeps s (Hear y z) (put s.bucket m.bucket (bucket_hearing (s.bucket m.bucket) (s.link y z).epoch y z m r))
      by m reply.Took is = other m
      by m (reply.Not f) is = other m
      by m (reply.State remote live) is = state m.bucket m.sync remote live (counts_at (s.bucket m.bucket) (s.link y z).epoch y z m.sync)

  some_is : (p q : Pinning) → Some q ≡ Some p → q ≡ p
  some_is p q e = cc

  pin_keeps : (t : State) (o : ℕ) → step s (Pin o) ≡ Ok t → Keeps s (Pin o) t.bucket
  pin_keeps t o h = let p = can_pin s t o h in subst (λ (u : State). Keeps s (Pin o) u.bucket) p.gives (by p.p (pinning_of (next_command (s.operator o))) p.named (pinning_fault s p.p p.p.status) (serving (next_command (s.operator o)) p.p p.named))
    where
      serving : (k : Option Command) (q : Pinning) → pinning_of k ≡ Some q → (Some q.status ≡ Some Active) ⊎ (Some q.status ≡ Some Pinned)
      serving None q is = absurd (cc is)
      serving (Some (command.Pin b x)) q is = inr (ap (λ (v : Pinning). Some v.status) (some_is _ q (sym is)))
      serving (Some (command.Unpin b x)) q is = inl (ap (λ (v : Pinning). Some v.status) (some_is _ q (sym is)))
      serving (Some other) q is = absurd (cc is)

      by : (q : Pinning) (v : Option Pinning) → v ≡ Some q → (f : Option CommandFault) → (Some q.status ≡ Some Active) ⊎ (Some q.status ≡ Some Pinned) → Keeps s (Pin o) (after_pin s o q f).bucket
      by q v is (Some f) serves = same_buckets s (Pin o)
      by q v is None serves = entry_cell s (Pin o) q.bucket q.at _ (Some q.status) refl refl (λ mode up g. inl (pinned_kept ((s.bucket q.bucket).entry q.at) (Some q.status) (is_draining ((s.bucket q.bucket).transfer q.at)) mode serves g))

  cut_keeps : (t : State) (o : ℕ) → step s (Cut o) ≡ Ok t → Keeps s (Cut o) t.bucket
  cut_keeps t o h = let p = can_cut s t o h in subst (λ (u : State). Keeps s (Cut o) u.bucket) p.gives (by p.c p.n (is_answered (s.client p.c) p.n))
    where
      by : (d n : ℕ) (late : Bool) → Keeps s (Cut o) (if late then put_operator s o (answer (s.operator o) Late) else put_operator (put_client s d (with_progress (s.client d) (cut (s.client d).present))) o (answer (s.operator o) Done)).bucket
      by d n true = same_buckets s (Cut o)
      by d n false = same_buckets s (Cut o)

  plan_keeps : (t : State) (o : ℕ) → step s (Plan o) ≡ Ok t → Keeps s (Plan o) t.bucket
  plan_keeps t o h = by (least_to (λ x. not (s.up x)) (sets_of s)) (can_plan s t o h).gives
    where
      by : (down : Option ℕ) → plan_round s o down ≡ Ok t → Keeps s (Plan o) t.bucket
      by (Some x) g = subst (λ (u : State). Keeps s (Plan o) u.bucket) (ok_is _ t g) (same_buckets s (Plan o))
      by None g = let k = wants_none_ok (least_to (is_in_move s) s.config.bucket_count) reason.Moving _ t g in subst (λ (u : State). Keeps s (Plan o) u.bucket) (ok_is _ t k.1) (same_buckets s (Plan o))

  -- ---- a set goes down, and comes up again

  down_keeps : (e : Event) (y : ℕ) → Keeps s e (gone_down s y).bucket
  down_keeps e y b x mode up h = inl (by (cases_eq x y))
    where
      by : (x ≡ y) ⊎ (x ≢ y) → Grants ((s.bucket b).entry x) (is_draining (put (s.bucket b).transfer y None x)) mode
      by (inl is) = less_locked ((s.bucket b).entry x) (is_draining ((s.bucket b).transfer x)) _ mode
          (λ k. absurd (cc (sym (ap is_draining (ap (put (s.bucket b).transfer y None) is ∙ put_here (s.bucket b).transfer y None)) ∙ k))) h
      by (inr ne) = subst (λ (v : Option Transfer). Grants ((s.bucket b).entry x) (is_draining v) mode) (sym (put_there (s.bucket b).transfer y None x ne)) h

  stop_keeps : (t : State) (o : ℕ) → step s (Stop o) ≡ Ok t → Keeps s (Stop o) t.bucket
  stop_keeps t o h = let p = can_stop s t o h in subst (λ (u : State). Keeps s (Stop o) u.bucket) p.gives (by p.x (s.up p.x))
    where
      by : (x : ℕ) (up : Bool) → Keeps s (Stop o) (if up then put_operator (gone_down s x) o (answer (s.operator o) Done) else put_operator s o (answer (s.operator o) WasDown)).bucket
      by x true = down_keeps (Stop o) x
      by x false = same_buckets s (Stop o)

  status_entry : (b : Bucket) (y : ℕ) (st : Status) (x : ℕ) → x ≢ y → (with_status b y st).entry x ≡ b.entry x
  status_entry b y Active x ne = put_there b.entry y _ x ne
  status_entry b y Pinned x ne = put_there b.entry y _ x ne
  status_entry b y (Sending d) x ne = put_there b.entry y _ x ne
  status_entry b y (Receiving d) x ne = put_there b.entry y _ x ne
  status_entry b y (Sent d) x ne = put_there b.entry y _ x ne
  status_entry b y Garbage x ne = put_there b.entry y _ x ne

  changed_entry : (b : Bucket) (y : ℕ) (change : Change) (x : ℕ) → x ≢ y → (with_change b y change).entry x ≡ b.entry x
  changed_entry b y (changes.SetStatus q st) x ne = status_entry b y st x ne
  changed_entry b y (changes.AddRows q z page) x ne = put_there b.entry y _ x ne
  changed_entry b y (changes.Write id q ops) x ne = refl
  changed_entry b y (changes.Wipe q n) x ne = refl
  changed_entry b y (changes.Forget q) x ne = put_there b.entry y _ x ne

  -- a change takes effect at a set that is down
  kept_keeps : (e : Event) (y : ℕ) (change : Change) → s.up y ≡ false → Keeps s e (restarted s y true (Some change)).bucket
  kept_keeps e y change down b x mode up h = inl (by (cases_eq b (bucket_of change)))
    where
      other : x ≢ y
      other same = absurd (cc (sym up ∙ ap s.up same ∙ down))

      by : (b ≡ bucket_of change) ⊎ (b ≢ bucket_of change) → Serves mode x (put s.bucket (bucket_of change) (with_change (s.bucket (bucket_of change)) y change) b)
      by (inr ne) = subst (Serves mode x) (sym (put_there s.bucket (bucket_of change) _ b ne)) h
      by (inl is) = subst (Serves mode x) (sym (ap (put s.bucket (bucket_of change) (with_change (s.bucket (bucket_of change)) y change)) is ∙ put_here s.bucket (bucket_of change) _))
          (serves_as mode x (s.bucket (bucket_of change)) (with_change (s.bucket (bucket_of change)) y change) (changed_entry (s.bucket (bucket_of change)) y change x other)
          (ap (λ (k : ℕ → Option Transfer). k x) (changed_transfer (s.bucket (bucket_of change)) y change)) (subst (λ (u : ℕ). Serves mode x (s.bucket u)) is h))

  restarted_keeps : (e : Event) (y : ℕ) (kept : Bool) (pending : Option Change) → s.up y ≡ false → Keeps s e (restarted s y kept pending).bucket
  restarted_keeps e y false (Some change) down = same_buckets s e
  restarted_keeps e y false None down = same_buckets s e
  restarted_keeps e y true None down = same_buckets s e
  restarted_keeps e y true (Some change) down = kept_keeps e y change down

  restart_keeps : (t : State) (y : ℕ) (kept : Bool) (by : RestartBy) → step s (Restart y kept by) ≡ Ok t → Keeps s (Restart y kept by) t.bucket
  restart_keeps t y kept Service h = let p = can_restart s t y kept h in subst (λ (u : State). Keeps s (Restart y kept Service) u.bucket) p.gives (restarted_keeps (Restart y kept Service) y kept (s.pending y) p.x_down)
  restart_keeps t y kept (Line o) h = let p = can_restart_line s t y o kept h in subst (λ (u : State). Keeps s (Restart y kept (Line o)) u.bucket) p.gives (by (s.up y) refl)
    where
      by : (u : Bool) → s.up y ≡ u → Keeps s (Restart y kept (Line o)) (if u then put_operator s o (answer (s.operator o) WasUp) else put_operator (restarted s y kept (s.pending y)) o (answer (s.operator o) Done)).bucket
      by true is = same_buckets s (Restart y kept (Line o))
      by false is = restarted_keeps (Restart y kept (Line o)) y kept (s.pending y) is

  collected : (e : Event) (q y : ℕ) (new : Bucket) (f : Option Status) → new.entry ≡ put (s.bucket q).entry y f → new.transfer ≡ (s.bucket q).transfer → ((mode : Mode) → Serves mode y (s.bucket q) → ⊥) → Keeps s e (put s.bucket q new)
  collected e q y new f entry transfer never = entry_cell s e q y new f entry transfer (λ mode up g. absurd (never mode g))

  pub keeps : (own : ℕ → ℕ) (t : State) (e : Event) → Whole own s → step s e ≡ Ok t → Keeps s e t.bucket
  keeps own t (Post c x) w h = subst (λ (u : State). Keeps s (Post c x) u.bucket) (can_post s t c x h).gives (same_buckets s (Post c x))
  keeps own t (Begin c) w h = subst (λ (u : State). Keeps s (Begin c) u.bucket) (can_begin s t c h).gives (same_buckets s (Begin c))
  keeps own t (Act c) w h = let p = can_act s t c h in subst (λ (u : State). Keeps s (Act c) u.bucket) p.gives (act_keeps c p.k.bucket p.x _ p.k.mode p.k.ops)
  keeps own t (End c) w h = subst (λ (u : State). Keeps s (End c) u.bucket) (can_end s t c h).gives (same_buckets s (End c))
  keeps own t (Take c) w h = subst (λ (u : State). Keeps s (Take c) u.bucket) (can_take s t c h).gives (same_buckets s (Take c))
  keeps own t (Cut o) w h = cut_keeps t o h
  keeps own t (Start o) w h = start_keeps t o h
  keeps own t (Haul o y d) w h = haul_keeps t o y d h
  keeps own t (NotYet y b) w h = let p = can_wait s t y b h in subst (λ (u : State). Keeps s (NotYet y b) u.bucket) p.gives
      (freed (NotYet y b) b y _ _ refl refl (λ k. ap is_draining p.there ∙ ap is_draining_in p.draining))
  keeps own t (Freeze y b) w h = freeze_keeps t y b h
  keeps own t (Chunk y b) w h = subst (λ (u : State). Keeps s (Chunk y b) u.bucket) (can_chunk s t y b h).gives (freed (Chunk y b) b y _ _ refl refl (λ k. absurd (cc k)))
  keeps own t (Seal y b) w h = seal_keeps own t y b w h
  keeps own t (Last y b) w h = subst (λ (u : State). Keeps s (Last y b) u.bucket) (can_last s t y b h).gives (freed (Last y b) b y _ _ refl refl (λ k. absurd (cc k)))
  keeps own t (Abort y b) w h = subst (λ (u : State). Keeps s (Abort y b) u.bucket) (can_abort s t y b h).gives (freed (Abort y b) b y _ _ refl refl (λ k. absurd (cc k)))
  keeps own t (EndMove y b) w h = subst (λ (u : State). Keeps s (EndMove y b) u.bucket) (can_end_move s t y b h).gives (freed (EndMove y b) b y _ _ refl refl (λ k. absurd (cc k)))
  keeps own t (Deliver z y) w h = deliver_keeps t z y h
  keeps own t (Hear y z) w h = hear_keeps t y z h
  keeps own t (Close o) w h = subst (λ (u : State). Keeps s (Close o) u.bucket) (can_close s t o h).gives (same_buckets s (Close o))
  keeps own t (Ask y b) w h = subst (λ (u : State). Keeps s (Ask y b) u.bucket) (can_ask s t y b h).gives (same_cell s (Ask y b) b _ refl refl)
  keeps own t (Condemn y b) w h = let p = can_condemn s t y b h in subst (λ (u : State). Keeps s (Condemn y b) u.bucket) p.gives
      (collected (Condemn y b) b y _ _ refl refl (λ mode g. absurd (cc (subst (λ (e : Option Status). Grants e (is_draining ((s.bucket b).transfer y)) mode) p.sent g))))
  keeps own t (Wipe y b) w h = subst (λ (u : State). Keeps s (Wipe y b) u.bucket) (can_wipe s t y b h).gives (same_cell s (Wipe y b) b _ refl refl)
  keeps own t (Forget y b) w h = let p = can_forget s t y b h in subst (λ (u : State). Keeps s (Forget y b) u.bucket) p.gives
      (collected (Forget y b) b y _ _ refl refl (λ mode g. absurd (cc (subst (λ (e : Option Status). Grants e (is_draining ((s.bucket b).transfer y)) mode) p.garbage g))))
  keeps own t (Pin o) w h = pin_keeps t o h
  keeps own t (Plan o) w h = plan_keeps t o h
  keeps own t (Stop o) w h = stop_keeps t o h
  keeps own t (Fault y n r) w h = subst (λ (u : State). Keeps s (Fault y n r) u.bucket) (can_fault s t y n r h).gives (down_keeps (Fault y n r) y)
  keeps own t (Restart y kept by) w h = restart_keeps t y kept by h

-- a set that would grant a call, and stays up, goes on to, or the bucket is taken from such calls
pub granted_on : (own : ℕ → ℕ) (s t : State) (e : Event) (x : ℕ) (k : Call) → Whole own s → step s e ≡ Ok t → t.up x ≡ true → verdict_at s x k ≡ Granted → (verdict_at t x k ≡ Granted) ⊎ TakesAway s e x k.bucket k.mode
granted_on own s t e x k w h up grants = by (s.up x) refl grants
  where
    now : Serves k.mode x (t.bucket k.bucket) ⊎ TakesAway s e x k.bucket k.mode → (verdict_at t x k ≡ Granted) ⊎ TakesAway s e x k.bucket k.mode
    now (inl g) = inl (ap (λ (u : Bool). if u then verdict_of ((t.bucket k.bucket).entry x) (is_draining ((t.bucket k.bucket).transfer x)) k.mode else Refused cause.Down) up ∙ g)
    now (inr g) = inr g

    by : (u : Bool) → s.up x ≡ u → (if u then verdict_of ((s.bucket k.bucket).entry x) (is_draining ((s.bucket k.bucket).transfer x)) k.mode else Refused cause.Down) ≡ Granted → (verdict_at t x k ≡ Granted) ⊎ TakesAway s e x k.bucket k.mode
    by true is g = now (keeps s own t e w h k.bucket x k.mode is g)
    by false is g = absurd (cc g)

pub granted_up : (s : State) (x : ℕ) (k : Call) → verdict_at s x k ≡ Granted → s.up x ≡ true
granted_up s x k grants = by (s.up x) refl grants
  where
    by : (u : Bool) → s.up x ≡ u → (if u then verdict_of ((s.bucket k.bucket).entry x) (is_draining ((s.bucket k.bucket).transfer x)) k.mode else Refused cause.Down) ≡ Granted → s.up x ≡ true
    by true is g = is
    by false is g = absurd (cc g)
