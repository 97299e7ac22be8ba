-- Each event does to the journals, and to what is pending, what its written change says.
use Rattle.std.proofs.Common.{◌≡◌, ℕ, Bool, true, false, refl, sym, ap, subst, ◌∙◌, Option, Some, None, Ok, inl, inr}
use Rattle.std.specs.Prelude.{◌≢◌, not, if◌then◌else◌}
use Rattle.std.specs.Option.{option_and_then, option_map}
use Rattle.vs_calls.specs.Progress.{cut}
use Rattle.vs_event.specs.declared.event.Event.{Event}
use Rattle.vs_event.specs.declared.event.Event.TheVariants.{Post, Begin, Act, End, Take, Cut, Start, Haul, NotYet, Freeze, Chunk, Seal, Last, Abort, EndMove, Deliver, Hear, Close, Ask, Condemn, Wipe, Forget, Pin, Plan, Stop, Fault, Restart}
use Rattle.vs_event.specs.declared.event.Recorded.{Recorded}
use Rattle.vs_event.specs.declared.event.Recorded.TheVariants as recorded
use Rattle.vs_event.specs.declared.event.RestartBy.{RestartBy}
use Rattle.vs_event.specs.declared.event.RestartBy.TheVariants.{Line, Service}
use Rattle.vs_event.specs.declared.reason.Reason.TheVariants as reason
use Rattle.vs_link.specs.Connection.{Message, Chunk, Last, Stat}
use Rattle.vs_link.specs.Connection as link
use Rattle.vs_record.specs.Change.{Change, bucket_of}
use Rattle.vs_record.specs.Change as changes
use Rattle.vs_record.specs.Durable.{Durable, applied}
use Rattle.vs_machine.specs.declared.outcome.CommandFault.{CommandFault}
use Rattle.vs_machine.specs.declared.outcome.CommandOutcome.TheVariants.{Done, Late, WasDown, WasUp}
use Rattle.vs_machine.specs.Inner.Down.{IsUp, PendingFits}
use Rattle.vs_machine.specs.Inputs.{HasInputs, HasFew}
use Rattle.vs_machine.specs.Journals.{durable_in, durable_of, written, pending_after, MayWrite, WritesAt, AreWritten, FitsSet, LeavesSet, KeepsJournals}
use Rattle.vs_machine.specs.Kinds.Calls.{cut_call, is_answered}
use Rattle.vs_machine.specs.Kinds.Connections.{after_deliver}
use Rattle.vs_machine.specs.Kinds.Faults.{send_fault}
use Rattle.vs_machine.specs.Kinds.Pinning.{Pinning, pinning_fault, after_pin}
use Rattle.vs_machine.specs.Kinds.Rebalancing.{haul, after_haul, bucket_to_haul, plan, plan_round, is_in_move}
use Rattle.vs_machine.specs.Kinds.Sender.{Move, start, after_start}
use Rattle.vs_machine.specs.Kinds.Stops.{Recording, recording, recording_of, recorded_step, pending_at, gone_down, stop, fault, restart, restarted}
use Rattle.vs_machine.specs.State.{State, sets_of, answer, put_client, put_operator, with_progress}
use Rattle.vs_machine.specs.Step.{step}
use Rattle.vs_machine.specs.Tables.{put, least_to}
use Rattle.vs_machine.specs.Whole.{Whole}
use Rattle.vs_machine.proofs.Can.Calls.{can_post, can_begin, can_act, can_end, can_take, can_cut}
use Rattle.vs_machine.proofs.Can.Others.{can_deliver, can_hear, can_close, can_ask, can_condemn, can_wipe, can_forget, can_pin, can_haul, can_plan}
use Rattle.vs_machine.proofs.Can.Sender.{can_start, can_wait, can_freeze, can_chunk, can_seal, can_last, can_abort, can_end_move}
use Rattle.vs_machine.proofs.Can.Stops.{can_stop, can_fault, can_restart, can_restart_line}
use Rattle.vs_machine.proofs.Frame.{put_here, put_there, put_same, put_split}
use Rattle.vs_machine.proofs.Pends.Recording.{recorded_fits}
use Rattle.vs_machine.proofs.Possible.{ok_is, wants_none_ok}
use Rattle.vs_machine.proofs.Recorded.Durables.{unwritten, change_written}
use Rattle.vs_machine.proofs.Recorded.Fitting.{may_write}
use Rattle.vs_machine.proofs.Recorded.Kinds.{IsWipe, IsCounted, IsMade, Makes, made_written, recorded_makes}

-- ---- kinds that write nothing

-- the sets have what they had, and the same is pending
record IsUnwritten (s t : State) : Type 0 where
  same : (x : ℕ) → durable_in t.bucket x ≡ durable_in s.bucket x
  pending : t.pending ≡ s.pending

cut_unwritten : (s t : State) (o : ℕ) → cut_call s o ≡ Ok t → IsUnwritten s t
cut_unwritten s t o h = let p = can_cut s t o h in subst (IsUnwritten s) p.gives (by p.c (is_answered (s.client p.c) p.n))
  where
    by : (c : ℕ) (late : Bool) → IsUnwritten s (if late then put_operator s o (answer (s.operator o) Late) else put_operator (put_client s c (with_progress (s.client c) (cut (s.client c).present))) o (answer (s.operator o) Done))
    by c true = record { same = λ x. refl; pending = refl }
    by c false = record { same = λ x. refl; pending = refl }

start_unwritten : (s t : State) (o : ℕ) → start s o ≡ Ok t → IsUnwritten s t
start_unwritten s t o h = let p = can_start s t o h in subst (IsUnwritten s) p.gives (by p.m (send_fault s p.m.bucket p.m.from p.m.to))
  where
    by : (m : Move) (f : Option CommandFault) → IsUnwritten s (after_start s o m f)
    by m (Some f) = record { same = λ x. refl; pending = refl }
    by m None = record { same = unwritten s.bucket m.bucket _ refl refl; pending = refl }

haul_unwritten : (s t : State) (o x d : ℕ) → haul s o x d ≡ Ok t → IsUnwritten s t
haul_unwritten s t o x d h = subst (IsUnwritten s) (can_haul s t o x d h).gives (by (bucket_to_haul s x d))
  where
    by : (v : Option ℕ) → IsUnwritten s (after_haul s o x d v)
    by None = record { same = λ x. refl; pending = refl }
    by (Some b) = record { same = unwritten s.bucket b _ refl refl; pending = refl }

plan_unwritten : (s t : State) (o : ℕ) → plan s o ≡ Ok t → IsUnwritten s t
plan_unwritten s t o h = by (least_to (λ x. not (s.up x)) (sets_of s)) (can_plan s t o h).gives
  where
    by : (down : Option ℕ) → plan_round s o down ≡ Ok t → IsUnwritten s t
    by (Some x) g = subst (IsUnwritten s) (ok_is _ t g) (record { same = λ x. refl; pending = refl })
    by None g = let k = wants_none_ok (least_to (is_in_move s) s.config.bucket_count) reason.Moving _ t g in subst (IsUnwritten s) (ok_is _ t k.1) (record { same = λ x. refl; pending = refl })

stop_unwritten : (s t : State) (o : ℕ) → stop s o ≡ Ok t → IsUnwritten s t
stop_unwritten s t o h = let p = can_stop s t o h in subst (IsUnwritten s) p.gives (by p.x (s.up p.x))
  where
    by : (x : ℕ) (up : Bool) → IsUnwritten s (if up then put_operator (gone_down s x) o (answer (s.operator o) Done) else put_operator s o (answer (s.operator o) WasDown))
    by x true = record { same = λ x. refl; pending = refl }
    by x false = record { same = λ x. refl; pending = refl }

-- ---- a restart

module _ (s : State) (x : ℕ) where
  kept_written : (pending : Option Change) → AreWritten s.bucket (restarted s x true pending).bucket (option_and_then (recording x) pending)
  kept_written None = λ z. refl
  kept_written (Some c) = change_written s.bucket x c

  bare_written : (pending : Option Change) → AreWritten s.bucket (restarted s x false pending).bucket None
  bare_written None = λ z. refl
  bare_written (Some c) = λ z. refl

  restarted_pending : (kept : Bool) (pending : Option Change) → (restarted s x kept pending).pending ≡ put s.pending x None
  restarted_pending true None = refl
  restarted_pending true (Some c) = refl
  restarted_pending false None = refl
  restarted_pending false (Some c) = refl

  restarted_up : (kept : Bool) (pending : Option Change) → (restarted s x kept pending).up x ≡ true
  restarted_up true None = put_here s.up x true
  restarted_up true (Some c) = put_here s.up x true
  restarted_up false None = put_here s.up x true
  restarted_up false (Some c) = put_here s.up x true

restart_written : (s t : State) (x : ℕ) (kept : Bool) (by : RestartBy) → restart s x kept by ≡ Ok t → AreWritten s.bucket t.bucket (written s (Restart x kept by))
restart_written s t x true Service h =
    let p = can_restart s t x true h in
    subst (λ (v : State). AreWritten s.bucket v.bucket (option_and_then (recording x) (pending_at s x))) p.gives
    (subst (λ q. AreWritten s.bucket (restarted s x true (s.pending x)).bucket (option_and_then (recording x) (if q then None else s.pending x))) (sym p.x_down) (kept_written s x (s.pending x)))
restart_written s t x true (Line o) h =
    subst (λ (v : State). AreWritten s.bucket v.bucket (option_and_then (recording x) (pending_at s x))) (can_restart_line s t x o true h).gives (by (s.up x))
  where
    by : (q : Bool) → AreWritten s.bucket (if q then put_operator s o (answer (s.operator o) WasUp) else put_operator (restarted s x true (s.pending x)) o (answer (s.operator o) Done)).bucket (option_and_then (recording x) (if q then None else s.pending x))
    by true = λ z. refl
    by false = kept_written s x (s.pending x)
restart_written s t x false Service h = let p = can_restart s t x false h in subst (λ (v : State). AreWritten s.bucket v.bucket None) p.gives (bare_written s x (s.pending x))
restart_written s t x false (Line o) h = subst (λ (v : State). AreWritten s.bucket v.bucket None) (can_restart_line s t x o false h).gives (by (s.up x))
  where
    by : (q : Bool) → AreWritten s.bucket (if q then put_operator s o (answer (s.operator o) WasUp) else put_operator (restarted s x false (s.pending x)) o (answer (s.operator o) Done)).bucket None
    by true = λ z. refl
    by false = bare_written s x (s.pending x)

-- nothing is pending at a set that is up
none_up : (own : ℕ → ℕ) (s : State) (x : ℕ) → PendingFits own s → IsUp s x → s.pending x ≡ None
none_up own s x p up = by (s.pending x) refl
  where
    by : (c : Option Change) → s.pending x ≡ c → s.pending x ≡ None
    by None is = is
    by (Some c) is = absurd (cc ((p x c is).0, up))

restart_pending : (own : ℕ → ℕ) (s t : State) (x : ℕ) (kept : Bool) (by : RestartBy) → PendingFits own s → restart s x kept by ≡ Ok t → t.pending ≡ put s.pending x None
restart_pending own s t x kept Service p h = subst (λ (v : State). v.pending ≡ put s.pending x None) (can_restart s t x kept h).gives (restarted_pending s x kept (s.pending x))
restart_pending own s t x kept (Line o) p h = subst (λ (v : State). v.pending ≡ put s.pending x None) (can_restart_line s t x o kept h).gives (by (s.up x) refl)
  where
    by : (q : Bool) → s.up x ≡ q → (if q then put_operator s o (answer (s.operator o) WasUp) else put_operator (restarted s x kept (s.pending x)) o (answer (s.operator o) Done)).pending ≡ put s.pending x None
    by true is = subst (λ v. s.pending ≡ put s.pending x v) (none_up own s x p is) (sym (put_same s.pending x))
    by false is = restarted_pending s x kept (s.pending x)

restart_up : (s t : State) (x : ℕ) (kept : Bool) (by : RestartBy) → restart s x kept by ≡ Ok t → IsUp t x
restart_up s t x kept Service h = subst (λ (v : State). IsUp v x) (can_restart s t x kept h).gives (restarted_up s x kept (s.pending x))
restart_up s t x kept (Line o) h = subst (λ (v : State). IsUp v x) (can_restart_line s t x o kept h).gives (by (s.up x) refl)
  where
    by : (q : Bool) → s.up x ≡ q → (if q then put_operator s o (answer (s.operator o) WasUp) else put_operator (restarted s x kept (s.pending x)) o (answer (s.operator o) Done)).up x ≡ true
    by true is = is
    by false is = restarted_up s x kept (s.pending x)

-- a restart that writes is kept, of a set that is down with that change
restart_at : (s : State) (x : ℕ) (r : Recording) → option_and_then (recording x) (pending_at s x) ≡ Some r → (r.at ≡ x) × (s.up x ≡ false) × (s.pending x ≡ Some r.change)
restart_at s x r e = by (s.up x) (s.pending x) refl refl e
  where
    by : (q : Bool) (c : Option Change) → s.up x ≡ q → s.pending x ≡ c → option_and_then (recording x) (if q then None else c) ≡ Some r → (r.at ≡ x) × (s.up x ≡ false) × (s.pending x ≡ Some r.change)
    by true c up is e = absurd cc
    by false None up is e = absurd cc
    by false (Some c) up is e =
        let same : (let w : Recording = record { at = x; change = c } in w) ≡ r = cc in
        (ap (λ (v : Recording). v.at) (sym same), up, is ∙ ap (λ (v : Recording). Some v.change) same)

-- ---- what each event writes

module _ (own : ℕ → ℕ) (s t : State) (w : Whole own s) where
  makes : (e : Recorded) → recorded_step s e ≡ Ok t → Makes s t.bucket (recording_of s e)
  makes e h = recorded_makes s w.ups w.answers w.once e t h

  writes : (e : Recorded) → recorded_step s e ≡ Ok t → AreWritten s.bucket t.bucket (recording_of s e)
  writes e h = made_written s t.bucket (recording_of s e) (makes e h)

  pub step_written : (e : Event) → step s e ≡ Ok t → AreWritten s.bucket t.bucket (written s e)
  step_written (Post c x) h = subst (λ (v : State). AreWritten s.bucket v.bucket None) (can_post s t c x h).gives (λ z. refl)
  step_written (Begin c) h = subst (λ (v : State). AreWritten s.bucket v.bucket None) (can_begin s t c h).gives (λ z. refl)
  step_written (Act c) h = writes (recorded.Act c) h
  step_written (End c) h = subst (λ (v : State). AreWritten s.bucket v.bucket None) (can_end s t c h).gives (λ z. refl)
  step_written (Take c) h = subst (λ (v : State). AreWritten s.bucket v.bucket None) (can_take s t c h).gives (λ z. refl)
  step_written (Cut o) h = (cut_unwritten s t o h).same
  step_written (Start o) h = (start_unwritten s t o h).same
  step_written (Haul o x d) h = (haul_unwritten s t o x d h).same
  step_written (NotYet x b) h = subst (λ (v : State). AreWritten s.bucket v.bucket None) (can_wait s t x b h).gives (unwritten s.bucket b _ refl refl)
  step_written (Freeze x b) h = writes (recorded.Freeze x b) h
  step_written (Chunk x b) h = subst (λ (v : State). AreWritten s.bucket v.bucket None) (can_chunk s t x b h).gives (unwritten s.bucket b _ refl refl)
  step_written (Seal x b) h = writes (recorded.Seal x b) h
  step_written (Last x b) h = subst (λ (v : State). AreWritten s.bucket v.bucket None) (can_last s t x b h).gives (unwritten s.bucket b _ refl refl)
  step_written (Abort x b) h = subst (λ (v : State). AreWritten s.bucket v.bucket None) (can_abort s t x b h).gives (unwritten s.bucket b _ refl refl)
  step_written (EndMove x b) h = subst (λ (v : State). AreWritten s.bucket v.bucket None) (can_end_move s t x b h).gives (unwritten s.bucket b _ refl refl)
  step_written (Deliver x y) h = writes (recorded.Deliver x y) h
  step_written (Hear x y) h = writes (recorded.Hear x y) h
  step_written (Close o) h = subst (λ (v : State). AreWritten s.bucket v.bucket None) (can_close s t o h).gives (λ z. refl)
  step_written (Ask x b) h = subst (λ (v : State). AreWritten s.bucket v.bucket None) (can_ask s t x b h).gives (unwritten s.bucket b _ refl refl)
  step_written (Condemn x b) h = writes (recorded.Condemn x b) h
  step_written (Wipe x b) h = writes (recorded.Wipe x b) h
  step_written (Forget x b) h = writes (recorded.Forget x b) h
  step_written (Pin o) h = writes (recorded.Pin o) h
  step_written (Plan o) h = (plan_unwritten s t o h).same
  step_written (Stop o) h = (stop_unwritten s t o h).same
  step_written (Fault x n e) h = subst (λ (v : State). AreWritten s.bucket v.bucket None) (can_fault s t x n e h).gives (λ z. refl)
  step_written (Restart x kept by) h = restart_written s t x kept by h

  -- ---- what is pending

  pub step_pending : (e : Event) → step s e ≡ Ok t → t.pending ≡ pending_after s e
  step_pending (Post c x) h = subst (λ (v : State). v.pending ≡ s.pending) (can_post s t c x h).gives refl
  step_pending (Begin c) h = subst (λ (v : State). v.pending ≡ s.pending) (can_begin s t c h).gives refl
  step_pending (Act c) h = subst (λ (v : State). v.pending ≡ s.pending) (can_act s t c h).gives refl
  step_pending (End c) h = subst (λ (v : State). v.pending ≡ s.pending) (can_end s t c h).gives refl
  step_pending (Take c) h = subst (λ (v : State). v.pending ≡ s.pending) (can_take s t c h).gives refl
  step_pending (Cut o) h = (cut_unwritten s t o h).pending
  step_pending (Start o) h = (start_unwritten s t o h).pending
  step_pending (Haul o x d) h = (haul_unwritten s t o x d h).pending
  step_pending (NotYet x b) h = subst (λ (v : State). v.pending ≡ s.pending) (can_wait s t x b h).gives refl
  step_pending (Freeze x b) h = subst (λ (v : State). v.pending ≡ s.pending) (can_freeze s t x b h).gives refl
  step_pending (Chunk x b) h = subst (λ (v : State). v.pending ≡ s.pending) (can_chunk s t x b h).gives refl
  step_pending (Seal x b) h = subst (λ (v : State). v.pending ≡ s.pending) (can_seal s t x b h).gives refl
  step_pending (Last x b) h = subst (λ (v : State). v.pending ≡ s.pending) (can_last s t x b h).gives refl
  step_pending (Abort x b) h = subst (λ (v : State). v.pending ≡ s.pending) (can_abort s t x b h).gives refl
  step_pending (EndMove x b) h = subst (λ (v : State). v.pending ≡ s.pending) (can_end_move s t x b h).gives refl
  step_pending (Deliver x y) h = let p = can_deliver s t x y h in subst (λ (v : State). v.pending ≡ s.pending) p.gives (by p.sent p.sent.message)
    where
      by : (m : link.Sent) (v : Message) → (after_deliver s x y m v).pending ≡ s.pending
      by m (Chunk b page) = refl
      by m (Last b) = refl
      by m (Stat b) = refl
  step_pending (Hear x y) h = subst (λ (v : State). v.pending ≡ s.pending) (can_hear s t x y h).gives refl
  step_pending (Close o) h = subst (λ (v : State). v.pending ≡ s.pending) (can_close s t o h).gives refl
  step_pending (Ask x b) h = subst (λ (v : State). v.pending ≡ s.pending) (can_ask s t x b h).gives refl
  step_pending (Condemn x b) h = subst (λ (v : State). v.pending ≡ s.pending) (can_condemn s t x b h).gives refl
  step_pending (Wipe x b) h = subst (λ (v : State). v.pending ≡ s.pending) (can_wipe s t x b h).gives refl
  step_pending (Forget x b) h = subst (λ (v : State). v.pending ≡ s.pending) (can_forget s t x b h).gives refl
  step_pending (Pin o) h = let p = can_pin s t o h in subst (λ (v : State). v.pending ≡ s.pending) p.gives (by p.p (pinning_fault s p.p p.p.status))
    where
      by : (q : Pinning) (f : Option CommandFault) → (after_pin s o q f).pending ≡ s.pending
      by q (Some f) = refl
      by q None = refl
  step_pending (Plan o) h = (plan_unwritten s t o h).pending
  step_pending (Stop o) h = (stop_unwritten s t o h).pending
  step_pending (Fault x n e) h =
      let p = can_fault s t x n e h in
      subst (λ (v : State). v.pending ≡ put s.pending x (option_map (λ (r : Recording). r.change) (recording_of s e))) p.gives
      (ap (λ o. put s.pending x (option_map (λ (r : Recording). r.change) o)) (sym p.records))
  step_pending (Restart x kept by) h = restart_pending own s t x kept by w.pending h

  -- ---- where it is written

  pub at_up : (e : Recorded) (r : Recording) → recorded_step s e ≡ Ok t → recording_of s e ≡ Some r → IsUp s r.at
  at_up e r h is = let m : IsMade s t.bucket r = subst (Makes s t.bucket) is (makes e h) in m.up

  pub step_at : (e : Event) (r : Recording) → step s e ≡ Ok t → written s e ≡ Some r → WritesAt s e r
  step_at (Act c) r h is = at_up (recorded.Act c) r h is
  step_at (Freeze x b) r h is = at_up (recorded.Freeze x b) r h is
  step_at (Seal x b) r h is = at_up (recorded.Seal x b) r h is
  step_at (Deliver x y) r h is = at_up (recorded.Deliver x y) r h is
  step_at (Hear x y) r h is = at_up (recorded.Hear x y) r h is
  step_at (Condemn x b) r h is = at_up (recorded.Condemn x b) r h is
  step_at (Wipe x b) r h is = at_up (recorded.Wipe x b) r h is
  step_at (Forget x b) r h is = at_up (recorded.Forget x b) r h is
  step_at (Pin o) r h is = at_up (recorded.Pin o) r h is
  step_at (Restart x true by) r h is = restart_at s x r is
  step_at e r h is = absurd cc

  -- ---- a set that stays down

  apart_at : (e : Event) (r : Recording) (x : ℕ) → step s e ≡ Ok t → WritesAt s e r → s.up x ≡ false → t.up x ≡ false → x ≢ r.at
  apart_at (Restart z kept by) r x h at down still = λ is. absurd (cc (restart_up s t z kept by h, ap t.up (is ∙ at.0), still))
  apart_at e r x h at down still = λ is. absurd (cc (at, ap s.up is, down))

  kept_down : (e : Event) (o : Option Recording) (x : ℕ) → step s e ≡ Ok t → written s e ≡ o → AreWritten s.bucket t.bucket o → s.up x ≡ false → t.up x ≡ false → durable_of t x ≡ durable_of s x
  kept_down e None x h is same down still = same x
  kept_down e (Some r) x h is made down still = made.others x (apart_at e r x h (step_at e r h is) down still)

  pending_down : (e : Event) (x : ℕ) → step s e ≡ Ok t → s.up x ≡ false → t.up x ≡ false → pending_after s e x ≡ s.pending x
  pending_down (Fault z n e) x h down still = put_there s.pending z _ x (λ is. absurd (cc ((can_fault s t z n e h).x_up, ap s.up is, down)))
  pending_down (Restart z kept by) x h down still = put_there s.pending z None x (λ is. absurd (cc (restart_up s t z kept by h, ap t.up is, still)))
  pending_down e x h down still = refl

  pub step_stays : (e : Event) → step s e ≡ Ok t → (x : ℕ) → s.up x ≡ false → t.up x ≡ false → (durable_of t x ≡ durable_of s x) × (t.pending x ≡ s.pending x)
  step_stays e h x down still = (kept_down e (written s e) x h refl (step_written e h) down still, ap (λ (f : ℕ → Option Change). f x) (step_pending e h) ∙ pending_down e x h down still)

-- ---- a set that is left

module _ (own : ℕ → ℕ) (s t : State) (w : Whole own s) where
  left_same : (e : Event) (x : ℕ) → step s e ≡ Ok t → LeavesSet s e x → durable_of t x ≡ durable_of s x
  left_same (Restart z kept by) x h leaves = at_restart (written s (Restart z kept by)) refl (step_written own s t w (Restart z kept by) h)
    where
      at_restart : (o : Option Recording) → written s (Restart z kept by) ≡ o → AreWritten s.bucket t.bucket o → durable_of t x ≡ durable_of s x
      at_restart None is same = same x
      at_restart (Some r) is made = made.others x (λ here. leaves (here ∙ (step_at own s t w (Restart z kept by) r h is).0))
  left_same e x h leaves = at_other (written s e) refl (step_written own s t w e h)
    where
      at_other : (o : Option Recording) → written s e ≡ o → AreWritten s.bucket t.bucket o → durable_of t x ≡ durable_of s x
      at_other None is same = same x
      at_other (Some r) is made = made.others x (leaves r is)

  -- what is pending there still is
  left_pending : (e : Event) (x : ℕ) (c : Change) → step s e ≡ Ok t → LeavesSet s e x → s.pending x ≡ Some c → pending_after s e x ≡ Some c
  left_pending (Fault z n e) x c h leaves is = put_there s.pending z _ x (λ here. absurd (cc ((w.pending x c is).0, (can_fault s t z n e h).x_up, ap s.up here))) ∙ is
  left_pending (Restart z kept by) x c h leaves is = put_there s.pending z None x leaves ∙ is
  left_pending e x c h leaves is = is

  pub step_leaves : (e : Event) → step s e ≡ Ok t → (x : ℕ) (d : Durable) → LeavesSet s e x → FitsSet s x d → FitsSet t x d
  step_leaves e h x d leaves (inl is) = inl (is ∙ sym (left_same e x h leaves))
  step_leaves e h x d leaves (inr k) =
      inr (k.0, ap (λ (f : ℕ → Option Change). f x) (step_pending own s t w e h) ∙ left_pending e x k.0 h leaves k.1, k.2 ∙ ap (λ a. applied a k.0) (sym (left_same e x h leaves)))

-- ---- the rows that a pending wipe deletes are there

abbrev pub WipesFit : State → Type 0
WipesFit s = (x b n : ℕ) → s.pending x ≡ Some (changes.Wipe b n) → IsWipe n ((s.bucket b).rows x)

pub step_wipes : (own next : ℕ → ℕ) (s t : State) (e : Event) → Whole own s → Whole next t → WipesFit s → step s e ≡ Ok t → WipesFit t
step_wipes own next s t e w v f h x b n is = by e h (ap (λ (g : ℕ → Option Change). g x) (sym (step_pending own s t w e h)) ∙ is)
  where
    before : (e : Event) → step s e ≡ Ok t → s.pending x ≡ Some (changes.Wipe b n) → IsWipe n ((t.bucket b).rows x)
    before e h was =
        let stays = step_stays own s t w e h x (w.pending x (changes.Wipe b n) was).0 (v.pending x (changes.Wipe b n) is).0 in
        subst (λ d. IsWipe n (d.rows b)) (sym stays.0) (f x b n was)

    recorded_now : (z k : ℕ) (r : Recorded) → fault s z k r ≡ Ok t → x ≡ z → option_map (λ (q : Recording). q.change) (recording_of s r) ≡ Some (changes.Wipe b n) → IsWipe n ((t.bucket b).rows x)
    recorded_now z k r h here is =
        let p = can_fault s t z k r h in
        let same : p.change ≡ changes.Wipe b n = cc (is, ap (λ (o : Option Recording). option_map (λ (q : Recording). q.change) o) p.records) in
        let m : IsMade s p.next.bucket (record { at = z; change = p.change }) = subst (Makes s p.next.bucket) p.records (recorded_makes s w.ups w.answers w.once r p.next p.possible) in
        let counted : IsWipe n ((s.bucket b).rows z) = subst (IsCounted s z) same m.counted in
        subst (λ (u : State). IsWipe n ((u.bucket b).rows x)) p.gives (subst (λ q. IsWipe n ((s.bucket b).rows q)) (sym here) counted)

    by : (e : Event) → step s e ≡ Ok t → pending_after s e x ≡ Some (changes.Wipe b n) → IsWipe n ((t.bucket b).rows x)
    by (Fault z k r) h is = elim (put_split s.pending z (option_map (λ (q : Recording). q.change) (recording_of s r)) x (Some (changes.Wipe b n)) is) [
      | inl g ↦ recorded_now z k r h g.0 g.1
      | inr g ↦ before (Fault z k r) h g.1
    ]
    by (Restart z kept w) h is = elim (put_split s.pending z None x (Some (changes.Wipe b n)) is) [
      | inl g ↦ absurd (cc (g.1))
      | inr g ↦ before (Restart z kept w) h g.1
    ]
    by e h is = before e h is

-- ---- it fits

module _ (own : ℕ → ℕ) (s : State) (w : Whole own s) (inputs : HasInputs s) (few : HasFew s) (f : WipesFit s) where
  pub pending_counted : (x : ℕ) (c : Change) → s.pending x ≡ Some c → IsCounted s x c
  pending_counted x (changes.Write id b ops) is = w.once.called x b id ops is
  pending_counted x (changes.Wipe b n) is = f x b n is
  pending_counted x (changes.SetStatus b st) is = tt
  pending_counted x (changes.AddRows b z page) is = tt
  pending_counted x (changes.Forget b) is = tt

  pub pending_may : (x : ℕ) (c : Change) → s.pending x ≡ Some c → MayWrite s x c
  pending_may x c is = may_write own s w inputs few x c (w.pending x c is).1 (pending_counted x c is)

  pub recorded_may : (t : State) (e : Recorded) (r : Recording) → recorded_step s e ≡ Ok t → recording_of s e ≡ Some r → MayWrite s r.at r.change
  recorded_may t e r h is =
      let m : IsMade s t.bucket r = subst (Makes s t.bucket) is (recorded_makes s w.ups w.answers w.once e t h) in
      may_write own s w inputs few r.at r.change (recorded_fits own s w.inner w.asks e t r h is) m.counted

  step_fits : (t : State) (e : Event) (r : Recording) → step s e ≡ Ok t → written s e ≡ Some r → MayWrite s r.at r.change
  step_fits t (Act c) r h is = recorded_may t (recorded.Act c) r h is
  step_fits t (Freeze x b) r h is = recorded_may t (recorded.Freeze x b) r h is
  step_fits t (Seal x b) r h is = recorded_may t (recorded.Seal x b) r h is
  step_fits t (Deliver x y) r h is = recorded_may t (recorded.Deliver x y) r h is
  step_fits t (Hear x y) r h is = recorded_may t (recorded.Hear x y) r h is
  step_fits t (Condemn x b) r h is = recorded_may t (recorded.Condemn x b) r h is
  step_fits t (Wipe x b) r h is = recorded_may t (recorded.Wipe x b) r h is
  step_fits t (Forget x b) r h is = recorded_may t (recorded.Forget x b) r h is
  step_fits t (Pin o) r h is = recorded_may t (recorded.Pin o) r h is
  step_fits t (Restart x true by) r h is = let at = restart_at s x r is in subst (λ z. MayWrite s z r.change) (sym at.0) (pending_may x r.change at.2)
  step_fits t e r h is = absurd cc

  pub step_keeps : (t : State) (e : Event) → step s e ≡ Ok t → KeepsJournals s t e
  step_keeps t e h = record {
    written_is = step_written own s t w e h;
    fits_here = λ r is. step_fits t e r h is;
    writes_at = λ r is. step_at own s t w e r h is;
    pending_is = step_pending own s t w e h;
    stays = step_stays own s t w e h;
    leaves = step_leaves own s t w e h;
  }
