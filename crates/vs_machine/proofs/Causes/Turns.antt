-- What an event makes of a client.
use Rattle.std.proofs.Common.{◌≡◌, ℕ, Bool, true, false, refl, subst, [], ◌∷◌, ◌++◌, Option, Some, None, Ok}
use Rattle.std.specs.Prelude.{◌||◌, not, if◌then◌else◌, nat_lt, nat_le}
use Rattle.vs_rows.specs.Operations.{answers_to}
use Rattle.vs_calls.specs.Progress.{posted, begun, acted, ended, cut, outcome_of, taken, may_post, is_posted, is_running, is_acted, is_refused, is_over}
use Rattle.vs_event.specs.declared.event.Event.{Event}
use Rattle.vs_event.specs.declared.event.Event.TheVariants.{Post, Begin, Act, End, Take, Cut, Start, Haul, NotYet, Freeze, Chunk, Seal, Last, Abort, EndMove, Deliver, Hear, Close, Ask, Condemn, Wipe, Forget, Pin, Plan, Stop, Fault, Restart}
use Rattle.vs_event.specs.declared.event.RestartBy.{RestartBy}
use Rattle.vs_event.specs.declared.event.RestartBy.TheVariants.{Line, Service}
use Rattle.vs_event.specs.declared.reason.Reason.TheVariants as reason
use Rattle.vs_link.specs.Connection as link
use Rattle.vs_record.specs.Change.{Change}
use Rattle.vs_script.specs.Calls.{Call}
use Rattle.vs_machine.specs.declared.outcome.CommandFault.{CommandFault}
use Rattle.vs_machine.specs.declared.outcome.CommandOutcome.TheVariants.{Done, Late, WasDown, WasUp}
use Rattle.vs_machine.specs.Tables.{put, least_to}
use Rattle.vs_machine.specs.State.{State, Client, sets_of, next_call, answer, put_client, put_operator, with_progress}
use Rattle.vs_machine.specs.Step.{step}
use Rattle.vs_machine.specs.Causes.Calls.{Cuts, TakesDown}
use Rattle.vs_machine.specs.Kinds.Calls.{cut_call, is_answered, is_reached, verdict_at, place_of}
use Rattle.vs_machine.specs.Kinds.Connections.{deliver, after_deliver}
use Rattle.vs_machine.specs.Kinds.Faults.{send_fault}
use Rattle.vs_machine.specs.Kinds.Pinning.{Pinning, pinning_fault, pin, after_pin}
use Rattle.vs_machine.specs.Kinds.Rebalancing.{haul, after_haul, bucket_to_haul, plan, plan_round, is_in_move}
use Rattle.vs_machine.specs.Kinds.Sender.{Move, start, after_start}
use Rattle.vs_machine.specs.Kinds.Stops.{lost_at, gone_down, stop, restart, restarted}
use Rattle.vs_machine.proofs.Can.Calls.{can_post, can_begin, can_act, can_end, can_take, can_cut}
use Rattle.vs_machine.proofs.Can.Others.{can_deliver, can_hear, can_close, can_ask, can_condemn, can_wipe, can_forget, can_pin, can_haul, can_plan}
use Rattle.vs_machine.proofs.Can.Sender.{can_start, can_wait, can_freeze, can_chunk, can_seal, can_last, can_abort, can_end_move}
use Rattle.vs_machine.proofs.Can.Stops.{can_stop, can_fault, can_restart, can_restart_line}
use Rattle.vs_machine.proofs.Frame.{put_each}
use Rattle.vs_machine.proofs.Possible.{ok_is, wants_none_ok}

-- the client after an event, which was possible
pub data Turn (s : State) (e : Event) (c : ℕ) (new : Client) : Type 0 where
  Stays : new ≡ s.client c → Turn s e c new
  Posts : (x writes : ℕ) → e ≡ Post c x → may_post (s.client c).present.stage ≡ true → nat_lt (s.client c).present.tries 128 ≡ true
      → new ≡ with_progress (s.client c) (posted (s.client c).present x writes) → Turn s e c new
  Begins : (x : ℕ) (k : Call) → e ≡ Begin c → is_posted (s.client c).present.stage ≡ true → next_call (s.client c) ≡ Some k → (s.client c).present.set ≡ Some x
      → new ≡ with_progress (s.client c) (begun (s.client c).present (verdict_at s x k)) → Turn s e c new
  Acts : (x : ℕ) (k : Call) → e ≡ Act c → is_running (s.client c).present.stage ≡ true → next_call (s.client c) ≡ Some k → (s.client c).present.set ≡ Some x
      → new ≡ with_progress (s.client c) (acted (s.client c).present (place_of (s.bucket k.bucket) x k.mode) (answers_to ((s.bucket k.bucket).rows x) k.ops)) → Turn s e c new
  Ends : is_acted (s.client c).present.stage ≡ true → new ≡ with_progress (s.client c) (ended (s.client c).present) → Turn s e c new
  Takes : e ≡ Take c → (not (is_refused (s.client c).present.stage) || nat_le 128 (s.client c).present.tries) ≡ true → (is_refused (s.client c).present.stage || is_over (s.client c).present.stage) ≡ true
      → new ≡ (let old = s.client c in record old { answered = old.answered ++ outcome_of old.present ∷ []; present = taken old.present }) → Turn s e c new
  IsCut : (n : ℕ) → Cuts s e c n → is_answered (s.client c) n ≡ false → is_reached (s.client c) n ≡ true → new ≡ with_progress (s.client c) (cut (s.client c).present) → Turn s e c new
  GoesDown : (x : ℕ) → TakesDown s e x → s.up x ≡ true → new ≡ lost_at x (s.client c) → Turn s e c new

abbrev Turns : State → Event → State → Type 0
Turns s e t = (c : ℕ) → Turn s e c (t.client c)

module _ (s : State) (e : Event) where
  -- one client changes
  one : (d : ℕ) (new : Client) → Turn s e d new → (c : ℕ) → Turn s e c (put s.client d new c)
  one d new h = put_each (λ q (u : Client). Turn s e q u) s.client d new h (λ q. Stays refl)

  nobody : (c : ℕ) → Turn s e c (s.client c)
  nobody c = Stays refl

cut_turns : (s t : State) (o : ℕ) → cut_call s o ≡ Ok t → Turns s (Cut o) t
cut_turns s t o h = let p = can_cut s t o h in subst (Turns s (Cut o)) p.gives (by p.c p.n p.named p.reached (is_answered (s.client p.c) p.n) refl)
  where
    by : (d n : ℕ) → Cuts s (Cut o) d n → is_reached (s.client d) n ≡ true → (late : Bool) → is_answered (s.client d) n ≡ late
        → Turns s (Cut o) (if late then put_operator s o (answer (s.operator o) Late) else put_operator (put_client s d (with_progress (s.client d) (cut (s.client d).present))) o (answer (s.operator o) Done))
    by d n named reached true is c = nobody s (Cut o) c
    by d n named reached false is c = one s (Cut o) d _ (IsCut n named is reached refl) c

start_turns : (s t : State) (o : ℕ) → start s o ≡ Ok t → Turns s (Start o) t
start_turns s t o h = let p = can_start s t o h in subst (Turns s (Start o)) p.gives (by p.m (send_fault s p.m.bucket p.m.from p.m.to))
  where
    by : (m : Move) (f : Option CommandFault) → Turns s (Start o) (after_start s o m f)
    by m (Some f) c = nobody s (Start o) c
    by m None c = nobody s (Start o) c

haul_turns : (s t : State) (o x d : ℕ) → haul s o x d ≡ Ok t → Turns s (Haul o x d) t
haul_turns s t o x d h = let p = can_haul s t o x d h in subst (Turns s (Haul o x d)) p.gives (by (bucket_to_haul s x d))
  where
    by : (v : Option ℕ) → Turns s (Haul o x d) (after_haul s o x d v)
    by None c = nobody s (Haul o x d) c
    by (Some b) c = nobody s (Haul o x d) c

deliver_turns : (s t : State) (x y : ℕ) → deliver s x y ≡ Ok t → Turns s (Deliver x y) t
deliver_turns s t x y h = let p = can_deliver s t x y h in subst (Turns s (Deliver x y)) p.gives (by p.sent p.sent.message)
  where
    by : (m : link.Sent) (v : link.Message) → Turns s (Deliver x y) (after_deliver s x y m v)
    by m (link.Chunk b page) c = nobody s (Deliver x y) c
    by m (link.Last b) c = nobody s (Deliver x y) c
    by m (link.Stat b) c = nobody s (Deliver x y) c

pin_turns : (s t : State) (o : ℕ) → pin s o ≡ Ok t → Turns s (Pin o) t
pin_turns s t o h = let p = can_pin s t o h in subst (Turns s (Pin o)) p.gives (by p.p (pinning_fault s p.p p.p.status))
  where
    by : (q : Pinning) (f : Option CommandFault) → Turns s (Pin o) (after_pin s o q f)
    by q (Some f) c = nobody s (Pin o) c
    by q None c = nobody s (Pin o) c

plan_turns : (s t : State) (o : ℕ) → plan s o ≡ Ok t → Turns s (Plan o) t
plan_turns s t o h = by (least_to (λ x. not (s.up x)) (sets_of s)) (can_plan s t o h).gives
  where
    by : (down : Option ℕ) → plan_round s o down ≡ Ok t → Turns s (Plan o) t
    by (Some x) g = subst (Turns s (Plan o)) (ok_is _ t g) (nobody s (Plan o))
    by None g = let k = wants_none_ok (least_to (is_in_move s) s.config.bucket_count) reason.Moving _ t g in subst (Turns s (Plan o)) (ok_is _ t k.1) (nobody s (Plan o))

stop_turns : (s t : State) (o : ℕ) → stop s o ≡ Ok t → Turns s (Stop o) t
stop_turns s t o h = let p = can_stop s t o h in subst (Turns s (Stop o)) p.gives (by p.x p.named (s.up p.x) refl)
  where
    by : (x : ℕ) → TakesDown s (Stop o) x → (up : Bool) → s.up x ≡ up → Turns s (Stop o) (if up then put_operator (gone_down s x) o (answer (s.operator o) Done) else put_operator s o (answer (s.operator o) WasDown))
    by x named true is c = GoesDown x named is refl
    by x named false is c = nobody s (Stop o) c

restarted_same : (s : State) (x : ℕ) (kept : Bool) (pending : Option Change) (c : ℕ) → (restarted s x kept pending).client c ≡ s.client c
restarted_same s x true (Some change) c = refl
restarted_same s x true None c = refl
restarted_same s x false (Some change) c = refl
restarted_same s x false None c = refl

restart_turns : (s t : State) (x : ℕ) (kept : Bool) (by : RestartBy) → restart s x kept by ≡ Ok t → Turns s (Restart x kept by) t
restart_turns s t x kept Service h = subst (Turns s (Restart x kept Service)) (can_restart s t x kept h).gives (λ c. Stays (restarted_same s x kept (s.pending x) c))
restart_turns s t x kept (Line o) h = subst (Turns s (Restart x kept (Line o))) (can_restart_line s t x o kept h).gives (by (s.up x))
  where
    by : (u : Bool) → Turns s (Restart x kept (Line o)) (if u then put_operator s o (answer (s.operator o) WasUp) else put_operator (restarted s x kept (s.pending x)) o (answer (s.operator o) Done))
    by true c = nobody s (Restart x kept (Line o)) c
    by false c = Stays (restarted_same s x kept (s.pending x) c)

pub step_turns : (s t : State) (e : Event) → step s e ≡ Ok t → (c : ℕ) → Turn s e c (t.client c)
step_turns s t (Post d x) h = let p = can_post s t d x h in subst (Turns s (Post d x)) p.gives (one s (Post d x) d _ (Posts x _ refl p.ready p.few refl))
step_turns s t (Begin d) h = let p = can_begin s t d h in subst (Turns s (Begin d)) p.gives (one s (Begin d) d _ (Begins p.x p.k refl p.posted p.called p.set refl))
step_turns s t (Act d) h = let p = can_act s t d h in subst (Turns s (Act d)) p.gives (one s (Act d) d _ (Acts p.x p.k refl p.running p.called p.set refl))
step_turns s t (End d) h = let p = can_end s t d h in subst (Turns s (End d)) p.gives (one s (End d) d _ (Ends p.acted refl))
step_turns s t (Take d) h = let p = can_take s t d h in subst (Turns s (Take d)) p.gives (one s (Take d) d _ (Takes refl p.tried p.ready refl))
step_turns s t (Cut o) h = cut_turns s t o h
step_turns s t (Start o) h = start_turns s t o h
step_turns s t (Haul o x d) h = haul_turns s t o x d h
step_turns s t (Deliver x y) h = deliver_turns s t x y h
step_turns s t (Pin o) h = pin_turns s t o h
step_turns s t (Plan o) h = plan_turns s t o h
step_turns s t (Stop o) h = stop_turns s t o h
step_turns s t (Fault x n r) h = let p = can_fault s t x n r h in subst (Turns s (Fault x n r)) p.gives (λ c. GoesDown x refl p.x_up refl)
step_turns s t (Restart x kept by) h = restart_turns s t x kept by h
step_turns s t (NotYet x b) h = subst (Turns s (NotYet x b)) (can_wait s t x b h).gives (nobody s (NotYet x b))
step_turns s t (Freeze x b) h = subst (Turns s (Freeze x b)) (can_freeze s t x b h).gives (nobody s (Freeze x b))
step_turns s t (Chunk x b) h = subst (Turns s (Chunk x b)) (can_chunk s t x b h).gives (nobody s (Chunk x b))
step_turns s t (Seal x b) h = subst (Turns s (Seal x b)) (can_seal s t x b h).gives (nobody s (Seal x b))
step_turns s t (Last x b) h = subst (Turns s (Last x b)) (can_last s t x b h).gives (nobody s (Last x b))
step_turns s t (Abort x b) h = subst (Turns s (Abort x b)) (can_abort s t x b h).gives (nobody s (Abort x b))
step_turns s t (EndMove x b) h = subst (Turns s (EndMove x b)) (can_end_move s t x b h).gives (nobody s (EndMove x b))
step_turns s t (Hear x y) h = subst (Turns s (Hear x y)) (can_hear s t x y h).gives (nobody s (Hear x y))
step_turns s t (Close o) h = subst (Turns s (Close o)) (can_close s t o h).gives (nobody s (Close o))
step_turns s t (Ask x b) h = subst (Turns s (Ask x b)) (can_ask s t x b h).gives (nobody s (Ask x b))
step_turns s t (Condemn x b) h = subst (Turns s (Condemn x b)) (can_condemn s t x b h).gives (nobody s (Condemn x b))
step_turns s t (Wipe x b) h = subst (Turns s (Wipe x b)) (can_wipe s t x b h).gives (nobody s (Wipe x b))
step_turns s t (Forget x b) h = subst (Turns s (Forget x b)) (can_forget s t x b h).gives (nobody s (Forget x b))
