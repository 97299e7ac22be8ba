-- Only a restart brings a set up.
use Rattle.std.proofs.Common.{◌≡◌, ℕ, Bool, true, false, Option, Some, None, Ok, subst}
use Rattle.std.specs.Prelude.{◌==◌, not, if◌then◌else◌}
use Rattle.vs_calls.specs.Progress.{cut}
use Rattle.vs_event.specs.declared.event.Event.{Event}
use Rattle.vs_event.specs.declared.event.Event.TheVariants.{Post, Begin, Act, End, Take, Cut, Start, Haul, NotYet, Freeze, Chunk, Seal, Last, Abort, EndMove, Deliver, Hear, Close, Ask, Condemn, Wipe, Forget, Pin, Plan, Stop, Fault, Restart}
use Rattle.vs_event.specs.declared.event.RestartBy.{RestartBy}
use Rattle.vs_event.specs.declared.event.RestartBy.TheVariants.{Line, Service}
use Rattle.vs_event.specs.declared.reason.Reason.TheVariants as reason
use Rattle.vs_link.specs.Connection.{Message, Chunk as ChunkMessage, Last as LastMessage, Stat}
use Rattle.vs_link.specs.Connection as link
use Rattle.vs_machine.specs.declared.outcome.CommandFault.{CommandFault}
use Rattle.vs_machine.specs.declared.outcome.CommandOutcome.TheVariants.{Done, Late, WasDown, WasUp}
use Rattle.vs_machine.specs.Journals.{IsNoRestart}
use Rattle.vs_machine.specs.Kinds.Calls.{cut_call, is_answered}
use Rattle.vs_machine.specs.Kinds.Connections.{after_deliver}
use Rattle.vs_machine.specs.Kinds.Faults.{send_fault}
use Rattle.vs_machine.specs.Kinds.Pinning.{Pinning, pinning_fault, after_pin}
use Rattle.vs_machine.specs.Kinds.Rebalancing.{haul, after_haul, bucket_to_haul, plan, plan_round, is_in_move}
use Rattle.vs_machine.specs.Kinds.Sender.{Move, start, after_start}
use Rattle.vs_machine.specs.Kinds.Stops.{gone_down, stop, restarted}
use Rattle.vs_machine.specs.State.{State, sets_of, answer, put_client, put_operator, with_progress}
use Rattle.vs_machine.specs.Step.{step}
use Rattle.vs_machine.specs.Tables.{put, least_to}
use Rattle.vs_machine.proofs.Can.Calls.{can_post, can_begin, can_act, can_end, can_take, can_cut}
use Rattle.vs_machine.proofs.Can.Others.{can_deliver, can_hear, can_close, can_ask, can_condemn, can_wipe, can_forget, can_pin, can_haul, can_plan}
use Rattle.vs_machine.proofs.Can.Sender.{can_start, can_wait, can_freeze, can_chunk, can_seal, can_last, can_abort, can_end_move}
use Rattle.vs_machine.proofs.Can.Stops.{can_stop, can_fault, can_restart, can_restart_line}
use Rattle.vs_machine.proofs.Possible.{ok_is, wants_none_ok}
use Rattle.vs_world.specs.Rising.{RaisesNone}

-- a set that is up was up
abbrev pub NoneRises : State → State → Type 0
NoneRises s t = (y : ℕ) → t.up y ≡ true → s.up y ≡ true

-- one more is down
put_down : (f : ℕ → Bool) (x y : ℕ) → put f x false y ≡ true → f y ≡ true
put_down f x y is = by (y == x) is
  where
    by : (same : Bool) → (if same then false else f y) ≡ true → f y ≡ true
    by true is = absurd (cc is)
    by false is = is

cut_rises : (s t : State) (o : ℕ) → cut_call s o ≡ Ok t → NoneRises s t
cut_rises s t o h = let p = can_cut s t o h in subst (NoneRises s) p.gives (by p.c (is_answered (s.client p.c) p.n))
  where
    by : (c : ℕ) (late : Bool) → NoneRises s (if late then put_operator s o (answer (s.operator o) Late) else put_operator (put_client s c (with_progress (s.client c) (cut (s.client c).present))) o (answer (s.operator o) Done))
    by c true = λ y up. up
    by c false = λ y up. up

start_rises : (s t : State) (o : ℕ) → start s o ≡ Ok t → NoneRises s t
start_rises s t o h = let p = can_start s t o h in subst (NoneRises s) p.gives (by p.m (send_fault s p.m.bucket p.m.from p.m.to))
  where
    by : (m : Move) (f : Option CommandFault) → NoneRises s (after_start s o m f)
    by m (Some f) = λ y up. up
    by m None = λ y up. up

haul_rises : (s t : State) (o x d : ℕ) → haul s o x d ≡ Ok t → NoneRises s t
haul_rises s t o x d h = subst (NoneRises s) (can_haul s t o x d h).gives (by (bucket_to_haul s x d))
  where
    by : (v : Option ℕ) → NoneRises s (after_haul s o x d v)
    by None = λ y up. up
    by (Some b) = λ y up. up

plan_rises : (s t : State) (o : ℕ) → plan s o ≡ Ok t → NoneRises s t
plan_rises s t o h = by (least_to (λ x. not (s.up x)) (sets_of s)) (can_plan s t o h).gives
  where
    by : (down : Option ℕ) → plan_round s o down ≡ Ok t → NoneRises s t
    by (Some x) g = subst (NoneRises s) (ok_is _ t g) (λ y up. up)
    by None g = let k = wants_none_ok (least_to (is_in_move s) s.config.bucket_count) reason.Moving _ t g in subst (NoneRises s) (ok_is _ t k.1) (λ y up. up)

stop_rises : (s t : State) (o : ℕ) → stop s o ≡ Ok t → NoneRises s t
stop_rises s t o h = let p = can_stop s t o h in subst (NoneRises s) p.gives (by p.x (s.up p.x))
  where
    by : (x : ℕ) (up : Bool) → NoneRises s (if up then put_operator (gone_down s x) o (answer (s.operator o) Done) else put_operator s o (answer (s.operator o) WasDown))
    by x true = put_down s.up x
    by x false = λ y up. up

pub none_rises : (s t : State) (e : Event) → IsNoRestart e → step s e ≡ Ok t → NoneRises s t
none_rises s t (Post c x) bare h = subst (NoneRises s) (can_post s t c x h).gives (λ y up. up)
none_rises s t (Begin c) bare h = subst (NoneRises s) (can_begin s t c h).gives (λ y up. up)
none_rises s t (Act c) bare h = subst (NoneRises s) (can_act s t c h).gives (λ y up. up)
none_rises s t (End c) bare h = subst (NoneRises s) (can_end s t c h).gives (λ y up. up)
none_rises s t (Take c) bare h = subst (NoneRises s) (can_take s t c h).gives (λ y up. up)
none_rises s t (Cut o) bare h = cut_rises s t o h
none_rises s t (Start o) bare h = start_rises s t o h
none_rises s t (Haul o x d) bare h = haul_rises s t o x d h
none_rises s t (NotYet x b) bare h = subst (NoneRises s) (can_wait s t x b h).gives (λ y up. up)
none_rises s t (Freeze x b) bare h = subst (NoneRises s) (can_freeze s t x b h).gives (λ y up. up)
none_rises s t (Chunk x b) bare h = subst (NoneRises s) (can_chunk s t x b h).gives (λ y up. up)
none_rises s t (Seal x b) bare h = subst (NoneRises s) (can_seal s t x b h).gives (λ y up. up)
none_rises s t (Last x b) bare h = subst (NoneRises s) (can_last s t x b h).gives (λ y up. up)
none_rises s t (Abort x b) bare h = subst (NoneRises s) (can_abort s t x b h).gives (λ y up. up)
none_rises s t (EndMove x b) bare h = subst (NoneRises s) (can_end_move s t x b h).gives (λ y up. up)
none_rises s t (Deliver x y) bare h = let p = can_deliver s t x y h in subst (NoneRises s) p.gives (by p.sent p.sent.message)
  where
    by : (m : link.Sent) (v : Message) → NoneRises s (after_deliver s x y m v)
    by m (ChunkMessage b page) = λ z up. up
    by m (LastMessage b) = λ z up. up
    by m (Stat b) = λ z up. up
none_rises s t (Hear x y) bare h = subst (NoneRises s) (can_hear s t x y h).gives (λ z up. up)
none_rises s t (Close o) bare h = subst (NoneRises s) (can_close s t o h).gives (λ y up. up)
none_rises s t (Ask x b) bare h = subst (NoneRises s) (can_ask s t x b h).gives (λ y up. up)
none_rises s t (Condemn x b) bare h = subst (NoneRises s) (can_condemn s t x b h).gives (λ y up. up)
none_rises s t (Wipe x b) bare h = subst (NoneRises s) (can_wipe s t x b h).gives (λ y up. up)
none_rises s t (Forget x b) bare h = subst (NoneRises s) (can_forget s t x b h).gives (λ y up. up)
none_rises s t (Pin o) bare h = let p = can_pin s t o h in subst (NoneRises s) p.gives (by p.p (pinning_fault s p.p p.p.status))
  where
    by : (q : Pinning) (f : Option CommandFault) → NoneRises s (after_pin s o q f)
    by q (Some f) = λ y up. up
    by q None = λ y up. up
none_rises s t (Plan o) bare h = plan_rises s t o h
none_rises s t (Stop o) bare h = stop_rises s t o h
none_rises s t (Fault x n e) bare h = subst (NoneRises s) (can_fault s t x n e h).gives (put_down s.up x)
none_rises s t (Restart x kept by) bare h = absurd bare

-- a restart of a set that is up only answers its command
pub up_rises : (s t : State) (x : ℕ) (kept : Bool) (by : RestartBy) → s.up x ≡ true → step s (Restart x kept by) ≡ Ok t → NoneRises s t
up_rises s t x kept Service up h = absurd (cc (up, (can_restart s t x kept h).x_down))
up_rises s t x kept (Line o) up h = subst (NoneRises s) (can_restart_line s t x o kept h).gives (by (s.up x) up)
  where
    by : (q : Bool) → q ≡ true → NoneRises s (if q then put_operator s o (answer (s.operator o) WasUp) else put_operator (restarted s x kept (s.pending x)) o (answer (s.operator o) Done))
    by true is = λ y up. up
    by false is = absurd (cc is)

pub no_restart_raises : (s : State) (e : Event) → IsNoRestart e → RaisesNone s e
no_restart_raises s (Restart x kept by) bare = absurd bare
no_restart_raises s e bare = tt

pub rises_none : (s t : State) (e : Event) → RaisesNone s e → step s e ≡ Ok t → NoneRises s t
rises_none s t (Restart x kept by) up h = up_rises s t x kept by up h
rises_none s t e bare h = none_rises s t e tt h
