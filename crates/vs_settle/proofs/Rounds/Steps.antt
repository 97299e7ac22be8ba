-- A round's operator has the balance as its next command, in each reached state.
use Rattle.std.proofs.Common.{◌≡◌, ℕ, Bool, true, false, refl, subst, List, [], ◌∷◌, Option, Some, None, Ok}
use Rattle.std.specs.Prelude.{◌&&◌, if◌then◌else◌}
use Rattle.vs_event.specs.declared.event.Event.{Event}
use Rattle.vs_event.specs.declared.event.Event.TheVariants.{Post, Begin, Act, End, Take, Cut, Start, Haul, NotYet, Freeze, Chunk, Seal, Last, Abort, EndMove, Deliver, Hear, Close, Ask, Condemn, Wipe, Forget, Pin, Plan, Stop, Fault, Restart}
use Rattle.vs_event.specs.declared.event.Recorded.{Recorded}
use Rattle.vs_event.specs.declared.event.RestartBy.{RestartBy}
use Rattle.vs_event.specs.declared.event.RestartBy.TheVariants.{Line, Service}
use Rattle.vs_record.specs.Change as changes
use Rattle.vs_record.specs.Change.{Change}
use Rattle.vs_send.specs.declared.abort.AbortCause.TheVariants.{Stopped}
use Rattle.vs_machine.specs.declared.outcome.CommandOutcome.TheVariants.{Done, WasDown, WasUp, Aborted}
use Rattle.vs_machine.specs.Kinds.Sender.{move_of}
use Rattle.vs_machine.specs.Kinds.Stops.{stopped_move, is_move_from, gone_down, set_to_stop, stop, fault, is_restart_of, restart, restarted, kept_at}
use Rattle.vs_machine.specs.Laws.{ReachesOn, TransferRuns, WholeRuns}
use Rattle.vs_machine.specs.Opening.{opening}
use Rattle.vs_machine.specs.Runs.{IsReached}
use Rattle.vs_machine.specs.State.{State, Operator, next_command, answer, put_operator}
use Rattle.vs_machine.specs.Step.{step, run}
use Rattle.vs_machine.proofs.Can.Calls.{can_post, can_begin, can_end, can_take}
use Rattle.vs_machine.proofs.Can.Others.{can_ask, can_condemn, can_wipe, can_forget}
use Rattle.vs_machine.proofs.Can.Sender.{can_wait, can_freeze, can_chunk, can_seal, can_last, can_abort, can_end_move}
use Rattle.vs_machine.proofs.Can.Stops.{can_stop, can_fault, can_restart, can_restart_line}
use Rattle.vs_machine.proofs.Frame.{put_each}
use Rattle.vs_machine.proofs.Leaves.{changed_transfer}
use Rattle.vs_machine.proofs.Possible.{bind_ok, ok_is, both_are}
use Rattle.vs_settle.proofs.Rounds.Frame.{IsBalancing, RoutesFit, Fits, still_fits, phase_fits, other, answer_fits, GoesOn, down_fits}
use Rattle.vs_settle.proofs.Rounds.Moves.{act_rounds, cut_rounds, start_rounds, close_rounds, pin_rounds, aborted_rounds, moved_rounds, deliver_rounds, hear_rounds}
use Rattle.vs_settle.proofs.Rounds.Plans.{AreKnown, are_known, haul_rounds, plan_rounds}

-- ---- a set goes down, or is up again

-- only a move is answered
stopped_goes_on : (x : ℕ) (o : Operator) → RoutesFit o.routes (next_command o) → GoesOn o (stopped_move x o)
stopped_goes_on x o routes = at (o.moving && is_move_from x (move_of (next_command o))) refl
  where
    at : (t : Bool) → (o.moving && is_move_from x (move_of (next_command o))) ≡ t → GoesOn o (if t then answer o (Aborted Stopped) else o)
    at false e = record { routes = routes; balancing = λ h. h }
    at true e =
        let from = (both_are o.moving (is_move_from x (move_of (next_command o))) e).1 in
        record { routes = tt; balancing = λ h. absurd (other (λ k. is_move_from x (move_of k)) true o (λ g. absurd cc) from h) }

all_go_on : (s : State) (x : ℕ) → Fits s → (o : ℕ) → GoesOn (s.operator o) (stopped_move x (s.operator o))
all_go_on s x i o = stopped_goes_on x (s.operator o) (i.routes o)

stop_rounds : (s t : State) (o : ℕ) → Fits s → stop s o ≡ Ok t → Fits t
stop_rounds s t o i h =
    let p = can_stop s t o h in
    subst Fits p.gives (at p.x (other set_to_stop (Some p.x) (s.operator o) (λ e. absurd cc) p.named) (s.up p.x))
  where
    at : (x : ℕ) → (IsBalancing (s.operator o) → ⊥) → (up : Bool) → Fits (if up then put_operator (gone_down s x) o (answer (s.operator o) Done) else put_operator s o (answer (s.operator o) WasDown))
    at x not_balance true = down_fits s.operator _ s.bucket x i (put_each (λ q (u : Operator). GoesOn (s.operator q) u) (gone_down s x).operator o (answer (s.operator o) Done)
        (record { routes = tt; balancing = λ g. absurd (not_balance g) }) (all_go_on s x i))
    at x not_balance false = answer_fits s.operator s.bucket o WasDown i not_balance

fault_rounds : (s t : State) (x n : ℕ) (e : Recorded) → Fits s → fault s x n e ≡ Ok t → Fits t
fault_rounds s t x n e i h = subst Fits (can_fault s t x n e h).gives (down_fits s.operator _ s.bucket x i (all_go_on s x i))

restarted_rounds : (s : State) (x : ℕ) (kept : Bool) (pending : Option Change) → Fits s → Fits (restarted s x kept pending)
restarted_rounds s x true (Some change) i = let b = changes.bucket_of change in still_fits s.operator s.bucket b _ i (changed_transfer (s.bucket b) x change)
restarted_rounds s x true None i = i
restarted_rounds s x false (Some change) i = i
restarted_rounds s x false None i = i

restart_rounds : (s t : State) (x : ℕ) (kept : Bool) (by : RestartBy) → Fits s → restart s x kept by ≡ Ok t → Fits t
restart_rounds s t x kept Service i h = subst Fits (can_restart s t x kept h).gives (restarted_rounds s x kept (s.pending x) i)
restart_rounds s t x kept (Line o) i h =
    let p = can_restart_line s t x o kept h in
    subst Fits p.gives (at (other (λ k. is_restart_of k x) true (s.operator o) (λ e. absurd cc) p.named) (s.up x) kept (s.pending x))
  where
    at : (IsBalancing (s.operator o) → ⊥) → (u kept : Bool) (pending : Option Change) → Fits (if u then put_operator s o (answer (s.operator o) WasUp) else put_operator (restarted s x kept pending) o (answer (s.operator o) Done))
    at not_balance true kept pending = answer_fits s.operator s.bucket o WasUp i not_balance
    at not_balance false true (Some change) = answer_fits s.operator (kept_at s x change).bucket o Done (restarted_rounds s x true (Some change) i) not_balance
    at not_balance false true None = answer_fits s.operator s.bucket o Done i not_balance
    at not_balance false false (Some change) = answer_fits s.operator s.bucket o Done i not_balance
    at not_balance false false None = answer_fits s.operator s.bucket o Done i not_balance

-- ---- every event

step_rounds : (s t : State) (e : Event) → AreKnown s → Fits s → step s e ≡ Ok t → Fits t
step_rounds s t (Post c x) known i h = subst Fits (can_post s t c x h).gives i
step_rounds s t (Begin c) known i h = subst Fits (can_begin s t c h).gives i
step_rounds s t (Act c) known i h = act_rounds s t c i h
step_rounds s t (End c) known i h = subst Fits (can_end s t c h).gives i
step_rounds s t (Take c) known i h = subst Fits (can_take s t c h).gives i
step_rounds s t (Cut o) known i h = cut_rounds s t o i h
step_rounds s t (Start o) known i h = start_rounds s t o i h
step_rounds s t (Haul o x d) known i h = haul_rounds s t o x d i h
step_rounds s t (NotYet x b) known i h = let p = can_wait s t x b h in subst Fits p.gives (phase_fits s.operator s.bucket b x p.u _ _ i p.there (λ g. g) refl)
step_rounds s t (Freeze x b) known i h = let p = can_freeze s t x b h in subst Fits p.gives (phase_fits s.operator s.bucket b x p.u _ _ i p.there (λ g. g) refl)
step_rounds s t (Chunk x b) known i h = let p = can_chunk s t x b h in subst Fits p.gives (phase_fits s.operator s.bucket b x p.u _ _ i p.there (λ g. g) refl)
step_rounds s t (Seal x b) known i h = let p = can_seal s t x b h in subst Fits p.gives (phase_fits s.operator s.bucket b x p.u _ _ i p.there (λ g. g) refl)
step_rounds s t (Last x b) known i h = let p = can_last s t x b h in subst Fits p.gives (phase_fits s.operator s.bucket b x p.u _ _ i p.there (λ g. g) refl)
step_rounds s t (Abort x b) known i h = let p = can_abort s t x b h in subst Fits p.gives (aborted_rounds s b x p.u i (known b x p.u p.there).begun p.cause)
step_rounds s t (EndMove x b) known i h = let p = can_end_move s t x b h in subst Fits p.gives (moved_rounds s b x p.u i (known b x p.u p.there).begun)
step_rounds s t (Deliver x y) known i h = deliver_rounds s t x y i h
step_rounds s t (Hear x y) known i h = hear_rounds s t x y i h
step_rounds s t (Close o) known i h = close_rounds s t o i h
step_rounds s t (Ask x b) known i h = subst Fits (can_ask s t x b h).gives (still_fits s.operator s.bucket b _ i refl)
step_rounds s t (Condemn x b) known i h = subst Fits (can_condemn s t x b h).gives (still_fits s.operator s.bucket b _ i refl)
step_rounds s t (Wipe x b) known i h = subst Fits (can_wipe s t x b h).gives (still_fits s.operator s.bucket b _ i refl)
step_rounds s t (Forget x b) known i h = subst Fits (can_forget s t x b h).gives (still_fits s.operator s.bucket b _ i refl)
step_rounds s t (Pin o) known i h = pin_rounds s t o i h
step_rounds s t (Plan o) known i h = plan_rounds s t o known i h
step_rounds s t (Stop o) known i h = stop_rounds s t o i h
step_rounds s t (Fault x n e) known i h = fault_rounds s t x n e i h
step_rounds s t (Restart x kept by) known i h = restart_rounds s t x kept by i h

-- ---- a run

module _ (reaches : ReachesOn) (whole : WholeRuns) (begun : TransferRuns) where
  run_rounds : (s t : State) (es : List Event) → IsReached s → Fits s → run s es ≡ Ok t → Fits t
  run_rounds s t [] r i h = subst Fits (ok_is s t h) i
  run_rounds s t (v ∷ es) r i h =
      let next = bind_ok (step s v) (λ u. run u es) t h in
      run_rounds next.0 t es (reaches s next.0 v r next.1) (step_rounds s next.0 v (are_known whole begun s r) i next.1) next.2

  pub reached_rounds : (s : State) → IsReached s → Fits s
  reached_rounds s r =
      let start = opening r.config r.scripts r.held in
      let first : IsReached start = record { config = r.config; scripts = r.scripts; held = r.held; events = []; opens = r.opens; runs = refl } in
      run_rounds start s r.events first (record { routes = λ o. tt; hauls = λ b x. tt }) r.runs
