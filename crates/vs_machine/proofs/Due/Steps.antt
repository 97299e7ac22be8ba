-- Whoever is to be answered is there, and no more is answered of a script than it has.
use Rattle.std.proofs.Common.{◌≡◌, ℕ, arith, Bool, true, false, refl, subst, List, [], ◌∷◌, Option, Some, None, Ok}
use Rattle.std.specs.Prelude.{◌≢◌, ◌==◌, ◌&&◌, if◌then◌else◌}
use Rattle.std.proofs.lemmas.Bool.{eqb-true}
use Rattle.vs_calls.specs.Progress.{lost, is_at_set}
use Rattle.vs_event.specs.declared.event.Event.{Event}
use Rattle.vs_event.specs.declared.event.Event.TheVariants.{Post, Begin, Act, End, Take, Cut, Start, Haul, NotYet, Freeze, Chunk, Seal, Last, Abort, EndMove, Deliver, Hear, Close, Ask, Condemn, Wipe, Forget, Pin, Plan, Stop, Fault, Restart}
use Rattle.vs_event.specs.declared.event.Recorded.{Recorded}
use Rattle.vs_event.specs.declared.event.RestartBy.{RestartBy}
use Rattle.vs_event.specs.declared.event.RestartBy.TheVariants.{Line, Service}
use Rattle.vs_record.specs.Change as changes
use Rattle.vs_record.specs.Change.{Change}
use Rattle.vs_send.specs.declared.abort.AbortCause.TheVariants.{Stopped}
use Rattle.vs_send.specs.declared.transfer.By.{By}
use Rattle.vs_send.specs.declared.transfer.By.TheVariants as by
use Rattle.vs_send.specs.declared.transfer.Transfer.{Transfer}
use Rattle.vs_machine.specs.declared.outcome.CommandOutcome.TheVariants.{Done, WasDown, WasUp, Aborted}
use Rattle.vs_machine.specs.State.{State, Client, Operator, sets_of, next_command, answer, is_set, put_operator, with_progress}
use Rattle.vs_machine.specs.Step.{step, run}
use Rattle.vs_machine.specs.Kinds.Sender.{move_of}
use Rattle.vs_machine.specs.Kinds.Stops.{lost_at, stopped_move, is_move_from, gone_down, set_to_stop, stop, fault, is_restart_of, restart, restarted, up_again, kept_at}
use Rattle.vs_machine.specs.Laws.{IsMoving, IsBegunBy, WithinRuns, PostedRuns, TransferRuns}
use Rattle.vs_machine.specs.Opening.{opening}
use Rattle.vs_machine.specs.Runs.{IsReached}
use Rattle.vs_machine.proofs.Can.Others.{can_ask, can_condemn, can_wipe, can_forget}
use Rattle.vs_machine.proofs.Can.Sender.{can_wait, can_freeze, can_chunk, can_seal, can_last, can_abort, can_end_move}
use Rattle.vs_machine.proofs.Can.Stops.{can_stop, can_fault, can_restart, can_restart_line}
use Rattle.vs_machine.proofs.Frame.{put_each, put_others}
use Rattle.vs_machine.proofs.Possible.{bind_ok, ok_is, both_are}
use Rattle.vs_machine.proofs.Due.Frame.{still_fits, PresentFits, MoveFits, IsAsked, DueFits, IsDue, has_next, due, answered_asked, answer_fits}
use Rattle.vs_machine.proofs.Leaves.{changed_transfer}
use Rattle.vs_machine.proofs.Order.Passing.{at_set_busy}
use Rattle.vs_machine.proofs.Due.Calls.{progress_fits, post_due, begin_due, act_due, end_due, take_due, cut_due}
use Rattle.vs_machine.proofs.Due.Moves.{start_due, haul_due, phase_due, aborted_due, moved_due, deliver_due, hear_due, close_due, pin_due, plan_due}

-- ---- a set goes down, or is up again

lost_fits : (n x : ℕ) (c : Client) → PresentFits n c → PresentFits n (lost_at x c)
lost_fits n x c i = at (is_at_set c.present.stage && is_set c.present.set x) refl
  where
    at : (t : Bool) → (is_at_set c.present.stage && is_set c.present.set x) ≡ t → PresentFits n (if t then with_progress c (lost c.present) else c)
    at true e = progress_fits n c (lost c.present) i (at_set_busy c.present.stage (both_are _ _ e).0) refl
    at false e = i

-- an operator once set x is down: its moves from other sets go on
record StaysAt (x : ℕ) (old new : Operator) : Type 0 where
  asked : IsAsked new
  moves : (b y d : ℕ) → y ≢ x → IsMoving old b y d → IsMoving new b y d

stopped_stays : (x : ℕ) (o : Operator) → IsAsked o → StaysAt x o (stopped_move x o)
stopped_stays x o asked = at (o.moving && is_move_from x (move_of (next_command o))) refl
  where
    at : (t : Bool) → (o.moving && is_move_from x (move_of (next_command o))) ≡ t → StaysAt x o (if t then answer o (Aborted Stopped) else o)
    at false e = record { asked = asked; moves = λ b y d ne h. h }
    at true e =
        let from = (both_are o.moving (is_move_from x (move_of (next_command o))) e).1 in
        record {
          asked = answered_asked o _ (has_next (λ k. is_move_from x (move_of k)) true o (λ g. absurd cc) from);
          moves = λ b y d ne h.
              let here : (y == x) ≡ true = subst (λ k. is_move_from x (move_of k) ≡ true) h.named from in
              absurd (ne (eqb-true y x here));
        }

down_due : (s : State) (x : ℕ) (os : ℕ → Operator) → DueFits s → ((o : ℕ) → StaysAt x (s.operator o) (os o)) → DueFits (record (gone_down s x) { operator = os })
down_due s x os i stays = record {
  clients = λ c. lost_fits (sets_of s) x (s.client c) (i.clients c);
  operators = λ o. (stays o).asked;
  moves = λ b. put_others (MoveFits s.operators os b) (s.bucket b).transfer x None tt (λ y ne. kept b y ne ((s.bucket b).transfer y) (i.moves b y));
}
  where
    begun_still : (b y d : ℕ) → y ≢ x → (w : By) → IsBegunBy s.operators s.operator b y d w → IsBegunBy s.operators os b y d w
    begun_still b y d ne (by.Command o) h = (h.0, (stays o).moves b y d ne h.1)
    begun_still b y d ne (by.Haul o) h = h

    kept : (b y : ℕ) → y ≢ x → (v : Option Transfer) → MoveFits s.operators s.operator b y v → MoveFits s.operators os b y v
    kept b y ne None h = tt
    kept b y ne (Some u) h = begun_still b y u.dest ne u.by h

stop_due : (s t : State) (o : ℕ) → DueFits s → stop s o ≡ Ok t → DueFits t
stop_due s t o i h =
    let p = can_stop s t o h in
    subst DueFits p.gives (at p.x (due set_to_stop (Some p.x) (s.operator o) (λ e. absurd cc) (λ b x d e. absurd cc) p.named) (s.up p.x))
  where
    at : (x : ℕ) → IsDue (s.operator o) → (up : Bool) → DueFits (if up then put_operator (gone_down s x) o (answer (s.operator o) Done) else put_operator s o (answer (s.operator o) WasDown))
    at x d true = down_due s x _ i (put_each (λ q (u : Operator). StaysAt x (s.operator q) u) (gone_down s x).operator o (answer (s.operator o) Done)
        (record { asked = answered_asked (s.operator o) Done d.there; moves = λ b y e ne g. absurd (d.still b y e g) }) (λ q. stopped_stays x (s.operator q) (i.operators q)))
    at x d false = answer_fits s o WasDown i d

fault_due : (s t : State) (x n : ℕ) (e : Recorded) → DueFits s → fault s x n e ≡ Ok t → DueFits t
fault_due s t x n e i h =
    let down = down_due s x _ i (λ o. stopped_stays x (s.operator o) (i.operators o)) in
    subst DueFits (can_fault s t x n e h).gives (record { clients = down.clients; operators = down.operators; moves = down.moves })

up_due : (s : State) (x : ℕ) → DueFits s → DueFits (up_again s x)
up_due s x i = record { clients = i.clients; operators = i.operators; moves = i.moves }

kept_due : (s : State) (x : ℕ) (change : Change) → DueFits s → DueFits (kept_at s x change)
kept_due s x change i = let b = changes.bucket_of change in still_fits (up_again s x) b _ s.link (up_due s x i) (changed_transfer (s.bucket b) x change)

restart_due : (s t : State) (x : ℕ) (kept : Bool) (by : RestartBy) → DueFits s → restart s x kept by ≡ Ok t → DueFits t
restart_due s t x kept Service i h = subst DueFits (can_restart s t x kept h).gives (at kept (s.pending x))
  where
    at : (kept : Bool) (pending : Option Change) → DueFits (restarted s x kept pending)
    at true (Some change) = kept_due s x change i
    at true None = up_due s x i
    at false (Some change) = up_due s x i
    at false None = up_due s x i
restart_due s t x kept (Line o) i h =
    let p = can_restart_line s t x o kept h in
    subst DueFits p.gives (at (due (λ k. is_restart_of k x) true (s.operator o) (λ e. absurd cc) (λ b y d e. absurd cc) p.named) (s.up x) kept (s.pending x))
  where
    at : IsDue (s.operator o) → (u kept : Bool) (pending : Option Change) → DueFits (if u then put_operator s o (answer (s.operator o) WasUp) else put_operator (restarted s x kept pending) o (answer (s.operator o) Done))
    at d true kept pending = answer_fits s o WasUp i d
    at d false true (Some change) = answer_fits (kept_at s x change) o Done (kept_due s x change i) d
    at d false true None = answer_fits (up_again s x) o Done (up_due s x i) d
    at d false false (Some change) = answer_fits (up_again s x) o Done (up_due s x i) d
    at d false false None = answer_fits (up_again s x) o Done (up_due s x i) d

-- ---- every event

step_due : (s t : State) (e : Event) → DueFits s → step s e ≡ Ok t → DueFits t
step_due s t (Post c x) i h = post_due s t c x i h
step_due s t (Begin c) i h = begin_due s t c i h
step_due s t (Act c) i h = act_due s t c i h
step_due s t (End c) i h = end_due s t c i h
step_due s t (Take c) i h = take_due s t c i h
step_due s t (Cut o) i h = cut_due s t o i h
step_due s t (Start o) i h = start_due s t o i h
step_due s t (Haul o x d) i h = haul_due s t o x d i h
step_due s t (NotYet x b) i h = let p = can_wait s t x b h in subst DueFits p.gives (phase_due s b x p.u _ _ s.link i p.there (λ g. g) refl)
step_due s t (Freeze x b) i h = let p = can_freeze s t x b h in subst DueFits p.gives (phase_due s b x p.u _ _ s.link i p.there (λ g. g) refl)
step_due s t (Chunk x b) i h = let p = can_chunk s t x b h in subst DueFits p.gives (phase_due s b x p.u _ _ _ i p.there (λ g. g) refl)
step_due s t (Seal x b) i h = let p = can_seal s t x b h in subst DueFits p.gives (phase_due s b x p.u _ _ s.link i p.there (λ g. g) refl)
step_due s t (Last x b) i h = let p = can_last s t x b h in subst DueFits p.gives (phase_due s b x p.u _ _ _ i p.there (λ g. g) refl)
step_due s t (Abort x b) i h = let p = can_abort s t x b h in subst DueFits p.gives (aborted_due s b x p.u i p.there p.cause)
step_due s t (EndMove x b) i h = let p = can_end_move s t x b h in subst DueFits p.gives (moved_due s b x p.u i p.there)
step_due s t (Deliver x y) i h = deliver_due s t x y i h
step_due s t (Hear x y) i h = hear_due s t x y i h
step_due s t (Close o) i h = close_due s t o i h
step_due s t (Ask x b) i h = subst DueFits (can_ask s t x b h).gives (still_fits s b _ _ i refl)
step_due s t (Condemn x b) i h = subst DueFits (can_condemn s t x b h).gives (still_fits s b _ s.link i refl)
step_due s t (Wipe x b) i h = subst DueFits (can_wipe s t x b h).gives (still_fits s b _ s.link i refl)
step_due s t (Forget x b) i h = subst DueFits (can_forget s t x b h).gives (still_fits s b _ s.link i refl)
step_due s t (Pin o) i h = pin_due s t o i h
step_due s t (Plan o) i h = plan_due s t o i h
step_due s t (Stop o) i h = stop_due s t o i h
step_due s t (Fault x n e) i h = fault_due s t x n e i h
step_due s t (Restart x kept by) i h = restart_due s t x kept by i h

-- ---- a run

run_due : (s t : State) (es : List Event) → DueFits s → run s es ≡ Ok t → DueFits t
run_due s t [] i h = subst DueFits (ok_is s t h) i
run_due s t (v ∷ es) i h =
    let next = bind_ok (step s v) (λ u. run u es) t h in
    run_due next.0 t es (step_due s next.0 v i next.1) next.2

reached_due : (s : State) → IsReached s → DueFits s
reached_due s r = run_due (opening r.config r.scripts r.held) s r.events (record {
  clients = λ c. record { within = omega arith; present = λ busy. absurd (cc (busy)) };
  operators = λ o. omega arith;
  moves = λ b x. tt;
}) r.runs

pub within_runs : WithinRuns
within_runs s r = let i = reached_due s r in record { clients = λ c. (i.clients c).within; operators = i.operators }

pub posted_runs : PostedRuns
posted_runs s r c = ((reached_due s r).clients c).present

pub transfer_runs : TransferRuns
transfer_runs s r b x t at = subst (MoveFits s.operators s.operator b x) at ((reached_due s r).moves b x)
