-- What an event makes of an operator.
use Rattle.std.proofs.Common.{◌≡◌, ℕ, inl, inr, ◌≤◌, arith, Bool, true, false, refl, sym, ap, subst, ◌∙◌, List, [], ◌∷◌, Option, Some, None, Ok}
use Rattle.std.specs.Prelude.{◌||◌, ◌&&◌, ◌==◌, ◌⊎◌, not, if◌then◌else◌, nat_lt}
use Rattle.std.proofs.lemmas.Bool.Decides.{nat_tests}
use Rattle.vs_event.specs.declared.event.Event.{Event}
use Rattle.vs_event.specs.declared.event.Event.TheVariants.{Post, Begin, Act, End, Take, Cut, Start, Haul, NotYet, Freeze, Chunk, Seal, Last, Abort, EndMove, Deliver, Hear, Close, Ask, Condemn, Wipe, Forget, Pin, Plan, Stop, Fault, Restart}
use Rattle.vs_event.specs.declared.event.RestartBy.{RestartBy}
use Rattle.vs_event.specs.declared.event.RestartBy.TheVariants.{Line, Service}
use Rattle.vs_event.specs.declared.reason.Reason.TheVariants as reason
use Rattle.vs_balance.specs.declared.route.Route.{Route}
use Rattle.vs_link.specs.Connection as link
use Rattle.vs_record.specs.Change.{Change}
use Rattle.vs_send.specs.declared.abort.AbortCause.{AbortCause}
use Rattle.vs_send.specs.declared.abort.AbortCause.TheVariants as cause
use Rattle.vs_send.specs.declared.transfer.By.{By}
use Rattle.vs_send.specs.declared.transfer.By.TheVariants as by
use Rattle.vs_send.specs.declared.transfer.Phase.TheVariants as phase
use Rattle.vs_send.specs.declared.transfer.Transfer.{Transfer}
use Rattle.vs_machine.specs.declared.outcome.CommandFault.{CommandFault}
use Rattle.vs_machine.specs.declared.outcome.CommandFault.TheVariants.{Down}
use Rattle.vs_machine.specs.declared.outcome.CommandOutcome.{CommandOutcome}
use Rattle.vs_machine.specs.declared.outcome.CommandOutcome.TheVariants.{Moved, Done, Late, WasDown, WasUp, Balanced, Stuck, Refused, Aborted}
use Rattle.vs_machine.specs.Tables.{put, least_to}
use Rattle.vs_machine.specs.State.{State, Operator, sets_of, next_command, answer, put_client, put_operator, with_progress}
use Rattle.vs_machine.specs.Step.{step}
use Rattle.vs_machine.specs.Causes.Calls.{TakesDown}
use Rattle.vs_machine.specs.Causes.Commands.{IsAnsweredBy, AreAllUp, is_unbalanced, routes_in, FindsSetToStop, FindsSetToRestart}
use Rattle.vs_calls.specs.Progress.{cut}
use Rattle.vs_machine.specs.Kinds.Calls.{cut_call, call_to_cut, is_answered}
use Rattle.vs_machine.specs.Kinds.Connections.{is_null, deliver, after_deliver}
use Rattle.vs_machine.specs.Kinds.Faults.{send_fault}
use Rattle.vs_machine.specs.Kinds.Pinning.{Pinning, pinning_of, pinning_fault, pin, after_pin}
use Rattle.vs_machine.specs.Kinds.Rebalancing.{haul, after_haul, bucket_to_haul, plan, plan_round, is_in_move, planned, with_round}
use Rattle.vs_machine.specs.Kinds.Sender.{Move, move_of, start, after_start, abort, end_move, cause_at, answered_by, moved_by}
use Rattle.vs_machine.specs.Kinds.Stops.{stopped_move, is_move_from, gone_down, stop, restart, restarted}
use Rattle.vs_machine.proofs.Can.Calls.{can_post, can_begin, can_act, can_end, can_take, can_cut}
use Rattle.vs_machine.proofs.Can.Others.{can_deliver, can_hear, can_close, can_ask, can_condemn, can_wipe, can_forget, can_pin, can_haul, can_plan}
use Rattle.vs_machine.proofs.Can.Sender.{can_start, can_wait, can_freeze, can_chunk, can_seal, can_last, can_abort, can_end_move}
use Rattle.vs_machine.proofs.Can.Stops.{can_stop, can_fault, can_restart, can_restart_line}
use Rattle.vs_machine.proofs.Frame.{put_each}
use Rattle.vs_machine.proofs.Possible.{both_are, ok_is, wants_none_ok}

-- an answer that doesn't end a move
abbrev pub IsPlain : CommandOutcome → Type 0
IsPlain Moved = ⊥
IsPlain (Aborted why) = ⊥
IsPlain outcome = Unit {0}

-- how the operator came to this answer
pub data AnswerBy (s : State) (e : Event) (o : ℕ) (out : CommandOutcome) : Type 0 where
  Plainly : IsPlain out → IsAnsweredBy s e o out → AnswerBy s e o out
  ByEnd : (x b : ℕ) (u : Transfer) → e ≡ EndMove x b → (s.bucket b).transfer x ≡ Some u → u.by ≡ by.Command o → u.phase ≡ phase.Done → out ≡ Moved → AnswerBy s e o out
  ByAbort : (x b : ℕ) (u : Transfer) (why : AbortCause) → e ≡ Abort x b → (s.bucket b).transfer x ≡ Some u → u.by ≡ by.Command o → cause_at s x b u ≡ Some why → out ≡ Aborted why → AnswerBy s e o out
  ByStop : (x : ℕ) → TakesDown s e x → s.up x ≡ true → (s.operator o).moving ≡ true → is_move_from x (move_of (next_command (s.operator o))) ≡ true → out ≡ Aborted cause.Stopped → AnswerBy s e o out

-- the operator after an event, which was possible
pub data OperatorTurn (s : State) (e : Event) (o : ℕ) (new : Operator) : Type 0 where
  Kept : new.answered ≡ (s.operator o).answered → (new.moving ≡ true → (s.operator o).moving ≡ true) → OperatorTurn s e o new
  Begins : (m : Move) → e ≡ Start o → move_of (next_command (s.operator o)) ≡ Some m → new.answered ≡ (s.operator o).answered → OperatorTurn s e o new
  Answers : (out : CommandOutcome) → AnswerBy s e o out → new ≡ answer (s.operator o) out → OperatorTurn s e o new

abbrev OperatorTurns : State → Event → State → Type 0
OperatorTurns s e t = (o : ℕ) → OperatorTurn s e o (t.operator o)

module _ (s : State) (e : Event) where
  nobody : (o : ℕ) → OperatorTurn s e o (s.operator o)
  nobody o = Kept refl (λ h. h)

  -- one operator changes
  one : (d : ℕ) (new : Operator) → OperatorTurn s e d new → (o : ℕ) → OperatorTurn s e o (put s.operator d new o)
  one d new h = put_each (λ q (u : Operator). OperatorTurn s e q u) s.operator d new h nobody

  plainly : (d : ℕ) (out : CommandOutcome) → IsPlain out → IsAnsweredBy s e d out → (o : ℕ) → OperatorTurn s e o (put s.operator d (answer (s.operator d) out) o)
  plainly d out h found = one d (answer (s.operator d) out) (Answers out (Plainly h found) refl)

  stopped : (x : ℕ) → TakesDown s e x → s.up x ≡ true → (o : ℕ) → OperatorTurn s e o (stopped_move x (s.operator o))
  stopped x down up o = at ((s.operator o).moving && is_move_from x (move_of (next_command (s.operator o)))) refl
    where
      at : (t : Bool) → ((s.operator o).moving && is_move_from x (move_of (next_command (s.operator o)))) ≡ t → OperatorTurn s e o (if t then answer (s.operator o) (Aborted cause.Stopped) else s.operator o)
      at true is = let both = both_are (s.operator o).moving (is_move_from x (move_of (next_command (s.operator o)))) is in Answers (Aborted cause.Stopped) (ByStop x down up both.0 both.1 refl) refl
      at false is = Kept refl (λ h. h)

cut_operators : (s t : State) (o : ℕ) → cut_call s o ≡ Ok t → OperatorTurns s (Cut o) t
cut_operators s t o h = let p = can_cut s t o h in subst (OperatorTurns s (Cut o)) p.gives (at p.c p.n p.named (is_answered (s.client p.c) p.n) refl)
  where
    at : (d n : ℕ) → call_to_cut (next_command (s.operator o)) ≡ Some (d, n) → (late : Bool) → is_answered (s.client d) n ≡ late
        → OperatorTurns s (Cut o) (if late then put_operator s o (answer (s.operator o) Late) else put_operator (put_client s d (with_progress (s.client d) (cut (s.client d).present))) o (answer (s.operator o) Done))
    at d n named true is q = plainly s (Cut o) o Late tt (record { event = refl; client = d; number = n; named = named; answered = grind (arith, nat_tests, is) }) q
    at d n named false is q = plainly s (Cut o) o Done tt (inl (record { event = refl; client = d; number = n; named = named; unanswered = grind (arith, nat_tests, is) })) q

start_operators : (s t : State) (o : ℕ) → start s o ≡ Ok t → OperatorTurns s (Start o) t
start_operators s t o h = let p = can_start s t o h in subst (OperatorTurns s (Start o)) p.gives (at p.m p.named (send_fault s p.m.bucket p.m.from p.m.to) refl)
  where
    at : (m : Move) → move_of (next_command (s.operator o)) ≡ Some m → (f : Option CommandFault) → send_fault s m.bucket m.from m.to ≡ f → OperatorTurns s (Start o) (after_start s o m f)
    at m named (Some f) is q = plainly s (Start o) o (Refused f) tt (inl (record { event = refl; move = m; named = named; faulty = is })) q
    at m named None is q = one s (Start o) o _ (Begins m refl named refl) q

haul_operators : (s t : State) (o x d : ℕ) → haul s o x d ≡ Ok t → OperatorTurns s (Haul o x d) t
haul_operators s t o x d h = let p = can_haul s t o x d h in subst (OperatorTurns s (Haul o x d)) p.gives (at (bucket_to_haul s x d))
  where
    at : (v : Option ℕ) → OperatorTurns s (Haul o x d) (after_haul s o x d v)
    at None q = one s (Haul o x d) o _ (Kept refl (λ g. g)) q
    at (Some b) q = one s (Haul o x d) o _ (Kept refl (λ g. g)) q

deliver_operators : (s t : State) (x y : ℕ) → deliver s x y ≡ Ok t → OperatorTurns s (Deliver x y) t
deliver_operators s t x y h = let p = can_deliver s t x y h in subst (OperatorTurns s (Deliver x y)) p.gives (at p.sent p.sent.message)
  where
    at : (m : link.Sent) (v : link.Message) → OperatorTurns s (Deliver x y) (after_deliver s x y m v)
    at m (link.Chunk b page) q = nobody s (Deliver x y) q
    at m (link.Last b) q = nobody s (Deliver x y) q
    at m (link.Stat b) q = nobody s (Deliver x y) q

pin_operators : (s t : State) (o : ℕ) → pin s o ≡ Ok t → OperatorTurns s (Pin o) t
pin_operators s t o h = let p = can_pin s t o h in subst (OperatorTurns s (Pin o)) p.gives (at p.p p.named (pinning_fault s p.p p.p.status) refl)
  where
    at : (r : Pinning) → pinning_of (next_command (s.operator o)) ≡ Some r → (f : Option CommandFault) → pinning_fault s r r.status ≡ f → OperatorTurns s (Pin o) (after_pin s o r f)
    at r named (Some f) is q = plainly s (Pin o) o (Refused f) tt (inr (inl (record { event = refl; pinning = r; named = named; faulty = is }))) q
    at r named None is q = plainly s (Pin o) o Done tt (inr (inr (inl (record { event = refl; pinning = r; named = named; faultless = is })))) q

null_is : (routes : List Route) → is_null routes ≡ true → routes ≡ []
null_is [] h = refl
null_is (r ∷ rs) h = absurd (cc h)

-- a round that was planned, where all sets are up
planned_turn : (s : State) (o : ℕ) → AreAllUp s → (near : Bool) → is_unbalanced s ≡ not near → OperatorTurn s (Plan o) o (planned (s.operator o) near (routes_in s))
planned_turn s o up true is = Answers (Balanced (s.operator o).rounds) (Plainly tt (record { event = refl; up = up; near = is; counted = refl })) refl
planned_turn s o up false is = at (nat_lt 0 (s.operator o).rounds) ((s.operator o).moved == 0) (is_null (routes_in s)) refl refl refl
  where
    stuck : ((1 ≤ (s.operator o).rounds) × ((s.operator o).moved ≡ 0)) ⊎ (routes_in s ≡ []) → OperatorTurn s (Plan o) o (answer (s.operator o) (Stuck (s.operator o).rounds))
    stuck ended = Answers (Stuck (s.operator o).rounds) (Plainly tt (record { event = refl; up = up; far = is; ended = ended; counted = refl })) refl

    at : (some none null : Bool) → nat_lt 0 (s.operator o).rounds ≡ some → ((s.operator o).moved == 0) ≡ none → is_null (routes_in s) ≡ null
        → OperatorTurn s (Plan o) o (if (some && none) || null then answer (s.operator o) (Stuck (s.operator o).rounds) else with_round (s.operator o) (routes_in s))
    at true true null f g k = stuck (inl (grind (arith, nat_tests, f), grind (arith, nat_tests, g)))
    at true false true f g k = stuck (inr (null_is (routes_in s) k))
    at true false false f g k = Kept refl (λ h. h)
    at false none true f g k = stuck (inr (null_is (routes_in s) k))
    at false none false f g k = Kept refl (λ h. h)

plan_operators : (s t : State) (o : ℕ) → plan s o ≡ Ok t → OperatorTurns s (Plan o) t
plan_operators s t o h = at (least_to (λ x. not (s.up x)) (sets_of s)) refl (can_plan s t o h).gives
  where
    twice : (b : Bool) → b ≡ not (not b)
    twice true = refl
    twice false = refl

    at : (down : Option ℕ) → least_to (λ x. not (s.up x)) (sets_of s) ≡ down → plan_round s o down ≡ Ok t → OperatorTurns s (Plan o) t
    at (Some x) is g = subst (OperatorTurns s (Plan o)) (ok_is _ t g) (plainly s (Plan o) o (Refused (Down x)) tt (inr (inr (record { event = refl; set = x; first = is; faulty = refl }))))
    at None is g =
        let k = wants_none_ok (least_to (is_in_move s) s.config.bucket_count) reason.Moving _ t g in
        subst (OperatorTurns s (Plan o)) (ok_is _ t k.1) (one s (Plan o) o _ (planned_turn s o is (not (is_unbalanced s)) (twice (is_unbalanced s))))

stop_operators : (s t : State) (o : ℕ) → stop s o ≡ Ok t → OperatorTurns s (Stop o) t
stop_operators s t o h = let p = can_stop s t o h in subst (OperatorTurns s (Stop o)) p.gives (at p.x p.named (s.up p.x) refl)
  where
    found : (x : ℕ) (up : Bool) → TakesDown s (Stop o) x → s.up x ≡ up → FindsSetToStop s (Stop o) o up
    found x up named is = record { event = refl; set = x; named = named; found = is }

    at : (x : ℕ) → TakesDown s (Stop o) x → (up : Bool) → s.up x ≡ up → OperatorTurns s (Stop o) (if up then put_operator (gone_down s x) o (answer (s.operator o) Done) else put_operator s o (answer (s.operator o) WasDown))
    at x named true is = put_each (λ q (u : Operator). OperatorTurn s (Stop o) q u) (gone_down s x).operator o (answer (s.operator o) Done) (Answers Done (Plainly tt (inr (inr (inr (inl (found x true named is)))))) refl) (stopped s (Stop o) x named is)
    at x named false is = plainly s (Stop o) o WasDown tt (found x false named is)

restarted_same : (s : State) (x : ℕ) (kept : Bool) (pending : Option Change) → (restarted s x kept pending).operator ≡ s.operator
restarted_same s x true (Some change) = refl
restarted_same s x true None = refl
restarted_same s x false (Some change) = refl
restarted_same s x false None = refl

restart_operators : (s t : State) (x : ℕ) (kept : Bool) (w : RestartBy) → restart s x kept w ≡ Ok t → OperatorTurns s (Restart x kept w) t
restart_operators s t x kept Service h =
    let e : Event = Restart x kept Service in
    subst (OperatorTurns s e) (can_restart s t x kept h).gives (λ o. Kept (ap (λ (os : ℕ → Operator). (os o).answered) (restarted_same s x kept (s.pending x))) (λ h. ap (λ (os : ℕ → Operator). (os o).moving) (sym (restarted_same s x kept (s.pending x))) ∙ h))
restart_operators s t x kept (Line o) h = subst (OperatorTurns s (Restart x kept (Line o))) (can_restart_line s t x o kept h).gives (at (s.up x) refl kept (s.pending x))
  where
    found : (up : Bool) → s.up x ≡ up → FindsSetToRestart s (Restart x kept (Line o)) o up
    found up is = record { set = x; kept = kept; event = refl; found = is }

    done : s.up x ≡ false → (q : ℕ) → OperatorTurn s (Restart x kept (Line o)) q (put s.operator o (answer (s.operator o) Done) q)
    done is = plainly s (Restart x kept (Line o)) o Done tt (inr (inr (inr (inr (found false is)))))

    at : (u : Bool) → s.up x ≡ u → (kept_now : Bool) (pending : Option Change) → OperatorTurns s (Restart x kept (Line o)) (if u then put_operator s o (answer (s.operator o) WasUp) else put_operator (restarted s x kept_now pending) o (answer (s.operator o) Done))
    at true is k v q = plainly s (Restart x kept (Line o)) o WasUp tt (found true is) q
    at false is true (Some change) q = done is q
    at false is true None q = done is q
    at false is false (Some change) q = done is q
    at false is false None q = done is q

abort_operators : (s t : State) (x b : ℕ) → abort s x b ≡ Ok t → OperatorTurns s (Abort x b) t
abort_operators s t x b h = let p = can_abort s t x b h in subst (OperatorTurns s (Abort x b)) p.gives (at p.u p.there p.cause p.caused p.u.by refl)
  where
    at : (u : Transfer) → (s.bucket b).transfer x ≡ Some u → (why : AbortCause) → cause_at s x b u ≡ Some why → (w : By) → u.by ≡ w → (o : ℕ) → OperatorTurn s (Abort x b) o (answered_by w s.operator (Aborted why) o)
    at u there why caused (by.Command k) is = one s (Abort x b) k _ (Answers (Aborted why) (ByAbort x b u why refl there is caused refl) refl)
    at u there why caused (by.Haul k) is = nobody s (Abort x b)

end_operators : (s t : State) (x b : ℕ) → end_move s x b ≡ Ok t → OperatorTurns s (EndMove x b) t
end_operators s t x b h = let p = can_end_move s t x b h in subst (OperatorTurns s (EndMove x b)) p.gives (at p.u p.there p.done p.u.by refl)
  where
    at : (u : Transfer) → (s.bucket b).transfer x ≡ Some u → u.phase ≡ phase.Done → (w : By) → u.by ≡ w → (o : ℕ) → OperatorTurn s (EndMove x b) o (moved_by w s.operator o)
    at u there done (by.Command k) is = one s (EndMove x b) k _ (Answers Moved (ByEnd x b u refl there is done refl) refl)
    at u there done (by.Haul k) is = one s (EndMove x b) k _ (Kept refl (λ h. h))

pub step_operators : (s t : State) (e : Event) → step s e ≡ Ok t → (o : ℕ) → OperatorTurn s e o (t.operator o)
step_operators s t (Post d x) h = subst (OperatorTurns s (Post d x)) (can_post s t d x h).gives (nobody s (Post d x))
step_operators s t (Begin d) h = subst (OperatorTurns s (Begin d)) (can_begin s t d h).gives (nobody s (Begin d))
step_operators s t (Act d) h = subst (OperatorTurns s (Act d)) (can_act s t d h).gives (nobody s (Act d))
step_operators s t (End d) h = subst (OperatorTurns s (End d)) (can_end s t d h).gives (nobody s (End d))
step_operators s t (Take d) h = subst (OperatorTurns s (Take d)) (can_take s t d h).gives (nobody s (Take d))
step_operators s t (Cut o) h = cut_operators s t o h
step_operators s t (Start o) h = start_operators s t o h
step_operators s t (Haul o x d) h = haul_operators s t o x d h
step_operators s t (Deliver x y) h = deliver_operators s t x y h
step_operators s t (Pin o) h = pin_operators s t o h
step_operators s t (Plan o) h = plan_operators s t o h
step_operators s t (Stop o) h = stop_operators s t o h
step_operators s t (Fault x n r) h = subst (OperatorTurns s (Fault x n r)) (can_fault s t x n r h).gives (stopped s (Fault x n r) x refl (can_fault s t x n r h).x_up)
step_operators s t (Restart x kept w) h = restart_operators s t x kept w h
step_operators s t (NotYet x b) h = subst (OperatorTurns s (NotYet x b)) (can_wait s t x b h).gives (nobody s (NotYet x b))
step_operators s t (Freeze x b) h = subst (OperatorTurns s (Freeze x b)) (can_freeze s t x b h).gives (nobody s (Freeze x b))
step_operators s t (Chunk x b) h = subst (OperatorTurns s (Chunk x b)) (can_chunk s t x b h).gives (nobody s (Chunk x b))
step_operators s t (Seal x b) h = subst (OperatorTurns s (Seal x b)) (can_seal s t x b h).gives (nobody s (Seal x b))
step_operators s t (Last x b) h = subst (OperatorTurns s (Last x b)) (can_last s t x b h).gives (nobody s (Last x b))
step_operators s t (Abort x b) h = abort_operators s t x b h
step_operators s t (EndMove x b) h = end_operators s t x b h
step_operators s t (Hear x y) h = subst (OperatorTurns s (Hear x y)) (can_hear s t x y h).gives (nobody s (Hear x y))
step_operators s t (Close o) h = subst (OperatorTurns s (Close o)) (can_close s t o h).gives (plainly s (Close o) o Done tt (inr (inl refl)))
step_operators s t (Ask x b) h = subst (OperatorTurns s (Ask x b)) (can_ask s t x b h).gives (nobody s (Ask x b))
step_operators s t (Condemn x b) h = subst (OperatorTurns s (Condemn x b)) (can_condemn s t x b h).gives (nobody s (Condemn x b))
step_operators s t (Wipe x b) h = subst (OperatorTurns s (Wipe x b)) (can_wipe s t x b h).gives (nobody s (Wipe x b))
step_operators s t (Forget x b) h = subst (OperatorTurns s (Forget x b)) (can_forget s t x b h).gives (nobody s (Forget x b))
