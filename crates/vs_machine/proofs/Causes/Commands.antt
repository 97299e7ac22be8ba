-- An event answers an operator's next command exactly where it finds what the answer says.
use Rattle.std.proofs.Common.{◌≡◌, ℕ, inl, inr, ◌≤◌, arith, Bool, true, false, refl, sym, ap, subst, ◌∙◌, List, [], ◌∷◌, ◌++◌, length, Option, Some, None, Ok}
use Rattle.std.specs.Prelude.{◌≢◌, ◌⊎◌, ◌&&◌, ◌||◌, ◌==◌, not, nat_lt, if◌then◌else◌}
use Rattle.std.proofs.lemmas.Bool.Decides.{nat_tests}
use Rattle.std.proofs.lemmas.List.{length-append}
use Rattle.vs_balance.specs.declared.route.Route.{Route}
use Rattle.vs_calls.specs.Progress.{cut}
use Rattle.vs_event.specs.declared.event.Event.{Event}
use Rattle.vs_event.specs.declared.event.Event.TheVariants.{Post, Begin, Act, End, Take, Cut, Start, Haul, NotYet, Freeze, Chunk, Seal, Last, Abort, EndMove, Deliver, Hear, Close, Ask, Condemn, Wipe, Forget, Pin, Plan, Stop, Fault, Restart}
use Rattle.vs_event.specs.declared.reason.Reason.TheVariants as reason
use Rattle.vs_script.specs.declared.command.Command as declared_command
use Rattle.vs_send.specs.declared.abort.AbortCause.{AbortCause}
use Rattle.vs_send.specs.declared.abort.AbortCause.TheVariants as cause
use Rattle.vs_send.specs.declared.transfer.By.{By}
use Rattle.vs_send.specs.declared.transfer.By.TheVariants as by
use Rattle.vs_send.specs.declared.transfer.Transfer.{Transfer}
use Rattle.vs_machine.specs.declared.outcome.CommandFault.{CommandFault}
use Rattle.vs_machine.specs.declared.outcome.CommandFault.TheVariants.{Down}
use Rattle.vs_machine.specs.declared.outcome.CommandOutcome.{CommandOutcome}
use Rattle.vs_machine.specs.declared.outcome.CommandOutcome.TheVariants as outcome
use Rattle.vs_machine.specs.State.{State, Operator, sets_of, next_command, references, answer, put_client, put_operator, with_progress}
use Rattle.vs_machine.specs.Step.{step}
use Rattle.vs_machine.specs.Tables.{put, least_to}
use Rattle.vs_machine.specs.Causes.Calls.{TakesDown}
use Rattle.vs_machine.specs.Causes.Commands.{EndsMove, GivesUpMove, StopsMove, RefusesMove, RefusesPin, RefusesRound, AreAllUp, is_unbalanced, routes_in, FindsBalanced, FindsStuck, FindsCallAnswered, FindsCallOpen, FindsSetToStop, FindsSetToRestart, PinsBucket, IsAnsweredBy}
use Rattle.vs_machine.specs.Kinds.Calls.{call_to_cut, after_cut, is_answered}
use Rattle.vs_machine.specs.Kinds.Connections.{is_null}
use Rattle.vs_machine.specs.Kinds.Faults.{send_fault}
use Rattle.vs_machine.specs.Kinds.Pinning.{Pinning, pinning_fault, after_pin}
use Rattle.vs_machine.specs.Kinds.Rebalancing.{plan_round, planned, is_in_move, with_round}
use Rattle.vs_machine.specs.Kinds.Sender.{Move, move_of, after_start, cause_at, answered_by, moved_by}
use Rattle.vs_machine.specs.Kinds.Stops.{gone_down, stopped_move, is_move_from, set_to_stop, after_stop, restarted}
use Rattle.vs_machine.specs.Laws.{AnsweredCommands}
use Rattle.vs_machine.proofs.Can.Calls.{can_cut}
use Rattle.vs_machine.proofs.Can.Others.{can_close, can_pin, can_plan}
use Rattle.vs_machine.proofs.Can.Sender.{can_start, can_abort, can_end_move}
use Rattle.vs_machine.proofs.Can.Stops.{can_stop, can_fault, can_restart_line}
use Rattle.vs_machine.proofs.Causes.Moves.{from_set, stopped_isnt}
use Rattle.vs_machine.proofs.Causes.Operators.{OperatorTurn, Kept, Begins, Answers, AnswerBy, Plainly, ByEnd, ByAbort, ByStop, step_operators}
use Rattle.vs_machine.proofs.Causes.Transfers.{move_is}
use Rattle.vs_machine.proofs.Frame.{put_here, put_there}
use Rattle.vs_machine.proofs.Possible.{ok_is, wants_none_ok}

same_one : {A : Type 0} (u v : A) → Some u ≡ Some v → u ≡ v
same_one u v h = cc

-- ---- what is answered was found

gives_up : (s : State) (e : Event) (o : ℕ) (why : AbortCause) → GivesUpMove s e o why → IsAnsweredBy s e o (outcome.Aborted why)
gives_up s e o cause.Drained h = h
gives_up s e o (cause.Receiver fault) h = h
gives_up s e o cause.Closed h = h
gives_up s e o (cause.SetDown d) h = h
gives_up s e o cause.Stopped h = absurd (stopped_isnt h.transfer.dest (references s _ h.at h.bucket) (s.up h.transfer.dest) (s.link h.at h.transfer.dest).epoch h.transfer.phase h.caused)

found_by : (s : State) (e : Event) (o : ℕ) (out : CommandOutcome) → AnswerBy s e o out → IsAnsweredBy s e o out
found_by s e o out (Plainly h found) = found
found_by s e o out (ByEnd x b u is there mine done said) = subst (IsAnsweredBy s e o) (sym said) (record { bucket = b; at = x; event = is; transfer = u; there = there; its = mine; done = done })
found_by s e o out (ByAbort x b u why is there mine caused said) = subst (IsAnsweredBy s e o) (sym said) (gives_up s e o why (record { bucket = b; at = x; event = is; transfer = u; there = there; its = mine; caused = caused }))
found_by s e o out (ByStop x down up busy from said) =
    let k = from_set (next_command (s.operator o)) x from in
    subst (IsAnsweredBy s e o) (sym said) (record {
      move = record { bucket = k.0; from = x; to = k.1 };
      named = ap move_of k.2;
      moving = busy;
      down = down;
      was_up = up;
    })

longer : {A : Type 0} (xs : List A) (x : A) → xs ≡ xs ++ x ∷ [] → ⊥
longer xs x h = let lengths : length xs ≡ length (xs ++ x ∷ []) = ap length h in omega (arith, lengths, length-append xs (x ∷ []))

last_is : {A : Type 0} (xs : List A) (x y : A) → xs ++ x ∷ [] ≡ xs ++ y ∷ [] → x ≡ y
last_is [] x y h = cc
last_is (z ∷ zs) x y h = last_is zs x y (cc h)

told : (s t : State) (e : Event) (o : ℕ) (out : CommandOutcome) → OperatorTurn s e o (t.operator o) → (t.operator o).answered ≡ (s.operator o).answered ++ out ∷ [] → IsAnsweredBy s e o out
told s t e o out (Kept same was) h = absurd (longer (s.operator o).answered out (sym same ∙ h))
told s t e o out (Begins m begins named same) h = absurd (longer (s.operator o).answered out (sym same ∙ h))
told s t e o out (Answers given how is) h =
    let one : given ≡ out = last_is (s.operator o).answered given out (ap (λ (p : Operator). p.answered) (sym is) ∙ h) in
    subst (IsAnsweredBy s e o) one (found_by s e o given how)

-- ---- what is found is answered

abbrev Tells : State → ℕ → CommandOutcome → State → Type 0
Tells s o out t = (t.operator o).answered ≡ (s.operator o).answered ++ out ∷ []

-- the operator's line is answered so
here : (s : State) (os : ℕ → Operator) (o : ℕ) (out : CommandOutcome) → (put os o (answer (s.operator o) out) o).answered ≡ (s.operator o).answered ++ out ∷ []
here s os o out = ap (λ (p : Operator). p.answered) (put_here os o (answer (s.operator o) out))

module _ (s t : State) (o : ℕ) where
  ends_move : (e : Event) → step s e ≡ Ok t → EndsMove s e o → Tells s o outcome.Moved t
  ends_move e h f =
      let p = can_end_move s t f.at f.bucket (subst (λ v. step s v ≡ Ok t) f.event h) in
      let one : p.u ≡ f.transfer = same_one p.u f.transfer (sym p.there ∙ f.there) in
      let by_o : p.u.by ≡ by.Command o = ap (λ (u : Transfer). u.by) one ∙ f.its in
      subst (Tells s o outcome.Moved) p.gives (ap (λ (w : By). (moved_by w s.operator o).answered) by_o ∙ here s s.operator o outcome.Moved)

  gives_up_move : (e : Event) (why : AbortCause) → step s e ≡ Ok t → GivesUpMove s e o why → Tells s o (outcome.Aborted why) t
  gives_up_move e why h f =
      let p = can_abort s t f.at f.bucket (subst (λ v. step s v ≡ Ok t) f.event h) in
      let one : p.u ≡ f.transfer = same_one p.u f.transfer (sym p.there ∙ f.there) in
      let by_o : p.u.by ≡ by.Command o = ap (λ (u : Transfer). u.by) one ∙ f.its in
      let same : p.cause ≡ why = same_one p.cause why (sym p.caused ∙ ap (λ u. cause_at s f.at f.bucket u) one ∙ f.caused) in
      subst (Tells s o (outcome.Aborted why)) p.gives (ap (λ (w : By). (answered_by w s.operator (outcome.Aborted p.cause) o).answered) by_o ∙ ap (λ c. (answered_by (by.Command o) s.operator (outcome.Aborted c) o).answered) same ∙ here s s.operator o (outcome.Aborted why))

  -- ---- a set that goes down

  stopped_is : (x : ℕ) (m : Move) → (s.operator o).moving ≡ true → move_of (next_command (s.operator o)) ≡ Some m → m.from ≡ x → stopped_move x (s.operator o) ≡ answer (s.operator o) (outcome.Aborted cause.Stopped)
  stopped_is x m busy named from =
      let here_is : is_move_from x (move_of (next_command (s.operator o))) ≡ true = ap (is_move_from x) named ∙ grind (arith, nat_tests, from) in
      ap (λ a. if a && is_move_from x (move_of (next_command (s.operator o))) then answer (s.operator o) (outcome.Aborted cause.Stopped) else s.operator o) busy
      ∙ ap (λ a. if a then answer (s.operator o) (outcome.Aborted cause.Stopped) else s.operator o) here_is

  no_stop : (c : Option declared_command.Command) (m : Move) (x : ℕ) → move_of c ≡ Some m → set_to_stop c ≡ Some x → ⊥
  no_stop c m x moves stops = absurd (cc (sym (ap set_to_stop (move_is c m moves)) ∙ stops))

  by_stop : (p : ℕ) (m : Move) → (s.operator o).moving ≡ true → move_of (next_command (s.operator o)) ≡ Some m → set_to_stop (next_command (s.operator p)) ≡ Some m.from → s.up m.from ≡ true → step s (Stop p) ≡ Ok t → Tells s o (outcome.Aborted cause.Stopped) t
  by_stop p m busy named stops up h =
      let k = can_stop s t p h in
      let one : k.x ≡ m.from = same_one k.x m.from (sym k.named ∙ stops) in
      let was_up : s.up k.x ≡ true = ap s.up one ∙ up in
      let other : o ≢ p = λ e. no_stop (next_command (s.operator o)) m m.from named (ap (λ q. set_to_stop (next_command (s.operator q))) e ∙ stops) in
      let down = put_operator (gone_down s k.x) p (answer (s.operator p) outcome.Done) in
      let now : Tells s o (outcome.Aborted cause.Stopped) down = ap (λ (v : Operator). v.answered) (put_there (gone_down s k.x).operator p (answer (s.operator p) outcome.Done) o other ∙ stopped_is k.x m busy named (sym one)) in
      subst (Tells s o (outcome.Aborted cause.Stopped)) (ap (λ a. if a then down else put_operator s p (answer (s.operator p) outcome.WasDown)) (sym was_up) ∙ k.gives) now

  stops_move : (e : Event) → step s e ≡ Ok t → StopsMove s e o → Tells s o (outcome.Aborted cause.Stopped) t
  stops_move e h f = by_event e h f.down
    where
      by_event : (v : Event) → step s v ≡ Ok t → TakesDown s v f.move.from → Tells s o (outcome.Aborted cause.Stopped) t
      by_event (Stop p) g down = by_stop p f.move f.moving f.named down f.was_up g
      by_event (Fault x n r) g down =
          subst (Tells s o (outcome.Aborted cause.Stopped)) (can_fault s t x n r g).gives (ap (λ (v : Operator). v.answered) (stopped_is x f.move f.moving f.named (sym down)))
      by_event (Post c x) g down = absurd down
      by_event (Begin c) g down = absurd down
      by_event (Act c) g down = absurd down
      by_event (End c) g down = absurd down
      by_event (Take c) g down = absurd down
      by_event (Cut p) g down = absurd down
      by_event (Start p) g down = absurd down
      by_event (Haul p x d) g down = absurd down
      by_event (NotYet x b) g down = absurd down
      by_event (Freeze x b) g down = absurd down
      by_event (Chunk x b) g down = absurd down
      by_event (Seal x b) g down = absurd down
      by_event (Last x b) g down = absurd down
      by_event (Abort x b) g down = absurd down
      by_event (EndMove x b) g down = absurd down
      by_event (Deliver x y) g down = absurd down
      by_event (Hear x y) g down = absurd down
      by_event (Close p) g down = absurd down
      by_event (Ask x b) g down = absurd down
      by_event (Condemn x b) g down = absurd down
      by_event (Wipe x b) g down = absurd down
      by_event (Forget x b) g down = absurd down
      by_event (Pin p) g down = absurd down
      by_event (Plan p) g down = absurd down
      by_event (Restart x kept p) g down = absurd down

  -- ---- refusals

  refuses_move : (e : Event) (fault : CommandFault) → step s e ≡ Ok t → RefusesMove s e o fault → Tells s o (outcome.Refused fault) t
  refuses_move e fault h f =
      let p = can_start s t o (subst (λ v. step s v ≡ Ok t) f.event h) in
      let one : p.m ≡ f.move = same_one p.m f.move (sym p.named ∙ f.named) in
      let faulty : send_fault s p.m.bucket p.m.from p.m.to ≡ Some fault = ap (λ (m : Move). send_fault s m.bucket m.from m.to) one ∙ f.faulty in
      subst (Tells s o (outcome.Refused fault)) (ap (after_start s o p.m) (sym faulty) ∙ p.gives) (here s s.operator o (outcome.Refused fault))

  refuses_pin : (e : Event) (fault : CommandFault) → step s e ≡ Ok t → RefusesPin s e o fault → Tells s o (outcome.Refused fault) t
  refuses_pin e fault h f =
      let p = can_pin s t o (subst (λ v. step s v ≡ Ok t) f.event h) in
      let one : p.p ≡ f.pinning = same_one p.p f.pinning (sym p.named ∙ f.named) in
      let faulty : pinning_fault s p.p p.p.status ≡ Some fault = ap (λ (r : Pinning). pinning_fault s r r.status) one ∙ f.faulty in
      subst (Tells s o (outcome.Refused fault)) (ap (after_pin s o p.p) (sym faulty) ∙ p.gives) (here s s.operator o (outcome.Refused fault))

  -- the round that an operator plans, where this set is the lowest that is down
  abbrev round : Event → Option ℕ → Type 0
  round e down = (e ≡ Plan o) × (least_to (λ y. not (s.up y)) (sets_of s) ≡ down)

  round_is : (e : Event) (down : Option ℕ) → step s e ≡ Ok t → round e down → plan_round s o down ≡ Ok t
  round_is e down h f = subst (λ d. plan_round s o d ≡ Ok t) f.1 (can_plan s t o (subst (λ v. step s v ≡ Ok t) f.0 h)).gives

  refuses_round : (e : Event) (fault : CommandFault) → step s e ≡ Ok t → RefusesRound s e o fault → Tells s o (outcome.Refused fault) t
  refuses_round e fault h f =
      let is = ok_is _ t (round_is e (Some f.set) h (f.event, f.first)) in
      subst (Tells s o (outcome.Refused fault)) is (here s s.operator o (outcome.Refused (Down f.set)) ∙ ap (λ d. (s.operator o).answered ++ outcome.Refused d ∷ []) (sym f.faulty))

  -- ---- rounds

  planned_is : (e : Event) → step s e ≡ Ok t → e ≡ Plan o → AreAllUp s → t ≡ put_operator s o (planned (s.operator o) (not (is_unbalanced s)) (routes_in s))
  planned_is e h is up = sym (ok_is _ t (wants_none_ok (least_to (is_in_move s) s.config.bucket_count) reason.Moving _ t (round_is e None h (is, up))).1)

  finds_balanced : (e : Event) (rounds : ℕ) → step s e ≡ Ok t → FindsBalanced s e o rounds → Tells s o (outcome.Balanced rounds) t
  finds_balanced e rounds h f =
      let is = planned_is e h f.event f.up in
      let now : planned (s.operator o) (not (is_unbalanced s)) (routes_in s) ≡ answer (s.operator o) (outcome.Balanced rounds) =
      ap (λ b. planned (s.operator o) (not b) (routes_in s)) f.near ∙ ap (λ n. answer (s.operator o) (outcome.Balanced n)) (sym f.counted) in
      subst (Tells s o (outcome.Balanced rounds)) (ap (put_operator s o) (sym now) ∙ sym is) (here s s.operator o (outcome.Balanced rounds))

  finds_stuck : (e : Event) (rounds : ℕ) → step s e ≡ Ok t → FindsStuck s e o rounds → Tells s o (outcome.Stuck rounds) t
  finds_stuck e rounds h f =
      let is = planned_is e h f.event f.up in
      let op = s.operator o in
      let ended : ((nat_lt 0 op.rounds && (op.moved == 0)) || is_null (routes_in s)) ≡ true = ends f.ended in
      let now : planned op (not (is_unbalanced s)) (routes_in s) ≡ answer op (outcome.Stuck rounds) =
      ap (λ b. planned op (not b) (routes_in s)) f.far ∙ ap (λ b. if b then answer op (outcome.Stuck op.rounds) else with_round op (routes_in s)) ended ∙ ap (λ n. answer op (outcome.Stuck n)) (sym f.counted) in
      subst (Tells s o (outcome.Stuck rounds)) (ap (put_operator s o) (sym now) ∙ sym is) (here s s.operator o (outcome.Stuck rounds))
    where
      either : (b : Bool) → (b || true) ≡ true
      either true = refl
      either false = refl

      ends : ((1 ≤ (s.operator o).rounds) × ((s.operator o).moved ≡ 0)) ⊎ (routes_in s ≡ []) → ((nat_lt 0 (s.operator o).rounds && ((s.operator o).moved == 0)) || is_null (routes_in s)) ≡ true
      ends (inl g) =
          let some : nat_lt 0 (s.operator o).rounds ≡ true = grind (arith, nat_tests, g.0) in
          let none : ((s.operator o).moved == 0) ≡ true = grind (arith, nat_tests, g.1) in
          ap (λ b. (b && ((s.operator o).moved == 0)) || is_null (routes_in s)) some ∙ ap (λ b. b || is_null (routes_in s)) none
      ends (inr g) = ap (λ (r : List Route). (nat_lt 0 (s.operator o).rounds && ((s.operator o).moved == 0)) || is_null r) g ∙ either (nat_lt 0 (s.operator o).rounds && ((s.operator o).moved == 0))

  -- ---- cut, stop, restart, and the others

  -- the call that is named, whether it was answered
  cut_is : (e : Event) (c n : ℕ) (late : Bool) → step s e ≡ Ok t → e ≡ Cut o → call_to_cut (next_command (s.operator o)) ≡ Some (c, n) → is_answered (s.client c) n ≡ late
      → (if late then put_operator s o (answer (s.operator o) outcome.Late) else put_operator (put_client s c (with_progress (s.client c) (cut (s.client c).present))) o (answer (s.operator o) outcome.Done)) ≡ t
  cut_is e c n late h is named at =
      let p = can_cut s t o (subst (λ v. step s v ≡ Ok t) is h) in
      let one : (p.c, p.n) ≡ (c, n) = same_one (p.c, p.n) (c, n) (sym p.named ∙ named) in
      ap (λ a. if a then put_operator s o (answer (s.operator o) outcome.Late) else put_operator (put_client s c (with_progress (s.client c) (cut (s.client c).present))) o (answer (s.operator o) outcome.Done)) (sym at)
      ∙ ap (λ (v : ℕ × ℕ). after_cut s o v.0 v.1) (sym one) ∙ p.gives

  finds_answered : (e : Event) → step s e ≡ Ok t → FindsCallAnswered s e o → Tells s o outcome.Late t
  finds_answered e h f = subst (Tells s o outcome.Late) (cut_is e f.client f.number true h f.event f.named (grind (arith, nat_tests, f.answered))) (here s s.operator o outcome.Late)

  finds_open : (e : Event) → step s e ≡ Ok t → FindsCallOpen s e o → Tells s o outcome.Done t
  finds_open e h f = subst (Tells s o outcome.Done) (cut_is e f.client f.number false h f.event f.named (grind (arith, nat_tests, f.unanswered))) (here s s.operator o outcome.Done)

  closes : (e : Event) → step s e ≡ Ok t → e ≡ Close o → Tells s o outcome.Done t
  closes e h is = subst (Tells s o outcome.Done) (can_close s t o (subst (λ v. step s v ≡ Ok t) is h)).gives (here s s.operator o outcome.Done)

  pins_bucket : (e : Event) → step s e ≡ Ok t → PinsBucket s e o → Tells s o outcome.Done t
  pins_bucket e h f =
      let p = can_pin s t o (subst (λ v. step s v ≡ Ok t) f.event h) in
      let one : p.p ≡ f.pinning = same_one p.p f.pinning (sym p.named ∙ f.named) in
      let faultless : pinning_fault s p.p p.p.status ≡ None = ap (λ (r : Pinning). pinning_fault s r r.status) one ∙ f.faultless in
      subst (Tells s o outcome.Done) (ap (after_pin s o p.p) (sym faultless) ∙ p.gives) (here s s.operator o outcome.Done)

  stop_is : (e : Event) (up : Bool) → step s e ≡ Ok t → (f : FindsSetToStop s e o up) → (if up then put_operator (gone_down s f.set) o (answer (s.operator o) outcome.Done) else put_operator s o (answer (s.operator o) outcome.WasDown)) ≡ t
  stop_is e up h f =
      let p = can_stop s t o (subst (λ v. step s v ≡ Ok t) f.event h) in
      let one : p.x ≡ f.set = same_one p.x f.set (sym p.named ∙ f.named) in
      ap (λ a. if a then put_operator (gone_down s f.set) o (answer (s.operator o) outcome.Done) else put_operator s o (answer (s.operator o) outcome.WasDown)) (sym f.found)
      ∙ ap (after_stop s o) (sym one) ∙ p.gives

  finds_down : (e : Event) → step s e ≡ Ok t → FindsSetToStop s e o false → Tells s o outcome.WasDown t
  finds_down e h f = subst (Tells s o outcome.WasDown) (stop_is e false h f) (here s s.operator o outcome.WasDown)

  stops : (e : Event) → step s e ≡ Ok t → FindsSetToStop s e o true → Tells s o outcome.Done t
  stops e h f = subst (Tells s o outcome.Done) (stop_is e true h f) (here s (gone_down s f.set).operator o outcome.Done)

  restart_is : (e : Event) (up : Bool) → step s e ≡ Ok t → (f : FindsSetToRestart s e o up)
      → (if up then put_operator s o (answer (s.operator o) outcome.WasUp) else put_operator (restarted s f.set f.kept (s.pending f.set)) o (answer (s.operator o) outcome.Done)) ≡ t
  restart_is e up h f =
      let p = can_restart_line s t f.set o f.kept (subst (λ v. step s v ≡ Ok t) f.event h) in
      ap (λ a. if a then put_operator s o (answer (s.operator o) outcome.WasUp) else put_operator (restarted s f.set f.kept (s.pending f.set)) o (answer (s.operator o) outcome.Done)) (sym f.found) ∙ p.gives

  finds_up : (e : Event) → step s e ≡ Ok t → FindsSetToRestart s e o true → Tells s o outcome.WasUp t
  finds_up e h f = subst (Tells s o outcome.WasUp) (restart_is e true h f) (here s s.operator o outcome.WasUp)

  restarts : (e : Event) → step s e ≡ Ok t → FindsSetToRestart s e o false → Tells s o outcome.Done t
  restarts e h f = subst (Tells s o outcome.Done) (restart_is e false h f) (here s (restarted s f.set f.kept (s.pending f.set)).operator o outcome.Done)

  -- ---- every answer

  tells : (e : Event) (out : CommandOutcome) → step s e ≡ Ok t → IsAnsweredBy s e o out → Tells s o out t
  tells e outcome.Moved h f = ends_move e h f
  tells e (outcome.Aborted cause.Stopped) h f = stops_move e h f
  tells e (outcome.Aborted cause.Drained) h f = gives_up_move e cause.Drained h f
  tells e (outcome.Aborted (cause.Receiver fault)) h f = gives_up_move e (cause.Receiver fault) h f
  tells e (outcome.Aborted cause.Closed) h f = gives_up_move e cause.Closed h f
  tells e (outcome.Aborted (cause.SetDown d)) h f = gives_up_move e (cause.SetDown d) h f
  tells e (outcome.Refused fault) h (inl f) = refuses_move e fault h f
  tells e (outcome.Refused fault) h (inr (inl f)) = refuses_pin e fault h f
  tells e (outcome.Refused fault) h (inr (inr f)) = refuses_round e fault h f
  tells e (outcome.Balanced rounds) h f = finds_balanced e rounds h f
  tells e (outcome.Stuck rounds) h f = finds_stuck e rounds h f
  tells e outcome.Late h f = finds_answered e h f
  tells e outcome.WasDown h f = finds_down e h f
  tells e outcome.WasUp h f = finds_up e h f
  tells e outcome.Done h (inl f) = finds_open e h f
  tells e outcome.Done h (inr (inl f)) = closes e h f
  tells e outcome.Done h (inr (inr (inl f))) = pins_bucket e h f
  tells e outcome.Done h (inr (inr (inr (inl f)))) = stops e h f
  tells e outcome.Done h (inr (inr (inr (inr f)))) = restarts e h f

pub answered_commands : AnsweredCommands
answered_commands s t e o out h = (told s t e o out (step_operators s t e h o), tells s t o e out h)
