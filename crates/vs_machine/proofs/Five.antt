-- A call that was answered with a reply took five events of its own.
use Rattle.std.proofs.Common.{◌≡◌, ℕ, zero, suc, inl, inr, ◌+◌, ◌*◌, ◌≤◌, ◌<◌, arith, Bool, true, false, refl, ap, subst, ◌∙◌, List, [], ◌∷◌, ◌++◌, length, Option, Some, None, Ok}
use Rattle.std.specs.Prelude.{◌≢◌, ◌⊎◌, ◌&&◌, not, if◌then◌else◌}
use Rattle.std.specs.List.{sum_by}
use Rattle.std.proofs.lemmas.Bool.{cases_eq}
use Rattle.std.proofs.lemmas.List.Sums.{sum_by-append, sum_by-cons}
use Rattle.vs_rows.specs.Said.{Said}
use Rattle.vs_space.specs.declared.status.Cause.{Cause}
use Rattle.vs_space.specs.declared.status.Verdict.{Verdict}
use Rattle.vs_space.specs.declared.status.Verdict.TheVariants as verdict
use Rattle.vs_calls.specs.Outcomes.{Outcome}
use Rattle.vs_calls.specs.Progress.{begun, ended, cut, cut_at, lost, outcome_by, outcome_of, may_post, is_posted, is_running, is_acted, is_at_set}
use Rattle.vs_calls.specs.declared.stage.Stage.{Stage}
use Rattle.vs_calls.specs.declared.stage.Stage.TheVariants as stage
use Rattle.vs_event.specs.declared.event.Event.{Event}
use Rattle.vs_event.specs.declared.event.Event.TheVariants.{Post, Begin, Act, End, Take, Cut, Start, Haul, NotYet, Freeze, Chunk, Seal, Last, Abort, EndMove, Deliver, Hear, Close, Ask, Condemn, Wipe, Forget, Pin, Plan, Stop, Fault, Restart}
use Rattle.vs_event.specs.declared.event.RestartBy.{RestartBy}
use Rattle.vs_event.specs.declared.event.RestartBy.TheVariants.{Line, Service}
use Rattle.vs_event.specs.declared.reason.Reason.TheVariants as reason
use Rattle.vs_link.specs.Connection as link
use Rattle.vs_record.specs.Change.{Change}
use Rattle.vs_machine.specs.declared.outcome.CommandFault.{CommandFault}
use Rattle.vs_machine.specs.declared.outcome.CommandOutcome.TheVariants.{Done, Late, WasDown, WasUp}
use Rattle.vs_machine.specs.Tables.{put, sum_to, least_to}
use Rattle.vs_machine.specs.State.{State, Client, sets_of, answer, is_set, put_client, put_operator, with_progress}
use Rattle.vs_machine.specs.Step.{step, run}
use Rattle.vs_machine.specs.Kinds.Calls.{post, begin, act, «end», take, cut_call, is_answered, verdict_at}
use Rattle.vs_machine.specs.Kinds.Connections.{deliver, after_deliver}
use Rattle.vs_machine.specs.Kinds.Faults.{send_fault}
use Rattle.vs_machine.specs.Kinds.Pinning.{Pinning, pinning_fault, pin, after_pin}
use Rattle.vs_machine.specs.Kinds.Rebalancing.{haul, after_haul, bucket_to_haul, plan, plan_round, is_in_move}
use Rattle.vs_machine.specs.Kinds.Sender.{Move, start, after_start}
use Rattle.vs_machine.specs.Kinds.Stops.{lost_at, gone_down, stop, restart, restarted}
use Rattle.vs_script.specs.Scripts.{script_of}
use Rattle.vs_machine.specs.Opening.{client_at}
use Rattle.vs_machine.specs.Laws.{one_if_reply, FiveEventRuns}
use Rattle.vs_machine.proofs.Can.Calls.{can_post, can_begin, can_act, can_end, can_take, can_cut}
use Rattle.vs_machine.proofs.Can.Others.{can_deliver, can_hear, can_close, can_ask, can_condemn, can_wipe, can_forget, can_pin, can_haul, can_plan}
use Rattle.vs_machine.proofs.Can.Sender.{can_start, can_wait, can_freeze, can_chunk, can_seal, can_last, can_abort, can_end_move}
use Rattle.vs_machine.proofs.Can.Stops.{can_stop, can_fault, can_restart, can_restart_line}
use Rattle.vs_machine.proofs.Frame.{put_here, put_there}
use Rattle.vs_machine.proofs.Possible.{bind_ok, ok_is, wants_none_ok}

-- the events that the present call took, where it may still be answered with a reply
abbrev weight : Stage → ℕ
weight stage.Idle = 0
weight stage.Posted = 1
weight stage.Running = 2
weight stage.Acted = 3
weight stage.Ended = 4
weight stage.Refused = 0
weight stage.Lost = 0

abbrev cost : Client → ℕ
cost c = 5 * sum_by one_if_reply c.answered + weight c.present.stage

abbrev total : State → ℕ
total s = sum_to (λ c. cost (s.client c)) s.clients

-- ---- sums

sum_le : (f g : ℕ → ℕ) (n : ℕ) → ((q : ℕ) → g q ≤ f q) → sum_to g n ≤ sum_to f n
sum_le f g zero le = omega arith
sum_le f g (suc n) le = let a = sum_le f g n le in let b = le (suc n) in omega arith

sum_below : (f : ℕ → Client) (c : ℕ) (new : Client) (n : ℕ) → n < c → sum_to (λ q. cost (put f c new q)) n ≡ sum_to (λ q. cost (f q)) n
sum_below f c new zero lt = refl
sum_below f c new (suc n) lt =
    let before = sum_below f c new n (omega arith) in
    let here : cost (put f c new (suc n)) ≡ cost (f (suc n)) = ap cost (put_there f c new (suc n) (λ e. absurd (omega arith))) in
    omega (arith, before, here)

sum_put : (f : ℕ → Client) (c : ℕ) (new : Client) (n : ℕ) → cost new ≤ cost (f c) + 1 → sum_to (λ q. cost (put f c new q)) n ≤ sum_to (λ q. cost (f q)) n + 1
sum_put f c new zero le = omega arith
sum_put f c new (suc n) le = by (sum_put f c new n le) (cases_eq (suc n) c)
  where
    by : sum_to (λ q. cost (put f c new q)) n ≤ sum_to (λ q. cost (f q)) n + 1 → ((suc n ≡ c) ⊎ (suc n ≢ c)) → sum_to (λ q. cost (put f c new q)) (suc n) ≤ sum_to (λ q. cost (f q)) (suc n) + 1
    by before (inl is) =
        let below = sum_below f c new n (omega (arith, is)) in
        let here : cost (put f c new (suc n)) ≡ cost new = ap (λ q. cost (put f c new q)) is ∙ ap cost (put_here f c new) in
        let old : cost (f (suc n)) ≡ cost (f c) = ap (λ q. cost (f q)) is in
        omega (arith, below, here, old, le)
    by before (inr ne) =
        let here : cost (put f c new (suc n)) ≡ cost (f (suc n)) = ap cost (put_there f c new (suc n) ne) in
        omega (arith, before, here)

-- ---- one event

-- an event adds one at most
pub record Adds (s t : State) : Type 0 where
  pub clients : t.clients ≡ s.clients
  pub most : total t ≤ total s + 1

one_client : (s : State) (c : ℕ) (new : Client) → cost new ≤ cost (s.client c) + 1 → sum_to (λ q. cost (put s.client c new q)) s.clients ≤ total s + 1
one_client s c new le = sum_put s.client c new s.clients le

posted_cost : (st : Stage) → may_post st ≡ true → weight stage.Posted ≤ weight st + 1
posted_cost st h = omega arith

begun_cost : (c : Client) (v : Verdict) → is_posted c.present.stage ≡ true → cost (with_progress c (begun c.present v)) ≤ cost c + 1
begun_cost c v at = by v (posted_is c.present.stage at)
  where
    posted_is : (st : Stage) → is_posted st ≡ true → weight st ≡ 1
    posted_is stage.Posted e = refl
    posted_is stage.Idle e = absurd (cc e)
    posted_is stage.Running e = absurd (cc e)
    posted_is stage.Acted e = absurd (cc e)
    posted_is stage.Ended e = absurd (cc e)
    posted_is stage.Refused e = absurd (cc e)
    posted_is stage.Lost e = absurd (cc e)

    by : (v : Verdict) → weight c.present.stage ≡ 1 → cost (with_progress c (begun c.present v)) ≤ cost c + 1
    by verdict.Granted e = omega (arith, e)
    by (verdict.Refused cause) e = omega (arith, e)

running_weight : (st : Stage) → is_running st ≡ true → weight st ≡ 2
running_weight stage.Running e = refl
running_weight stage.Idle e = absurd (cc e)
running_weight stage.Posted e = absurd (cc e)
running_weight stage.Acted e = absurd (cc e)
running_weight stage.Ended e = absurd (cc e)
running_weight stage.Refused e = absurd (cc e)
running_weight stage.Lost e = absurd (cc e)

acted_weight : (st : Stage) → is_acted st ≡ true → weight st ≡ 3
acted_weight stage.Acted e = refl
acted_weight stage.Idle e = absurd (cc e)
acted_weight stage.Posted e = absurd (cc e)
acted_weight stage.Running e = absurd (cc e)
acted_weight stage.Ended e = absurd (cc e)
acted_weight stage.Refused e = absurd (cc e)
acted_weight stage.Lost e = absurd (cc e)

ended_cost : (c : Client) → is_acted c.present.stage ≡ true → cost (with_progress c (ended c.present)) ≤ cost c + 1
ended_cost c at = by c.present.cut (acted_weight c.present.stage at)
  where
    by : (t : Bool) → weight c.present.stage ≡ 3 → cost (with_progress c (if t then lost c.present else (record (c.present) { stage = stage.Ended }))) ≤ cost c + 1
    by true e = omega (arith, e)
    by false e = omega (arith, e)

-- a reply comes of a call that ended
outcome_cost : (st : Stage) (said : Option (ℕ × List Said)) (cause : Option Cause) → 5 * one_if_reply (outcome_by st said cause) ≤ weight st + 1
outcome_cost stage.Ended (Some said) cause = omega arith
outcome_cost stage.Ended None cause = omega arith
outcome_cost stage.Refused said (Some cause) = omega arith
outcome_cost stage.Refused said None = omega arith
outcome_cost stage.Idle said cause = omega arith
outcome_cost stage.Posted said cause = omega arith
outcome_cost stage.Running said cause = omega arith
outcome_cost stage.Acted said cause = omega arith
outcome_cost stage.Lost said cause = omega arith

taken_sum : (os : List Outcome) (o : Outcome) → sum_by one_if_reply (os ++ o ∷ []) ≡ sum_by one_if_reply os + one_if_reply o
taken_sum os o =
    let last = sum_by-cons one_if_reply o [] in
    let all = sum_by-append one_if_reply os (o ∷ []) in
    omega (arith, last, all)

cut_cost : (c : Client) (st : Stage) → c.present.stage ≡ st → cost (with_progress c (cut_at st c.present)) ≤ cost c + 1
cut_cost c stage.Running is = omega arith
cut_cost c stage.Acted is = omega arith
cut_cost c stage.Idle is = omega arith
cut_cost c stage.Posted is = omega arith
cut_cost c stage.Ended is = omega arith
cut_cost c stage.Refused is = omega arith
cut_cost c stage.Lost is = omega arith

lost_at_cost : (x : ℕ) (c : Client) → cost (lost_at x c) ≤ cost c
lost_at_cost x c = by (is_at_set c.present.stage && is_set c.present.set x)
  where
    by : (t : Bool) → cost (if t then with_progress c (lost c.present) else c) ≤ cost c
    by true = omega arith
    by false = omega arith

post_adds : (s t : State) (c x : ℕ) → post s c x ≡ Ok t → Adds s t
post_adds s t c x h =
    let p = can_post s t c x h in
    let le = posted_cost (s.client c).present.stage p.ready in
    subst (Adds s) p.gives (record { clients = refl; most = one_client s c _ (omega (arith, le)) })

begin_adds : (s t : State) (c : ℕ) → begin s c ≡ Ok t → Adds s t
begin_adds s t c h = let p = can_begin s t c h in subst (Adds s) p.gives (record { clients = refl; most = one_client s c _ (begun_cost (s.client c) (verdict_at s p.x p.k) p.posted) })

act_adds : (s t : State) (c : ℕ) → act s c ≡ Ok t → Adds s t
act_adds s t c h = let p = can_act s t c h in let e = running_weight (s.client c).present.stage p.running in subst (Adds s) p.gives (record { clients = refl; most = one_client s c _ (omega (arith, e)) })

end_adds : (s t : State) (c : ℕ) → «end» s c ≡ Ok t → Adds s t
end_adds s t c h = let p = can_end s t c h in subst (Adds s) p.gives (record { clients = refl; most = one_client s c _ (ended_cost (s.client c) p.acted) })

take_adds : (s t : State) (c : ℕ) → take s c ≡ Ok t → Adds s t
take_adds s t c h =
    let p = can_take s t c h in
    let old = s.client c in
    let paid = outcome_cost old.present.stage old.present.said old.present.cause in
    let sum = taken_sum old.answered (outcome_of old.present) in
    subst (Adds s) p.gives (record { clients = refl; most = one_client s c _ (omega (arith, paid, sum)) })

cut_adds : (s t : State) (o : ℕ) → cut_call s o ≡ Ok t → Adds s t
cut_adds s t o h = let p = can_cut s t o h in subst (Adds s) p.gives (by p.c p.n (is_answered (s.client p.c) p.n))
  where
    by : (c n : ℕ) (late : Bool) → Adds s (if late then put_operator s o (answer (s.operator o) Late) else put_operator (put_client s c (with_progress (s.client c) (cut (s.client c).present))) o (answer (s.operator o) Done))
    by c n true = record { clients = refl; most = omega arith }
    by c n false = record { clients = refl; most = one_client s c _ (cut_cost (s.client c) (s.client c).present.stage refl) }

start_adds : (s t : State) (o : ℕ) → start s o ≡ Ok t → Adds s t
start_adds s t o h = let p = can_start s t o h in subst (Adds s) p.gives (by p.m (send_fault s p.m.bucket p.m.from p.m.to))
  where
    by : (m : Move) (f : Option CommandFault) → Adds s (after_start s o m f)
    by m (Some f) = record { clients = refl; most = omega arith }
    by m None = record { clients = refl; most = omega arith }

haul_adds : (s t : State) (o x d : ℕ) → haul s o x d ≡ Ok t → Adds s t
haul_adds s t o x d h = let p = can_haul s t o x d h in subst (Adds s) p.gives (by (bucket_to_haul s x d))
  where
    by : (v : Option ℕ) → Adds s (after_haul s o x d v)
    by None = record { clients = refl; most = omega arith }
    by (Some b) = record { clients = refl; most = omega arith }

deliver_adds : (s t : State) (x y : ℕ) → deliver s x y ≡ Ok t → Adds s t
deliver_adds s t x y h = let p = can_deliver s t x y h in subst (Adds s) p.gives (by p.sent p.sent.message)
  where
    by : (m : link.Sent) (v : link.Message) → Adds s (after_deliver s x y m v)
    by m (link.Chunk b page) = record { clients = refl; most = omega arith }
    by m (link.Last b) = record { clients = refl; most = omega arith }
    by m (link.Stat b) = record { clients = refl; most = omega arith }

pin_adds : (s t : State) (o : ℕ) → pin s o ≡ Ok t → Adds s t
pin_adds s t o h = let p = can_pin s t o h in subst (Adds s) p.gives (by p.p (pinning_fault s p.p p.p.status))
  where
    by : (q : Pinning) (f : Option CommandFault) → Adds s (after_pin s o q f)
    by q (Some f) = record { clients = refl; most = omega arith }
    by q None = record { clients = refl; most = omega arith }

plan_adds : (s t : State) (o : ℕ) → plan s o ≡ Ok t → Adds s t
plan_adds s t o h = by (least_to (λ x. not (s.up x)) (sets_of s)) (can_plan s t o h).gives
  where
    by : (down : Option ℕ) → plan_round s o down ≡ Ok t → Adds s t
    by (Some x) g = subst (Adds s) (ok_is _ t g) (record { clients = refl; most = omega arith })
    by None g = let k = wants_none_ok (least_to (is_in_move s) s.config.bucket_count) reason.Moving _ t g in subst (Adds s) (ok_is _ t k.1) (record { clients = refl; most = omega arith })

gone_down_adds : (s : State) (x : ℕ) → total (gone_down s x) ≤ total s + 1
gone_down_adds s x = let le = sum_le (λ c. cost (s.client c)) (λ c. cost (lost_at x (s.client c))) s.clients (λ c. lost_at_cost x (s.client c)) in omega (arith, le)

stop_adds : (s t : State) (o : ℕ) → stop s o ≡ Ok t → Adds s t
stop_adds s t o h = let p = can_stop s t o h in subst (Adds s) p.gives (by p.x (s.up p.x))
  where
    by : (x : ℕ) (up : Bool) → Adds s (if up then put_operator (gone_down s x) o (answer (s.operator o) Done) else put_operator s o (answer (s.operator o) WasDown))
    by x true = record { clients = refl; most = gone_down_adds s x }
    by x false = record { clients = refl; most = omega arith }

restarted_adds : (s : State) (x : ℕ) (kept : Bool) (pending : Option Change) → Adds s (restarted s x kept pending)
restarted_adds s x true (Some change) = record { clients = refl; most = omega arith }
restarted_adds s x true None = record { clients = refl; most = omega arith }
restarted_adds s x false (Some change) = record { clients = refl; most = omega arith }
restarted_adds s x false None = record { clients = refl; most = omega arith }

restart_adds : (s t : State) (x : ℕ) (kept : Bool) (by : RestartBy) → restart s x kept by ≡ Ok t → Adds s t
restart_adds s t x kept Service h = subst (Adds s) (can_restart s t x kept h).gives (restarted_adds s x kept (s.pending x))
restart_adds s t x kept (Line o) h = subst (Adds s) (can_restart_line s t x o kept h).gives (by (s.up x))
  where
    by : (u : Bool) → Adds s (if u then put_operator s o (answer (s.operator o) WasUp) else put_operator (restarted s x kept (s.pending x)) o (answer (s.operator o) Done))
    by true = record { clients = refl; most = omega arith }
    by false = let a = restarted_adds s x kept (s.pending x) in record { clients = a.clients; most = a.most }

step_adds : (s t : State) (e : Event) → step s e ≡ Ok t → Adds s t
step_adds s t (Post c x) h = post_adds s t c x h
step_adds s t (Begin c) h = begin_adds s t c h
step_adds s t (Act c) h = act_adds s t c h
step_adds s t (End c) h = end_adds s t c h
step_adds s t (Take c) h = take_adds s t c h
step_adds s t (Cut o) h = cut_adds s t o h
step_adds s t (Start o) h = start_adds s t o h
step_adds s t (Haul o x d) h = haul_adds s t o x d h
step_adds s t (Deliver x y) h = deliver_adds s t x y h
step_adds s t (Pin o) h = pin_adds s t o h
step_adds s t (Plan o) h = plan_adds s t o h
step_adds s t (Stop o) h = stop_adds s t o h
step_adds s t (Fault x n r) h = subst (Adds s) (can_fault s t x n r h).gives (record { clients = refl; most = gone_down_adds s x })
step_adds s t (Restart x kept by) h = restart_adds s t x kept by h
step_adds s t (NotYet x b) h = subst (Adds s) (can_wait s t x b h).gives (record { clients = refl; most = omega arith })
step_adds s t (Freeze x b) h = subst (Adds s) (can_freeze s t x b h).gives (record { clients = refl; most = omega arith })
step_adds s t (Chunk x b) h = subst (Adds s) (can_chunk s t x b h).gives (record { clients = refl; most = omega arith })
step_adds s t (Seal x b) h = subst (Adds s) (can_seal s t x b h).gives (record { clients = refl; most = omega arith })
step_adds s t (Last x b) h = subst (Adds s) (can_last s t x b h).gives (record { clients = refl; most = omega arith })
step_adds s t (Abort x b) h = subst (Adds s) (can_abort s t x b h).gives (record { clients = refl; most = omega arith })
step_adds s t (EndMove x b) h = subst (Adds s) (can_end_move s t x b h).gives (record { clients = refl; most = omega arith })
step_adds s t (Hear x y) h = subst (Adds s) (can_hear s t x y h).gives (record { clients = refl; most = omega arith })
step_adds s t (Close o) h = subst (Adds s) (can_close s t o h).gives (record { clients = refl; most = omega arith })
step_adds s t (Ask x b) h = subst (Adds s) (can_ask s t x b h).gives (record { clients = refl; most = omega arith })
step_adds s t (Condemn x b) h = subst (Adds s) (can_condemn s t x b h).gives (record { clients = refl; most = omega arith })
step_adds s t (Wipe x b) h = subst (Adds s) (can_wipe s t x b h).gives (record { clients = refl; most = omega arith })
step_adds s t (Forget x b) h = subst (Adds s) (can_forget s t x b h).gives (record { clients = refl; most = omega arith })

-- ---- a run

run_adds : (s t : State) (es : List Event) → run s es ≡ Ok t → total t ≤ total s + length es
run_adds s t [] h = let same : s ≡ t = ok_is s t h in let e = ap total same in omega (arith, e)
run_adds s t (v ∷ es) h =
    let next = bind_ok (step s v) (λ u. run u es) t h in
    let one = (step_adds s next.0 v next.1).most in
    let more = run_adds next.0 t es next.2 in
    omega (arith, one, more)

nothing_yet : (f : ℕ → Client) (n : ℕ) → ((c : ℕ) → cost (f c) ≡ 0) → sum_to (λ c. cost (f c)) n ≡ 0
nothing_yet f zero none = refl
nothing_yet f (suc n) none = let a = nothing_yet f n none in let b = none (suc n) in omega (arith, a, b)

paid : (f : ℕ → Client) (n : ℕ) → 5 * sum_to (λ c. sum_by one_if_reply (f c).answered) n ≤ sum_to (λ c. cost (f c)) n
paid f zero = omega arith
paid f (suc n) = let a = paid f n in omega (arith, a)

pub five_event_runs : FiveEventRuns
five_event_runs config scripts held events s h =
    let none = nothing_yet (λ c. client_at (script_of scripts.clients c)) (length scripts.clients) (λ c. refl) in
    let all = run_adds _ s events h in
    let mine = paid s.client s.clients in
    omega (arith, none, all, mine)
