-- What events leave as it was: the rows with which the buckets began, and that the number of rounds has 32 bits.
use Rattle.std.proofs.Common.{◌≡◌, ℕ, ◌-◌, ◌^◌, ◌≤◌, arith, Bool, true, false, refl, sym, ap, subst, ◌∙◌, List, [], ◌∷◌, length, Option, Some, None, Ok}
use Rattle.std.specs.Prelude.{◌==◌, ◌&&◌, ◌||◌, not, nat_lt, if◌then◌else◌}
use Rattle.std.specs.Option.{option_map_or}
use Rattle.vs_base.specs.declared.numbers.CallId.{CallId}
use Rattle.vs_base.specs.declared.numbers.Mode.{Mode}
use Rattle.vs_base.specs.declared.numbers.Mode.TheVariants.{Ro, Rw}
use Rattle.vs_balance.specs.declared.route.Route.{Route}
use Rattle.vs_event.specs.declared.event.Event.{Event}
use Rattle.vs_event.specs.declared.event.Event.TheVariants.{Post, Begin, Act, End, Take, Cut, Start, Haul, NotYet, Freeze, Chunk, Seal, Last, Abort, EndMove, Deliver, Hear, Close, Ask, Condemn, Wipe, Forget, Pin, Plan, Stop, Fault, Restart}
use Rattle.vs_event.specs.declared.event.RestartBy.{RestartBy}
use Rattle.vs_event.specs.declared.event.RestartBy.TheVariants.{Line, Service}
use Rattle.vs_event.specs.declared.reason.Reason.TheVariants as reason
use Rattle.vs_history.specs.History.{History}
use Rattle.vs_link.specs.Connection as link
use Rattle.vs_record.specs.Change as changes
use Rattle.vs_record.specs.Change.{Change, Write}
use Rattle.vs_rows.specs.RowMap.{RowMap, IsRising}
use Rattle.vs_rows.specs.declared.op.Op.{Op}
use Rattle.vs_send.specs.declared.transfer.By.{By}
use Rattle.vs_send.specs.declared.transfer.By.TheVariants as by
use Rattle.vs_machine.specs.declared.outcome.CommandFault.{CommandFault}
use Rattle.vs_machine.specs.declared.outcome.CommandOutcome.{CommandOutcome}
use Rattle.vs_machine.specs.declared.outcome.CommandOutcome.TheVariants.{Done, Late, WasDown, WasUp, Aborted, Stuck}
use Rattle.vs_send.specs.declared.abort.AbortCause.TheVariants.{Stopped}
use Rattle.vs_machine.specs.Coherence.{owner_at}
use Rattle.vs_machine.specs.Kinds.Calls.{act, bucket_after, cut_call, is_answered}
use Rattle.vs_machine.specs.Kinds.Connections.{deliver, after_deliver, is_null}
use Rattle.vs_machine.specs.Kinds.Faults.{send_fault}
use Rattle.vs_machine.specs.Kinds.Pinning.{Pinning, pinning_fault, pin, after_pin}
use Rattle.vs_machine.specs.Kinds.Rebalancing.{haul, after_haul, bucket_to_haul, plan, plan_round, planned, with_round, is_in_move}
use Rattle.vs_machine.specs.Kinds.Sender.{Move, move_of, start, after_start, answered_by, moved_by}
use Rattle.vs_machine.specs.Kinds.Stops.{gone_down, kept_at, restart, restarted, stop, stopped_move, is_move_from}
use Rattle.vs_machine.specs.Opening.{Holdings, base_of, opening}
use Rattle.vs_machine.specs.Runs.{IsReached}
use Rattle.vs_machine.specs.State.{State, Bucket, Operator, sets_of, next_command, answer, call_id, put_operator, put_client, with_progress}
use Rattle.vs_calls.specs.Progress.{cut}
use Rattle.vs_machine.specs.Step.{step, run}
use Rattle.vs_machine.specs.Tables.{put, least_to}
use Rattle.vs_machine.proofs.Can.Calls.{can_post, can_begin, can_act, can_end, can_take, can_cut}
use Rattle.vs_machine.proofs.Can.Others.{can_deliver, can_hear, can_close, can_ask, can_condemn, can_wipe, can_forget, can_pin, can_haul, can_plan}
use Rattle.vs_machine.proofs.Can.Sender.{can_start, can_wait, can_freeze, can_chunk, can_seal, can_last, can_abort, can_end_move}
use Rattle.vs_machine.proofs.Can.Stops.{can_stop, can_fault, can_restart, can_restart_line}
use Rattle.vs_machine.proofs.Frame.{put_each}
use Rattle.vs_machine.proofs.Order.Calm.{Calm, post_calm, begin_calm, end_calm, cut_calm, start_calm, haul_calm, wait_calm, freeze_calm, chunk_calm, seal_calm, last_calm, abort_calm, end_move_calm, deliver_calm, hear_calm, close_calm, ask_calm, condemn_calm, wipe_calm, forget_calm, pin_calm, plan_calm, stop_calm, kept_calm}
use Rattle.vs_machine.proofs.Order.Stops.{restart_any}
use Rattle.vs_machine.proofs.Possible.{bind_ok, ok_is, wants_none_ok}

-- ---- the rows with which the buckets began

abbrev pub SameBases : State → State → Type 0
SameBases s t = (b : ℕ) → (t.bucket b).history.base ≡ (s.bucket b).history.base

by_calm : (s t : State) → Calm s t → SameBases s t
by_calm s t q b = ap (λ (h : History). h.base) (q.histories b)

one_bucket : (s : State) (b : ℕ) (new : Bucket) → new.history.base ≡ (s.bucket b).history.base → (k : ℕ) → (put s.bucket b new k).history.base ≡ (s.bucket k).history.base
one_bucket s b new same = put_each (λ q (u : Bucket). u.history.base ≡ (s.bucket q).history.base) s.bucket b new same (λ q. refl)

ran_base : (b : Bucket) (x : ℕ) (id : CallId) (mode : Mode) (ops : List Op) → (bucket_after b x id mode ops).history.base ≡ b.history.base
ran_base b x id Rw ops = refl
ran_base b x id Ro ops = refl

act_bases : (s t : State) (c : ℕ) → act s c ≡ Ok t → SameBases s t
act_bases s t c h =
    let p = can_act s t c h in
    subst (SameBases s) p.gives (one_bucket s p.k.bucket (bucket_after (s.bucket p.k.bucket) p.x (call_id c (s.client c)) p.k.mode p.k.ops) (ran_base (s.bucket p.k.bucket) p.x (call_id c (s.client c)) p.k.mode p.k.ops))

kept_bases : (s : State) (x : ℕ) (change : Change) → SameBases s (kept_at s x change)
kept_bases s x (Write id b ops) = one_bucket s b (bucket_after (s.bucket b) x id Rw ops) refl
kept_bases s x (changes.SetStatus b st) = by_calm s _ (kept_calm s x (changes.SetStatus b st) tt)
kept_bases s x (changes.AddRows b z page) = by_calm s _ (kept_calm s x (changes.AddRows b z page) tt)
kept_bases s x (changes.Wipe b n) = by_calm s _ (kept_calm s x (changes.Wipe b n) tt)
kept_bases s x (changes.Forget b) = by_calm s _ (kept_calm s x (changes.Forget b) tt)

step_bases : (s t : State) (e : Event) → step s e ≡ Ok t → SameBases s t
step_bases s t (Post c x) h = by_calm s t (post_calm s t c x h)
step_bases s t (Begin c) h = by_calm s t (begin_calm s t c h)
step_bases s t (Act c) h = act_bases s t c h
step_bases s t (End c) h = by_calm s t (end_calm s t c h)
step_bases s t (Take c) h = subst (SameBases s) (can_take s t c h).gives (λ b. refl)
step_bases s t (Cut o) h = by_calm s t (cut_calm s t o h)
step_bases s t (Start o) h = by_calm s t (start_calm s t o h)
step_bases s t (Haul o x d) h = by_calm s t (haul_calm s t o x d h)
step_bases s t (NotYet x b) h = by_calm s t (wait_calm s t x b h)
step_bases s t (Freeze x b) h = by_calm s t (freeze_calm s t x b h)
step_bases s t (Chunk x b) h = by_calm s t (chunk_calm s t x b h)
step_bases s t (Seal x b) h = by_calm s t (seal_calm s t x b h)
step_bases s t (Last x b) h = by_calm s t (last_calm s t x b h)
step_bases s t (Abort x b) h = by_calm s t (abort_calm s t x b h)
step_bases s t (EndMove x b) h = by_calm s t (end_move_calm s t x b h)
step_bases s t (Deliver x y) h = by_calm s t (deliver_calm s t x y h)
step_bases s t (Hear x y) h = by_calm s t (hear_calm s t x y h)
step_bases s t (Close o) h = by_calm s t (close_calm s t o h)
step_bases s t (Ask x b) h = by_calm s t (ask_calm s t x b h)
step_bases s t (Condemn x b) h = by_calm s t (condemn_calm s t x b h)
step_bases s t (Wipe x b) h = by_calm s t (wipe_calm s t x b h)
step_bases s t (Forget x b) h = by_calm s t (forget_calm s t x b h)
step_bases s t (Pin o) h = by_calm s t (pin_calm s t o h)
step_bases s t (Plan o) h = by_calm s t (plan_calm s t o h)
step_bases s t (Stop o) h = by_calm s t (stop_calm s t o h)
step_bases s t (Fault x n r) h = subst (SameBases s) (can_fault s t x n r h).gives (λ b. refl)
step_bases s t (Restart x kept by) h = restart_any (SameBases s) s t x kept by (λ u os same. same) (λ b. refl) (λ b. refl) (λ change _. kept_bases s x change) h

pub run_bases : (s t : State) (events : List Event) → run s events ≡ Ok t → SameBases s t
run_bases s t [] h = subst (SameBases s) (ok_is s t h) (λ b. refl)
run_bases s t (e ∷ es) h =
    let next = bind_ok (step s e) (λ u. run u es) t h in
    λ b. run_bases next.0 t es next.2 b ∙ step_bases s next.0 e next.1 b

-- the rows of a bucket at the opening rise by key
begun_rises : (held : Holdings) (n b : ℕ) → ((x : ℕ) → IsRising (held.rows x b)) → IsRising (base_of held n b)
begun_rises held n b rises = by_owner (owner_at (λ x. held.entry x b) n)
  where
    by_owner : (o : Option ℕ) → IsRising (option_map_or (λ o. held.rows o b) o [])
    by_owner None = tt
    by_owner (Some o) = rises o

pub base_rises : (s : State) → IsReached s → (b : ℕ) → IsRising (s.bucket b).history.base
base_rises s r b =
    subst (λ (m : RowMap). IsRising m) (sym (run_bases (opening r.config r.scripts r.held) s r.events r.runs b))
    (begun_rises r.held (length r.config.sets) b (λ x. r.opens.holdings.rising x b))

-- ---- rounds

abbrev pub FewRounds : State → Type 0
FewRounds s = (o : ℕ) → (s.operator o).rounds ≤ 2 ^ 32 - 1

none : 0 ≤ 2 ^ 32 - 1
none = omega arith

one_operator : (f : ℕ → Operator) (o : ℕ) (new : Operator) → new.rounds ≤ 2 ^ 32 - 1 → ((k : ℕ) → (f k).rounds ≤ 2 ^ 32 - 1) → (k : ℕ) → (put f o new k).rounds ≤ 2 ^ 32 - 1
one_operator f o new few i = put_each (λ q (u : Operator). u.rounds ≤ 2 ^ 32 - 1) f o new few i

cut_rounds : (s t : State) (o : ℕ) → FewRounds s → cut_call s o ≡ Ok t → FewRounds t
cut_rounds s t o i h = let p = can_cut s t o h in subst FewRounds p.gives (by p.c (is_answered (s.client p.c) p.n))
  where
    by : (c : ℕ) (late : Bool) → FewRounds (if late then put_operator s o (answer (s.operator o) Late) else put_operator (put_client s c (with_progress (s.client c) (cut (s.client c).present))) o (answer (s.operator o) Done))
    by c true = one_operator s.operator o _ none i
    by c false = one_operator s.operator o _ none i

start_rounds : (s t : State) (o : ℕ) → FewRounds s → start s o ≡ Ok t → FewRounds t
start_rounds s t o i h = let p = can_start s t o h in subst FewRounds p.gives (by p.m (send_fault s p.m.bucket p.m.from p.m.to))
  where
    by : (m : Move) (f : Option CommandFault) → FewRounds (after_start s o m f)
    by m (Some f) = one_operator s.operator o _ none i
    by m None = one_operator s.operator o _ (i o) i

haul_rounds : (s t : State) (o x d : ℕ) → FewRounds s → haul s o x d ≡ Ok t → FewRounds t
haul_rounds s t o x d i h = subst FewRounds (can_haul s t o x d h).gives (by (bucket_to_haul s x d))
  where
    by : (v : Option ℕ) → FewRounds (after_haul s o x d v)
    by None = one_operator s.operator o _ (i o) i
    by (Some b) = one_operator s.operator o _ (i o) i

answered_rounds : (s : State) (by : By) (outcome : CommandOutcome) → FewRounds s → (k : ℕ) → (answered_by by s.operator outcome k).rounds ≤ 2 ^ 32 - 1
answered_rounds s (by.Command o) outcome i = one_operator s.operator o _ none i
answered_rounds s (by.Haul o) outcome i = i

moved_rounds : (s : State) (by : By) → FewRounds s → (k : ℕ) → (moved_by by s.operator k).rounds ≤ 2 ^ 32 - 1
moved_rounds s (by.Command o) i = one_operator s.operator o _ none i
moved_rounds s (by.Haul o) i = one_operator s.operator o _ (i o) i

deliver_rounds : (s t : State) (x y : ℕ) → FewRounds s → deliver s x y ≡ Ok t → FewRounds t
deliver_rounds s t x y i h = let p = can_deliver s t x y h in subst FewRounds p.gives (by p.sent p.sent.message)
  where
    by : (m : link.Sent) (v : link.Message) → FewRounds (after_deliver s x y m v)
    by m (link.Chunk b page) = i
    by m (link.Last b) = i
    by m (link.Stat b) = i

pin_rounds : (s t : State) (o : ℕ) → FewRounds s → pin s o ≡ Ok t → FewRounds t
pin_rounds s t o i h = let p = can_pin s t o h in subst FewRounds p.gives (by p.p (pinning_fault s p.p p.p.status))
  where
    by : (q : Pinning) (f : Option CommandFault) → FewRounds (after_pin s o q f)
    by q (Some f) = one_operator s.operator o _ none i
    by q None = one_operator s.operator o _ none i

planned_rounds : (o : Operator) (balanced : Bool) (routes : List Route) → (planned o balanced routes).rounds ≤ 2 ^ 32 - 1
planned_rounds o true routes = none
planned_rounds o false routes = by ((nat_lt 0 o.rounds && (o.moved == 0)) || is_null routes)
  where
    by : (t : Bool) → (if t then answer o (Stuck o.rounds) else with_round o routes).rounds ≤ 2 ^ 32 - 1
    by true = none
    by false = omega arith

plan_rounds : (s t : State) (o : ℕ) → FewRounds s → plan s o ≡ Ok t → FewRounds t
plan_rounds s t o i h = by (least_to (λ x. not (s.up x)) (sets_of s)) (can_plan s t o h).gives
  where
    by : (down : Option ℕ) → plan_round s o down ≡ Ok t → FewRounds t
    by (Some x) g = subst FewRounds (ok_is _ t g) (one_operator s.operator o _ none i)
    by None g =
        let k = wants_none_ok (least_to (is_in_move s) s.config.bucket_count) reason.Moving _ t g in
        subst FewRounds (ok_is _ t k.1) (one_operator s.operator o _ (planned_rounds (s.operator o) _ _) i)

stopped_rounds : (x : ℕ) (o : Operator) → o.rounds ≤ 2 ^ 32 - 1 → (stopped_move x o).rounds ≤ 2 ^ 32 - 1
stopped_rounds x o few = by (o.moving && is_move_from x (move_of (next_command o)))
  where
    by : (t : Bool) → (if t then answer o (Aborted Stopped) else o).rounds ≤ 2 ^ 32 - 1
    by true = none
    by false = few

stop_rounds : (s t : State) (o : ℕ) → FewRounds s → stop s o ≡ Ok t → FewRounds t
stop_rounds s t o i h = let p = can_stop s t o h in subst FewRounds p.gives (by p.x (s.up p.x))
  where
    by : (x : ℕ) (up : Bool) → FewRounds (if up then put_operator (gone_down s x) o (answer (s.operator o) Done) else put_operator s o (answer (s.operator o) WasDown))
    by x true = one_operator (λ k. stopped_move x (s.operator k)) o _ none (λ k. stopped_rounds x (s.operator k) (i k))
    by x false = one_operator s.operator o _ none i

restarted_rounds : (s : State) (x : ℕ) (kept : Bool) (pending : Option Change) → FewRounds s → FewRounds (restarted s x kept pending)
restarted_rounds s x true (Some change) i = i
restarted_rounds s x true None i = i
restarted_rounds s x false (Some change) i = i
restarted_rounds s x false None i = i

restart_rounds : (s t : State) (x : ℕ) (kept : Bool) (by : RestartBy) → FewRounds s → restart s x kept by ≡ Ok t → FewRounds t
restart_rounds s t x kept Service i h = subst FewRounds (can_restart s t x kept h).gives (restarted_rounds s x kept (s.pending x) i)
restart_rounds s t x kept (Line o) i h = subst FewRounds (can_restart_line s t x o kept h).gives (by (s.up x))
  where
    by : (u : Bool) → FewRounds (if u then put_operator s o (answer (s.operator o) WasUp) else put_operator (restarted s x kept (s.pending x)) o (answer (s.operator o) Done))
    by true = one_operator s.operator o _ none i
    by false = one_operator (restarted s x kept (s.pending x)).operator o _ none (restarted_rounds s x kept (s.pending x) i)

step_rounds : (s t : State) (e : Event) → FewRounds s → step s e ≡ Ok t → FewRounds t
step_rounds s t (Post c x) i h = subst FewRounds (can_post s t c x h).gives i
step_rounds s t (Begin c) i h = subst FewRounds (can_begin s t c h).gives i
step_rounds s t (Act c) i h = subst FewRounds (can_act s t c h).gives i
step_rounds s t (End c) i h = subst FewRounds (can_end s t c h).gives i
step_rounds s t (Take c) i h = subst FewRounds (can_take s t c h).gives i
step_rounds s t (Cut o) i h = cut_rounds s t o i h
step_rounds s t (Start o) i h = start_rounds s t o i h
step_rounds s t (Haul o x d) i h = haul_rounds s t o x d i h
step_rounds s t (NotYet x b) i h = subst FewRounds (can_wait s t x b h).gives i
step_rounds s t (Freeze x b) i h = subst FewRounds (can_freeze s t x b h).gives i
step_rounds s t (Chunk x b) i h = subst FewRounds (can_chunk s t x b h).gives i
step_rounds s t (Seal x b) i h = subst FewRounds (can_seal s t x b h).gives i
step_rounds s t (Last x b) i h = subst FewRounds (can_last s t x b h).gives i
step_rounds s t (Abort x b) i h = let p = can_abort s t x b h in subst FewRounds p.gives (answered_rounds s p.u.by (Aborted p.cause) i)
step_rounds s t (EndMove x b) i h = let p = can_end_move s t x b h in subst FewRounds p.gives (moved_rounds s p.u.by i)
step_rounds s t (Deliver x y) i h = deliver_rounds s t x y i h
step_rounds s t (Hear x y) i h = subst FewRounds (can_hear s t x y h).gives i
step_rounds s t (Close o) i h = subst FewRounds (can_close s t o h).gives (one_operator s.operator o _ none i)
step_rounds s t (Ask x b) i h = subst FewRounds (can_ask s t x b h).gives i
step_rounds s t (Condemn x b) i h = subst FewRounds (can_condemn s t x b h).gives i
step_rounds s t (Wipe x b) i h = subst FewRounds (can_wipe s t x b h).gives i
step_rounds s t (Forget x b) i h = subst FewRounds (can_forget s t x b h).gives i
step_rounds s t (Pin o) i h = pin_rounds s t o i h
step_rounds s t (Plan o) i h = plan_rounds s t o i h
step_rounds s t (Stop o) i h = stop_rounds s t o i h
step_rounds s t (Fault x n r) i h = subst FewRounds (can_fault s t x n r h).gives (λ k. stopped_rounds x (s.operator k) (i k))
step_rounds s t (Restart x kept by) i h = restart_rounds s t x kept by i h

run_rounds : (s t : State) (events : List Event) → FewRounds s → run s events ≡ Ok t → FewRounds t
run_rounds s t [] i h = subst FewRounds (ok_is s t h) i
run_rounds s t (e ∷ es) i h =
    let next = bind_ok (step s e) (λ u. run u es) t h in
    run_rounds next.0 t es (step_rounds s next.0 e i next.1) next.2

pub few_rounds : (s : State) → IsReached s → FewRounds s
few_rounds s r = run_rounds (opening r.config r.scripts r.held) s r.events (λ o. none) r.runs
