-- What a run is given stays as it was.
use Rattle.std.proofs.Common.{◌≡◌, ℕ, zero, suc, inl, inr, ◌≤◌, arith, Bool, true, false, refl, sym, ap, subst, ◌∙◌, List, [], ◌∷◌, length, Option, Some, None, Ok}
use Rattle.std.specs.Prelude.{◌==◌, ◌&&◌, ◌||◌, not, nat_lt, if◌then◌else◌, All, slice_get, unwrap_or}
use Rattle.std.specs.List.{sum_by}
use Rattle.std.proofs.lemmas.Bool.Decides.{nat_tests}
use Rattle.std.proofs.lemmas.List.Sums.{get_or-le-sum_by}
use Rattle.std.proofs.lemmas.Option.{slice_get_cases}
use Rattle.vs_event.specs.declared.event.Event.TheVariants.{Post, Begin, Act, End, Take, Cut, Start, Haul, NotYet, Freeze, Chunk, Seal, Last, Abort, EndMove, Deliver, Hear, Close, Ask, Condemn, Wipe, Forget, Pin, Plan, Stop, Fault, Restart}
use Rattle.vs_event.specs.declared.event.RestartBy.{RestartBy}
use Rattle.vs_event.specs.declared.event.RestartBy.TheVariants.{Line, Service}
use Rattle.vs_event.specs.declared.reason.Reason.TheVariants as reason
use Rattle.vs_calls.specs.Progress.{cut, lost, is_at_set}
use Rattle.vs_balance.specs.declared.route.Route.{Route}
use Rattle.vs_link.specs.Connection as link
use Rattle.vs_link.specs.Connection.{Connection}
use Rattle.vs_record.specs.Change.{Change}
use Rattle.vs_script.specs.Calls.{Call}
use Rattle.vs_script.specs.declared.command.Command.{Command}
use Rattle.vs_script.specs.declared.command.Command.TheVariants as command
use Rattle.vs_send.specs.declared.abort.AbortCause.TheVariants.{Stopped}
use Rattle.vs_send.specs.declared.transfer.By.{By}
use Rattle.vs_send.specs.declared.transfer.By.TheVariants as by
use Rattle.vs_machine.specs.declared.outcome.CommandFault.{CommandFault}
use Rattle.vs_machine.specs.declared.outcome.CommandOutcome.{CommandOutcome}
use Rattle.vs_machine.specs.declared.outcome.CommandOutcome.TheVariants.{Done, Late, WasDown, WasUp, Aborted, Stuck}
use Rattle.vs_machine.specs.Tables.{put, is_to, least_to}
use Rattle.vs_machine.specs.State.{State, Bucket, Client, Operator, sets_of, next_command, answer, is_set, put_client, put_operator, with_progress}
use Rattle.vs_machine.specs.Step.{step, run}
use Rattle.vs_script.specs.Lawful.{IsWithin, IsLawfulCall, IsLawfulCommand, IsCutOf}
use Rattle.vs_script.specs.Scripts.{script_of}
use Rattle.vs_machine.specs.Opening.{opening, IsLawful}
use Rattle.vs_machine.specs.Inputs.{HasInputs, SameInputs, IsCutIn}
use Rattle.vs_machine.specs.Kinds.Calls.{cut_call, is_answered}
use Rattle.vs_machine.specs.Kinds.Connections.{deliver, after_deliver, is_null}
use Rattle.vs_machine.specs.Kinds.Faults.{send_fault}
use Rattle.vs_machine.specs.Kinds.Pinning.{Pinning, pinning_fault, pin, after_pin}
use Rattle.vs_machine.specs.Kinds.Rebalancing.{haul, after_haul, bucket_to_haul, plan, plan_round, planned, with_round, is_in_move}
use Rattle.vs_machine.specs.Kinds.Sender.{Move, move_of, start, after_start, answered_by, moved_by}
use Rattle.vs_machine.specs.Kinds.Stops.{lost_at, stopped_move, is_move_from, gone_down, stop, restart, restarted}
use Rattle.vs_machine.specs.Laws.{InputRuns, KeptInputs, BegunInputs, FewRuns, CallRuns, CommandRuns, NumberedRuns}
use Rattle.vs_machine.proofs.Can.Calls.{can_post, can_begin, can_act, can_end, can_take, can_cut}
use Rattle.vs_machine.proofs.Can.Others.{can_deliver, can_hear, can_close, can_ask, can_condemn, can_wipe, can_forget, can_pin, can_haul, can_plan}
use Rattle.vs_machine.proofs.Can.Sender.{can_start, can_wait, can_freeze, can_chunk, can_seal, can_last, can_abort, can_end_move}
use Rattle.vs_machine.proofs.Can.Stops.{can_stop, can_fault, can_restart, can_restart_line}
use Rattle.vs_machine.proofs.Frame.{put_each}
use Rattle.vs_machine.proofs.Kept.Sending.{each_of}
use Rattle.vs_machine.proofs.Opens.{each_script}
use Rattle.vs_machine.proofs.Possible.{bind_ok, ok_is, wants_none_ok}
use Rattle.vs_machine.proofs.Reached.{reached_whole}

-- ---- one event

-- buckets and connections aren't given
same_given : (s : State) (bs : ℕ → Bucket) (ls : ℕ → ℕ → Connection) → SameInputs s (record s { bucket = bs; link = ls })
same_given s bs ls = record { config = refl; clients = refl; client = λ c. refl; operators = refl; operator = λ o. refl }

one_client : (s : State) (c : ℕ) (new : Client) (bs : ℕ → Bucket) → new.script ≡ (s.client c).script → SameInputs s (record s { client = put s.client c new; bucket = bs })
one_client s c new bs same = record {
  config = refl;
  clients = refl;
  client = put_each (λ q (u : Client). u.script ≡ (s.client q).script) s.client c new same (λ q. refl);
  operators = refl;
  operator = λ o. refl;
}

one_operator : (s t : State) (o : ℕ) (new : Operator) → SameInputs s t → new.script ≡ (s.operator o).script → SameInputs s (put_operator t o new)
one_operator s t o new i same = record {
  config = i.config;
  clients = i.clients;
  client = i.client;
  operators = i.operators;
  operator = put_each (λ q (u : Operator). u.script ≡ (s.operator q).script) t.operator o new same i.operator;
}

-- an operator's command is answered, and perhaps buckets and connections change
answered : (s : State) (o : ℕ) (outcome : CommandOutcome) (bs : ℕ → Bucket) (ls : ℕ → ℕ → Connection) → SameInputs s (record s { operator = put s.operator o (answer (s.operator o) outcome); bucket = bs; link = ls })
answered s o outcome bs ls = one_operator s (record s { bucket = bs; link = ls }) o (answer (s.operator o) outcome) (same_given s bs ls) refl

cut_same : (s t : State) (o : ℕ) → cut_call s o ≡ Ok t → SameInputs s t
cut_same s t o h = let p = can_cut s t o h in subst (SameInputs s) p.gives (by p.c (is_answered (s.client p.c) p.n))
  where
    by : (c : ℕ) (late : Bool) → SameInputs s (if late then put_operator s o (answer (s.operator o) Late) else put_operator (put_client s c (with_progress (s.client c) (cut (s.client c).present))) o (answer (s.operator o) Done))
    by c true = answered s o Late s.bucket s.link
    by c false = one_operator s (put_client s c (with_progress (s.client c) (cut (s.client c).present))) o _ (one_client s c _ s.bucket refl) refl

start_same : (s t : State) (o : ℕ) → start s o ≡ Ok t → SameInputs s t
start_same s t o h = let p = can_start s t o h in subst (SameInputs s) p.gives (by p.m (send_fault s p.m.bucket p.m.from p.m.to))
  where
    by : (m : Move) (f : Option CommandFault) → SameInputs s (after_start s o m f)
    by m (Some f) = answered s o _ s.bucket s.link
    by m None = one_operator s (record s { bucket = put s.bucket m.bucket _ }) o _ (same_given s _ s.link) refl

haul_same : (s t : State) (o x d : ℕ) → haul s o x d ≡ Ok t → SameInputs s t
haul_same s t o x d h = subst (SameInputs s) (can_haul s t o x d h).gives (by (bucket_to_haul s x d))
  where
    by : (v : Option ℕ) → SameInputs s (after_haul s o x d v)
    by None = one_operator s s o _ (same_given s s.bucket s.link) refl
    by (Some b) = one_operator s (record s { bucket = put s.bucket b _ }) o _ (same_given s _ s.link) refl

-- a transfer's command is answered, or a haul is counted
answered_same : (s : State) (b : ℕ) (new : Bucket) (by : By) (outcome : CommandOutcome) → SameInputs s (record s { bucket = put s.bucket b new; operator = answered_by by s.operator outcome })
answered_same s b new (by.Command o) outcome = answered s o outcome _ s.link
answered_same s b new (by.Haul o) outcome = same_given s _ s.link

moved_same : (s : State) (b : ℕ) (new : Bucket) (by : By) → SameInputs s (record s { bucket = put s.bucket b new; operator = moved_by by s.operator })
moved_same s b new (by.Command o) = answered s o _ _ s.link
moved_same s b new (by.Haul o) = one_operator s (record s { bucket = put s.bucket b new }) o _ (same_given s _ s.link) refl

deliver_same : (s t : State) (x y : ℕ) → deliver s x y ≡ Ok t → SameInputs s t
deliver_same s t x y h = let p = can_deliver s t x y h in subst (SameInputs s) p.gives (by p.sent p.sent.message)
  where
    by : (m : link.Sent) (v : link.Message) → SameInputs s (after_deliver s x y m v)
    by m (link.Chunk b page) = same_given s _ _
    by m (link.Last b) = same_given s _ _
    by m (link.Stat b) = same_given s s.bucket _

pin_same : (s t : State) (o : ℕ) → pin s o ≡ Ok t → SameInputs s t
pin_same s t o h = let p = can_pin s t o h in subst (SameInputs s) p.gives (by p.p (pinning_fault s p.p p.p.status))
  where
    by : (q : Pinning) (f : Option CommandFault) → SameInputs s (after_pin s o q f)
    by q (Some f) = answered s o _ s.bucket s.link
    by q None = answered s o _ _ s.link

planned_same : (o : Operator) (balanced : Bool) (routes : List Route) → (planned o balanced routes).script ≡ o.script
planned_same o true routes = refl
planned_same o false routes = by ((nat_lt 0 o.rounds && (o.moved == 0)) || is_null routes)
  where
    by : (t : Bool) → (if t then answer o (Stuck o.rounds) else with_round o routes).script ≡ o.script
    by true = refl
    by false = refl

plan_same : (s t : State) (o : ℕ) → plan s o ≡ Ok t → SameInputs s t
plan_same s t o h = by (least_to (λ x. not (s.up x)) (sets_of s)) (can_plan s t o h).gives
  where
    by : (down : Option ℕ) → plan_round s o down ≡ Ok t → SameInputs s t
    by (Some x) g = subst (SameInputs s) (ok_is _ t g) (answered s o _ s.bucket s.link)
    by None g =
        let k = wants_none_ok (least_to (is_in_move s) s.config.bucket_count) reason.Moving _ t g in
        subst (SameInputs s) (ok_is _ t k.1) (one_operator s s o _ (same_given s s.bucket s.link) (planned_same (s.operator o) _ _))

lost_same : (x : ℕ) (c : Client) → (lost_at x c).script ≡ c.script
lost_same x c = by (is_at_set c.present.stage && is_set c.present.set x)
  where
    by : (t : Bool) → (if t then with_progress c (lost c.present) else c).script ≡ c.script
    by true = refl
    by false = refl

stopped_same : (x : ℕ) (o : Operator) → (stopped_move x o).script ≡ o.script
stopped_same x o = by (o.moving && is_move_from x (move_of (next_command o)))
  where
    by : (t : Bool) → (if t then answer o (Aborted Stopped) else o).script ≡ o.script
    by true = refl
    by false = refl

down_same : (s : State) (x : ℕ) → SameInputs s (gone_down s x)
down_same s x = record { config = refl; clients = refl; client = λ c. lost_same x (s.client c); operators = refl; operator = λ o. stopped_same x (s.operator o) }

stop_same : (s t : State) (o : ℕ) → stop s o ≡ Ok t → SameInputs s t
stop_same s t o h = let p = can_stop s t o h in subst (SameInputs s) p.gives (by p.x (s.up p.x))
  where
    by : (x : ℕ) (up : Bool) → SameInputs s (if up then put_operator (gone_down s x) o (answer (s.operator o) Done) else put_operator s o (answer (s.operator o) WasDown))
    by x true = one_operator s (gone_down s x) o _ (down_same s x) refl
    by x false = answered s o _ s.bucket s.link

restarted_same : (s : State) (x : ℕ) (kept : Bool) (pending : Option Change) → SameInputs s (restarted s x kept pending)
restarted_same s x true (Some change) = record { config = refl; clients = refl; client = λ c. refl; operators = refl; operator = λ o. refl }
restarted_same s x true None = record { config = refl; clients = refl; client = λ c. refl; operators = refl; operator = λ o. refl }
restarted_same s x false (Some change) = record { config = refl; clients = refl; client = λ c. refl; operators = refl; operator = λ o. refl }
restarted_same s x false None = record { config = refl; clients = refl; client = λ c. refl; operators = refl; operator = λ o. refl }

restart_same : (s t : State) (x : ℕ) (kept : Bool) (by : RestartBy) → restart s x kept by ≡ Ok t → SameInputs s t
restart_same s t x kept Service h = subst (SameInputs s) (can_restart s t x kept h).gives (restarted_same s x kept (s.pending x))
restart_same s t x kept (Line o) h = subst (SameInputs s) (can_restart_line s t x o kept h).gives (by (s.up x))
  where
    by : (u : Bool) → SameInputs s (if u then put_operator s o (answer (s.operator o) WasUp) else put_operator (restarted s x kept (s.pending x)) o (answer (s.operator o) Done))
    by true = answered s o _ s.bucket s.link
    by false = one_operator s (restarted s x kept (s.pending x)) o _ (restarted_same s x kept (s.pending x)) refl

pub kept_inputs : KeptInputs
kept_inputs s t (Post c x) h = subst (SameInputs s) (can_post s t c x h).gives (one_client s c _ s.bucket refl)
kept_inputs s t (Begin c) h = subst (SameInputs s) (can_begin s t c h).gives (one_client s c _ s.bucket refl)
kept_inputs s t (Act c) h = subst (SameInputs s) (can_act s t c h).gives (one_client s c _ _ refl)
kept_inputs s t (End c) h = subst (SameInputs s) (can_end s t c h).gives (one_client s c _ s.bucket refl)
kept_inputs s t (Take c) h = subst (SameInputs s) (can_take s t c h).gives (one_client s c _ s.bucket refl)
kept_inputs s t (Cut o) h = cut_same s t o h
kept_inputs s t (Start o) h = start_same s t o h
kept_inputs s t (Haul o x d) h = haul_same s t o x d h
kept_inputs s t (NotYet x b) h = subst (SameInputs s) (can_wait s t x b h).gives (same_given s _ s.link)
kept_inputs s t (Freeze x b) h = subst (SameInputs s) (can_freeze s t x b h).gives (same_given s _ s.link)
kept_inputs s t (Chunk x b) h = subst (SameInputs s) (can_chunk s t x b h).gives (same_given s _ _)
kept_inputs s t (Seal x b) h = subst (SameInputs s) (can_seal s t x b h).gives (same_given s _ s.link)
kept_inputs s t (Last x b) h = subst (SameInputs s) (can_last s t x b h).gives (same_given s _ _)
kept_inputs s t (Abort x b) h = let p = can_abort s t x b h in subst (SameInputs s) p.gives (answered_same s b _ p.u.by (Aborted p.cause))
kept_inputs s t (EndMove x b) h = let p = can_end_move s t x b h in subst (SameInputs s) p.gives (moved_same s b _ p.u.by)
kept_inputs s t (Deliver x y) h = deliver_same s t x y h
kept_inputs s t (Hear x y) h = subst (SameInputs s) (can_hear s t x y h).gives (same_given s _ _)
kept_inputs s t (Close o) h = subst (SameInputs s) (can_close s t o h).gives (answered s o Done s.bucket _)
kept_inputs s t (Ask x b) h = subst (SameInputs s) (can_ask s t x b h).gives (same_given s _ _)
kept_inputs s t (Condemn x b) h = subst (SameInputs s) (can_condemn s t x b h).gives (same_given s _ s.link)
kept_inputs s t (Wipe x b) h = subst (SameInputs s) (can_wipe s t x b h).gives (same_given s _ s.link)
kept_inputs s t (Forget x b) h = subst (SameInputs s) (can_forget s t x b h).gives (same_given s _ s.link)
kept_inputs s t (Pin o) h = pin_same s t o h
kept_inputs s t (Plan o) h = plan_same s t o h
kept_inputs s t (Stop o) h = stop_same s t o h
kept_inputs s t (Fault x n r) h =
    let d = down_same s x in
    subst (SameInputs s) (can_fault s t x n r h).gives (record { config = refl; clients = refl; client = d.client; operators = refl; operator = d.operator })
kept_inputs s t (Restart x kept by) h = restart_same s t x kept by h

-- ---- a run

along : (s m t : State) → SameInputs s m → SameInputs m t → SameInputs s t
along s m t i j = record {
  config = j.config ∙ i.config;
  clients = j.clients ∙ i.clients;
  client = λ c. j.client c ∙ i.client c;
  operators = j.operators ∙ i.operators;
  operator = λ o. j.operator o ∙ i.operator o;
}

pub begun_inputs : BegunInputs
begun_inputs s t [] h = subst (SameInputs s) (ok_is s t h) (same_given s s.bucket s.link)
begun_inputs s t (v ∷ es) h =
    let next = bind_ok (step s v) (λ u. run u es) t h in
    along s next.0 t (kept_inputs s next.0 v next.1) (begun_inputs next.0 t es next.2)

pub input_runs : InputRuns
input_runs s r =
    let i = begun_inputs (opening r.config r.scripts r.held) s r.events r.runs in
    record {
      scripts = r.scripts;
      lawful = subst (λ config. IsLawful config r.scripts) (sym i.config) r.opens.lawful;
      clients = i.clients;
      client = i.client;
      operators = i.operators;
      operator = i.operator;
    }

-- ---- what follows

script_within : {A : Type 0} (scripts : List (List A)) (k n : ℕ) → sum_by length scripts ≤ n → length (script_of scripts k) ≤ n
script_within scripts zero n few = omega arith
script_within scripts (suc k) n few = elim (slice_get_cases scripts k).1 [
  | inl g ↦
      let one = get_or-le-sum_by length scripts k g.0 g.1 in
      let here : length (unwrap_or (slice_get scripts k) []) ≡ length g.0 = ap (λ w. length (unwrap_or w [])) g.2 in
      let read = ap length g.3 in
      omega (arith, few, one, here, read)
  | inr g ↦ let here : length (unwrap_or (slice_get scripts k) []) ≡ 0 = ap (λ w. length (unwrap_or w [])) g.1 in omega (arith, here)
]

pub few_runs : FewRuns
few_runs s r =
    let h = input_runs s r in
    record {
      clients = subst (λ n. n ≤ 64) (sym h.clients) h.lawful.clients;
      operators = subst (λ n. n ≤ 16) (sym h.operators) h.lawful.operators;
      calls = λ c. subst (λ (ks : List Call). length ks ≤ 200000) (sym (h.client c)) (script_within h.scripts.clients c 200000 h.lawful.few_calls);
      commands = λ o. subst (λ (ks : List Command). length ks ≤ 10000) (sym (h.operator o)) (script_within h.scripts.operators o 10000 h.lawful.few_commands);
    }

within_is : (n k : ℕ) → IsWithin n k → is_to n k ≡ true
within_is n k h = let first = h.0 in let last = h.1 in grind (arith, nat_tests, first, last)

pub call_runs : CallRuns
call_runs s r c k called =
    let h = input_runs s r in
    let P : Call → Type 0 = IsLawfulCall s.config.bucket_count in
    let lawful : P k = each_of P (s.client c).script (length (s.client c).answered) k (subst (All P) (sym (h.client c)) (each_script P h.scripts.clients c h.lawful.calls)) called in
    record { lawful = lawful; bucket = within_is s.config.bucket_count k.bucket lawful.bucket }

cut_in : (s : State) (h : HasInputs s) (k : Command) → IsCutOf h.scripts.clients k → IsCutIn s k
cut_in s h (command.Cut c n) g = (
  subst (λ m. is_to m c ≡ true) (sym h.clients) (within_is (length h.scripts.clients) c g.0),
  subst (λ (ks : List Call). IsWithin (length ks) n) (sym (h.client c)) g.1,
)
cut_in s h (command.Send b x d) g = tt
cut_in s h (command.Pin b x) g = tt
cut_in s h (command.Unpin b x) g = tt
cut_in s h (command.Close x y) g = tt
cut_in s h (command.Stop x) g = tt
cut_in s h (command.Restart x) g = tt
cut_in s h command.Balance g = tt

-- what holds of each command of all scripts holds of an operator's next
next_of : (s : State) (h : HasInputs s) (P : Command → Type 0) (o : ℕ) (k : Command) → All (All P) h.scripts.operators → next_command (s.operator o) ≡ Some k → P k
next_of s h P o k all named = each_of P (s.operator o).script (length (s.operator o).answered) k (subst (All P) (sym (h.operator o)) (each_script P h.scripts.operators o all)) named

pub command_runs : CommandRuns
command_runs s r o k named =
    let h = input_runs s r in
    record {
      lawful = next_of s h (IsLawfulCommand s.config.bucket_count (sets_of s)) o k h.lawful.commands named;
      cut = cut_in s h k (next_of s h (IsCutOf h.scripts.clients) o k h.lawful.cuts named);
    }

pub numbered_runs : NumberedRuns
numbered_runs s r = (reached_whole s r).1.answers.numbered
