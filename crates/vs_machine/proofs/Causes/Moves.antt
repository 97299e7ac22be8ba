-- Which events gave a move its answer.
use Rattle.std.proofs.Common.{◌≡◌, ℕ, zero, suc, inl, inr, ◌≤◌, ◌<◌, arith, Bool, true, false, refl, sym, ap, subst, ◌∙◌, List, length, map, take, Option, Some, None, Result, Ok, Err}
use Rattle.std.specs.Prelude.{◌≢◌, ◌⊎◌, ◌&&◌, ◌==◌, nat_lt, if◌then◌else◌, All, Contains, slice_get, option_map}
use Rattle.std.proofs.lemmas.Bool.{cases_eq, eqb-false}
use Rattle.std.proofs.lemmas.Bool.Decides.{nat_tests}
use Rattle.std.proofs.lemmas.List.{take_all}
use Rattle.std.proofs.lemmas.List.Elements.{All-head}
use Rattle.std.proofs.lemmas.Option.{slice_get-map, slice_get_read, slice_get_within, get_or_from_slice_get}
use Rattle.vs_base.specs.declared.numbers.Mode.TheVariants.{Rw}
use Rattle.vs_space.specs.declared.reply.RecvFault.{RecvFault}
use Rattle.vs_space.specs.declared.reply.Reply.{Reply}
use Rattle.vs_space.specs.declared.reply.Reply.TheVariants as reply
use Rattle.vs_space.specs.declared.status.Status.TheVariants.{Active}
use Rattle.vs_event.specs.declared.event.Event.{Event}
use Rattle.vs_event.specs.declared.event.Event.TheVariants.{Start, Deliver, Abort, EndMove}
use Rattle.vs_link.specs.Connection.{Connection, Sent, Message, Chunk, Last, Stat, bucket_of, rest}
use Rattle.vs_link.specs.declared.message.Heard.{Heard}
use Rattle.vs_recv.specs.declared.took.Took.{Took}
use Rattle.vs_script.specs.declared.command.Command.{Command}
use Rattle.vs_script.specs.declared.command.Command.TheVariants.{Send}
use Rattle.vs_send.specs.Phases.{abort_cause_of, is_of_transfer, waits_for, replied_phase}
use Rattle.vs_send.specs.declared.abort.AbortCause.{AbortCause}
use Rattle.vs_send.specs.declared.abort.AbortCause.TheVariants as cause
use Rattle.vs_send.specs.declared.transfer.By.TheVariants as by
use Rattle.vs_send.specs.declared.transfer.Phase.{Phase}
use Rattle.vs_send.specs.declared.transfer.Phase.TheVariants.{Draining, Ready, Waiting, Copied, Sealed, WaitingLast, Refused, Done}
use Rattle.vs_send.specs.declared.transfer.Transfer.{Transfer}
use Rattle.vs_machine.specs.declared.outcome.CommandOutcome.{CommandOutcome}
use Rattle.vs_machine.specs.declared.outcome.CommandOutcome.TheVariants as outcome
use Rattle.vs_machine.specs.State.{State, Operator, next_command, references}
use Rattle.vs_machine.specs.Step.{step, run}
use Rattle.vs_machine.specs.Opening.{opening}
use Rattle.vs_machine.specs.Runs.{IsReached}
use Rattle.vs_machine.specs.Whole.{Whole}
use Rattle.vs_machine.specs.Kinds.Sender.{Move, move_of, in_phase, last_key, cause_at}
use Rattle.vs_machine.specs.Kinds.Stops.{is_move_from}
use Rattle.vs_machine.specs.Kinds.Connections.{first_call, received_at, reply_of, after_deliver, with_last, bucket_taking}
use Rattle.vs_machine.specs.Inner.Lines.{SentFits, numbers}
use Rattle.vs_machine.specs.Laws.{IsBegunBy, CausedCommands}
use Rattle.vs_machine.specs.Causes.Calls.{TakesDown}
use Rattle.vs_machine.specs.Causes.Commands.{IsAnsweredBy}
use Rattle.vs_machine.specs.Causes.Events.{IsEvent}
use Rattle.vs_machine.specs.Causes.Moves.{IsHeldAt, IsAwaited, IsTakenAt, IsFaultedAt, IsMove, WasMoved, WasAborted, WasStopped, WasTold, IsOutdated, IsAbortCaused, IsCommandCaused}
use Rattle.vs_machine.proofs.Can.Others.{can_deliver}
use Rattle.vs_machine.proofs.Causes.Along.{Rises, none_yet, still, one_more, along}
use Rattle.vs_machine.proofs.Causes.Operators.{OperatorTurn, Kept, Begins, Answers, AnswerBy, Plainly, ByEnd, ByAbort, ByStop, IsPlain, step_operators}
use Rattle.vs_machine.proofs.Causes.Replies.{reply_to, step_replies}
use Rattle.vs_machine.proofs.Causes.Transfers.{PhaseTurn, Holds, Quietly, Sends, Hears, TransferTurn, Stands, Begun, Turned, IsQuiet, IsNoDeliver, WaitsFor, move_is, step_transfers}
use Rattle.vs_machine.proofs.Due.Steps.{transfer_runs}
use Rattle.vs_machine.proofs.Frame.{put_here}
use Rattle.vs_machine.proofs.Histories.{slice_get-push}
use Rattle.vs_machine.proofs.Inputs.{kept_inputs}
use Rattle.vs_machine.proofs.Kept.Delivering.{head_is}
use Rattle.vs_machine.proofs.Kept.Taking.{last_taken}
use Rattle.vs_machine.proofs.Numbers.{All-before}
use Rattle.vs_machine.proofs.Possible.{ok_is}
use Rattle.vs_machine.proofs.Reached.{reached_whole}

-- ---- replies, and why a transfer is given up

same_one : {A : Type 0} (u v : A) → Some u ≡ Some v → u ≡ v
same_one u v h = cc

not_is : (r : Result Took RecvFault) (fault : RecvFault) → reply_of r ≡ reply.Not fault → r ≡ Err fault
not_is (Ok took) fault h = absurd (cc h)
not_is (Err g) fault h = let same : g ≡ fault = cc h in ap (λ f. Err f) same

took_is : (r : Result Took RecvFault) → reply_of r ≡ reply.Took → (took : Took) × (r ≡ Ok took)
took_is (Ok took) h = (took, refl)
took_is (Err g) h = absurd (cc h)

drained_is : (d writes : ℕ) (up : Bool) (epoch : ℕ) (p : Phase) → abort_cause_of d writes up epoch p ≡ Some cause.Drained → (p ≡ Draining 256) × (1 ≤ writes)
drained_is d writes up epoch (Refused fault) h = absurd (cc h)
drained_is d writes up epoch Done h = absurd (cc h)
drained_is d writes false epoch (Draining n) h = absurd (cc h)
drained_is d writes false epoch (Ready k) h = absurd (cc h)
drained_is d writes false epoch (Waiting e n k) h = absurd (cc h)
drained_is d writes false epoch Copied h = absurd (cc h)
drained_is d writes false epoch Sealed h = absurd (cc h)
drained_is d writes false epoch (WaitingLast e n) h = absurd (cc h)
drained_is d writes true epoch (Ready k) h = absurd (cc h)
drained_is d writes true epoch Copied h = absurd (cc h)
drained_is d writes true epoch Sealed h = absurd (cc h)
drained_is d writes true epoch (Waiting e n k) h = at (e == epoch) h
  where
    at : (t : Bool) → (if t then None else Some cause.Closed) ≡ Some cause.Drained → (Waiting e n k ≡ Draining 256) × (1 ≤ writes)
    at true g = absurd (cc g)
    at false g = absurd (cc g)
drained_is d writes true epoch (WaitingLast e n) h = at (e == epoch) h
  where
    at : (t : Bool) → (if t then None else Some cause.Closed) ≡ Some cause.Drained → (WaitingLast e n ≡ Draining 256) × (1 ≤ writes)
    at true g = absurd (cc g)
    at false g = absurd (cc g)
drained_is d writes true epoch (Draining n) h = at (n == 256) (nat_lt 0 writes) refl refl h
  where
    at : (a c : Bool) → (n == 256) ≡ a → nat_lt 0 writes ≡ c → (if a && c then Some cause.Drained else None) ≡ Some cause.Drained → (Draining n ≡ Draining 256) × (1 ≤ writes)
    at true true e f g = let same : n ≡ 256 = grind (arith, nat_tests, e) in (ap (λ m. Draining m) same, grind (arith, nat_tests, f))
    at true false e f g = absurd (cc g)
    at false c e f g = absurd (cc g)

refused_is : (d writes : ℕ) (up : Bool) (epoch : ℕ) (p : Phase) (fault : RecvFault) → abort_cause_of d writes up epoch p ≡ Some (cause.Receiver fault) → p ≡ Refused fault
refused_is d writes up epoch (Refused g) fault h = let same : g ≡ fault = cc h in ap (λ f. Refused f) same
refused_is d writes up epoch Done fault h = absurd (cc h)
refused_is d writes false epoch (Draining n) fault h = absurd (cc h)
refused_is d writes false epoch (Ready k) fault h = absurd (cc h)
refused_is d writes false epoch (Waiting e n k) fault h = absurd (cc h)
refused_is d writes false epoch Copied fault h = absurd (cc h)
refused_is d writes false epoch Sealed fault h = absurd (cc h)
refused_is d writes false epoch (WaitingLast e n) fault h = absurd (cc h)
refused_is d writes true epoch (Ready k) fault h = absurd (cc h)
refused_is d writes true epoch Copied fault h = absurd (cc h)
refused_is d writes true epoch Sealed fault h = absurd (cc h)
refused_is d writes true epoch (Waiting e n k) fault h = at (e == epoch) h
  where
    at : (t : Bool) → (if t then None else Some cause.Closed) ≡ Some (cause.Receiver fault) → Waiting e n k ≡ Refused fault
    at true g = absurd (cc g)
    at false g = absurd (cc g)
refused_is d writes true epoch (WaitingLast e n) fault h = at (e == epoch) h
  where
    at : (t : Bool) → (if t then None else Some cause.Closed) ≡ Some (cause.Receiver fault) → WaitingLast e n ≡ Refused fault
    at true g = absurd (cc g)
    at false g = absurd (cc g)
refused_is d writes true epoch (Draining n) fault h = at ((n == 256) && nat_lt 0 writes) h
  where
    at : (t : Bool) → (if t then Some cause.Drained else None) ≡ Some (cause.Receiver fault) → Draining n ≡ Refused fault
    at true g = absurd (cc g)
    at false g = absurd (cc g)

-- a closed connection: the transfer waits for a reply of another epoch
closed_is : (d writes : ℕ) (up : Bool) (epoch : ℕ) (p : Phase) → abort_cause_of d writes up epoch p ≡ Some cause.Closed → IsOutdated epoch p
closed_is d writes up epoch (Refused fault) h = absurd (cc h)
closed_is d writes up epoch Done h = absurd (cc h)
closed_is d writes false epoch (Draining n) h = absurd (cc h)
closed_is d writes false epoch (Ready k) h = absurd (cc h)
closed_is d writes false epoch (Waiting e n k) h = absurd (cc h)
closed_is d writes false epoch Copied h = absurd (cc h)
closed_is d writes false epoch Sealed h = absurd (cc h)
closed_is d writes false epoch (WaitingLast e n) h = absurd (cc h)
closed_is d writes true epoch (Ready k) h = absurd (cc h)
closed_is d writes true epoch Copied h = absurd (cc h)
closed_is d writes true epoch Sealed h = absurd (cc h)
closed_is d writes true epoch (Waiting e n k) h = at (e == epoch) refl h
  where
    at : (t : Bool) → (e == epoch) ≡ t → (if t then None else Some cause.Closed) ≡ Some cause.Closed → e ≢ epoch
    at true is g = absurd (cc g)
    at false is g = eqb-false e epoch is
closed_is d writes true epoch (WaitingLast e n) h = at (e == epoch) refl h
  where
    at : (t : Bool) → (e == epoch) ≡ t → (if t then None else Some cause.Closed) ≡ Some cause.Closed → e ≢ epoch
    at true is g = absurd (cc g)
    at false is g = eqb-false e epoch is
closed_is d writes true epoch (Draining n) h = at ((n == 256) && nat_lt 0 writes) h
  where
    at : (t : Bool) → (if t then Some cause.Drained else None) ≡ Some cause.Closed → IsOutdated epoch (Draining n)
    at true g = absurd (cc g)
    at false g = absurd (cc g)

down_is : (d writes : ℕ) (up : Bool) (epoch : ℕ) (p : Phase) (y : ℕ) → abort_cause_of d writes up epoch p ≡ Some (cause.SetDown y) → (y ≡ d) × (up ≡ false)
down_is d writes up epoch (Refused fault) y h = absurd (cc h)
down_is d writes up epoch Done y h = absurd (cc h)
down_is d writes false epoch (Draining n) y h = let same : d ≡ y = cc h in (sym same, refl)
down_is d writes false epoch (Ready k) y h = let same : d ≡ y = cc h in (sym same, refl)
down_is d writes false epoch (Waiting e n k) y h = let same : d ≡ y = cc h in (sym same, refl)
down_is d writes false epoch Copied y h = let same : d ≡ y = cc h in (sym same, refl)
down_is d writes false epoch Sealed y h = let same : d ≡ y = cc h in (sym same, refl)
down_is d writes false epoch (WaitingLast e n) y h = let same : d ≡ y = cc h in (sym same, refl)
down_is d writes true epoch (Ready k) y h = absurd (cc h)
down_is d writes true epoch Copied y h = absurd (cc h)
down_is d writes true epoch Sealed y h = absurd (cc h)
down_is d writes true epoch (Waiting e n k) y h = at (e == epoch) h
  where
    at : (t : Bool) → (if t then None else Some cause.Closed) ≡ Some (cause.SetDown y) → (y ≡ d) × (true ≡ false)
    at true g = absurd (cc g)
    at false g = absurd (cc g)
down_is d writes true epoch (WaitingLast e n) y h = at (e == epoch) h
  where
    at : (t : Bool) → (if t then None else Some cause.Closed) ≡ Some (cause.SetDown y) → (y ≡ d) × (true ≡ false)
    at true g = absurd (cc g)
    at false g = absurd (cc g)
down_is d writes true epoch (Draining n) y h = at ((n == 256) && nat_lt 0 writes) h
  where
    at : (t : Bool) → (if t then Some cause.Drained else None) ≡ Some (cause.SetDown y) → (y ≡ d) × (true ≡ false)
    at true g = absurd (cc g)
    at false g = absurd (cc g)

pub stopped_isnt : (d writes : ℕ) (up : Bool) (epoch : ℕ) (p : Phase) → abort_cause_of d writes up epoch p ≡ Some cause.Stopped → ⊥
stopped_isnt d writes up epoch (Refused fault) h = absurd (cc h)
stopped_isnt d writes up epoch Done h = absurd (cc h)
stopped_isnt d writes false epoch (Draining n) h = absurd (cc h)
stopped_isnt d writes false epoch (Ready k) h = absurd (cc h)
stopped_isnt d writes false epoch (Waiting e n k) h = absurd (cc h)
stopped_isnt d writes false epoch Copied h = absurd (cc h)
stopped_isnt d writes false epoch Sealed h = absurd (cc h)
stopped_isnt d writes false epoch (WaitingLast e n) h = absurd (cc h)
stopped_isnt d writes true epoch (Ready k) h = absurd (cc h)
stopped_isnt d writes true epoch Copied h = absurd (cc h)
stopped_isnt d writes true epoch Sealed h = absurd (cc h)
stopped_isnt d writes true epoch (Waiting e n k) h = at (e == epoch) h
  where
    at : (t : Bool) → (if t then None else Some cause.Closed) ≡ Some cause.Stopped → ⊥
    at true g = absurd (cc g)
    at false g = absurd (cc g)
stopped_isnt d writes true epoch (WaitingLast e n) h = at (e == epoch) h
  where
    at : (t : Bool) → (if t then None else Some cause.Closed) ≡ Some cause.Stopped → ⊥
    at true g = absurd (cc g)
    at false g = absurd (cc g)
stopped_isnt d writes true epoch (Draining n) h = at ((n == 256) && nat_lt 0 writes) h
  where
    at : (t : Bool) → (if t then Some cause.Drained else None) ≡ Some cause.Stopped → ⊥
    at true g = absurd (cc g)
    at false g = absurd (cc g)

-- a command that moves a bucket from the set
pub from_set : (c : Option Command) (x : ℕ) → is_move_from x (move_of c) ≡ true → (b : ℕ) × (d : ℕ) × (c ≡ Some (Send b x d))
from_set c x h = by (move_of c) refl h
  where
    by : (o : Option Move) → move_of c ≡ o → is_move_from x o ≡ true → (b : ℕ) × (d : ℕ) × (c ≡ Some (Send b x d))
    by None is g = absurd (cc g)
    by (Some m) is g = let same : m.from ≡ x = grind (arith, nat_tests, g) in (m.bucket, m.to, subst (λ z. c ≡ Some (Send m.bucket z m.to)) same (move_is c m is))

-- a reply in the line has a number below the next
reply_below : (l : Connection) (h : Heard) → All (λ n. n < l.next) (numbers l) → Contains l.replies h → h.sync < l.next
reply_below l h below c =
    let P : ℕ → Type 0 = λ n. n < l.next in
    let ns : List ℕ = map (λ (g : Heard). g.sync) l.replies in
    let at : slice_get l.replies c.0 ≡ Some h = slice_get_read l.replies (length l.replies) c.0 h refl c.1 (sym c.2) in
    let there : slice_get ns c.0 ≡ Some h.sync = slice_get-map (λ (g : Heard). g.sync) l.replies c.0 ∙ ap (λ o. option_map (λ (g : Heard). g.sync) o) at in
    subst P (get_or_from_slice_get ns c.0 h.sync h.sync there) (All-before P ns _ below c.0 h.sync (slice_get_within ns c.0 h.sync there))

-- ---- what is known of a transfer by the events before index i

module _ (start : State) (events : List Event) where
  -- the receiver took the last message, or answered this fault, between these events
  abbrev TakenIn : (b x d f i : ℕ) → Type 0
  TakenIn b x d f i = (j : ℕ) × (f < j) × (j < i) × IsTakenAt start events b x d j

  abbrev FaultedIn : (b x d f i : ℕ) → RecvFault → Type 0
  FaultedIn b x d f i fault = (j : ℕ) × (f < j) × (j < i) × IsFaultedAt start events b x d fault j

  -- what the replies in a line tell
  abbrev FaultTold : (b x d f i n : ℕ) → List Heard → Type 0
  FaultTold b x d f i n hs = (h : Heard) (fault : RecvFault) → Contains hs h → h.bucket ≡ b → h.sync ≡ n → h.reply ≡ reply.Not fault → FaultedIn b x d f i fault

  abbrev TakenTold : (b x d f i n : ℕ) → List Heard → Type 0
  TakenTold b x d f i n hs = (h : Heard) → Contains hs h → h.bucket ≡ b → h.sync ≡ n → h.reply ≡ reply.Took → TakenIn b x d f i

  abbrev Turn : (b x f : ℕ) → ℕ → Type 0
  Turn b x f j = (f < j) × IsHeldAt start events b x j

  abbrev PhasePast : (b x d f i : ℕ) → List Heard → Phase → Type 0
  PhasePast b x d f i hs (Draining n) = Rises i n (Turn b x f)
  PhasePast b x d f i hs (Waiting e n k) = FaultTold b x d f i n hs
  PhasePast b x d f i hs (WaitingLast e n) = FaultTold b x d f i n hs × TakenTold b x d f i n hs
  PhasePast b x d f i hs (Refused fault) = FaultedIn b x d f i fault
  PhasePast b x d f i hs Done = TakenIn b x d f i
  PhasePast b x d f i hs p = Unit {0}

  -- the operator began it by a command, and wasn't answered since
  record BegunBy (o b x d f : ℕ) (now : Operator) : Type 0 where
    before : State
    after : State
    it : IsEvent start events f before (Start o) after
    named : next_command (before.operator o) ≡ Some (Send b x d)
    unanswered : length (before.operator o).answered ≡ length now.answered

  record MovePast (i : ℕ) (s : State) (b x : ℕ) (u : Transfer) : Type 0 where
    f : ℕ
    earlier : f < i
    stands : (j : ℕ) (r : State) → f < j → j ≤ i → run start (take j events) ≡ Ok r → (v : Transfer) × ((r.bucket b).transfer x ≡ Some v) × (v.dest ≡ u.dest) × (v.by ≡ u.by)
    begun : (o : ℕ) → u.by ≡ by.Command o → BegunBy o b x u.dest f (s.operator o)
    phase : PhasePast b x u.dest f i (s.link x u.dest).replies u.phase

  -- the operator began its next command, before the event of index i
  record HasStarted (o i : ℕ) (now : Operator) : Type 0 where
    f : ℕ
    earlier : f < i
    before : State
    after : State
    it : IsEvent start events f before (Start o) after
    same : next_command (before.operator o) ≡ next_command now
    unanswered : length (before.operator o).answered ≡ length now.answered

  record Past (i : ℕ) (s : State) : Type 0 where
    moves : (b x : ℕ) (u : Transfer) → (s.bucket b).transfer x ≡ Some u → MovePast i s b x u
    answered : (o m : ℕ) (out : CommandOutcome) → slice_get (s.operator o).answered m ≡ Some out → IsCommandCaused start events o m out
    started : (o : ℕ) → (s.operator o).moving ≡ true → HasStarted o i (s.operator o)

  taken_later : (b x d f i : ℕ) → TakenIn b x d f i → TakenIn b x d f (suc i)
  taken_later b x d f i h = (h.0, h.1, omega (arith, h.2), h.3)

  faulted_later : (b x d f i : ℕ) (fault : RecvFault) → FaultedIn b x d f i fault → FaultedIn b x d f (suc i) fault
  faulted_later b x d f i fault h = (h.0, h.1, omega (arith, h.2), h.3)

  -- ---- one event

  module _ (i : ℕ) (s t : State) (e : Event) (it : IsEvent start events i s e t) (ran : run start (take (suc i) events) ≡ Ok t) (own : ℕ → ℕ) (w : Whole own s) (reached : IsReached t) where
    -- an operator whose move goes on isn't answered
    unanswered_by : (o : ℕ) → (t.operator o).moving ≡ true → OperatorTurn s e o (t.operator o) → (t.operator o).answered ≡ (s.operator o).answered
    unanswered_by o busy (Kept same was) = same
    unanswered_by o busy (Begins m begins named same) = same
    unanswered_by o busy (Answers out given is) = absurd (cc (busy, ap (λ (p : Operator). p.moving) is))

    unanswered : (b x : ℕ) (u : Transfer) → (t.bucket b).transfer x ≡ Some u → (o : ℕ) → u.by ≡ by.Command o → length (s.operator o).answered ≡ length (t.operator o).answered
    unanswered b x u there o mine =
        let begun = subst (IsBegunBy t.operators t.operator b x u.dest) mine (transfer_runs t reached b x u there) in
        ap length (sym (unanswered_by o begun.1.moving (step_operators s t e it.gives o)))

    -- ---- replies

    delivered : (x d : ℕ) → e ≡ Deliver x d → IsEvent start events i s (Deliver x d) t
    delivered x d is = subst (λ v. IsEvent start events i s v t) is it

    -- the message that was delivered fits its transfer
    first_fits : (x d n : ℕ) (m : Message) → first_call s x d ≡ Some (record { sync = n; message = m }) → SentFits (s.link x d).epoch s.bucket x d (record { sync = n; message = m })
    first_fits x d n m head =
        let l = s.link x d in
        let sent : Sent = record { sync = n; message = m } in
        All-head (SentFits l.epoch s.bucket x d) sent (rest l.calls) (subst (All (SentFits l.epoch s.bucket x d)) (head_is (x == d) l.calls sent head) (w.inner.links x d).calls)

    -- the receiver's entry once it took the last message
    activated : (x d q n : ℕ) (took : Took) → first_call s x d ≡ Some (record { sync = n; message = Last q }) → received_at s x d q true ≡ Ok took → step s (Deliver x d) ≡ Ok t → (t.bucket q).entry d ≡ Some Active
    activated x d q n took head received h =
        let p = can_deliver s t x d h in
        let m : Sent = record { sync = n; message = Last q } in
        let one : p.sent ≡ m = same_one p.sent m (sym p.head ∙ head) in
        let gives : after_deliver s x d m m.message ≡ t = subst (λ (v : Sent). after_deliver s x d v v.message ≡ t) one p.gives in
        let b = s.bucket q in
        let new = bucket_taking b x d (Last q) (received_at s x d q true) in
        let is : new ≡ with_last b d = ap (λ r. bucket_taking b x d (Last q) r) received in
        subst (λ (v : State). (v.bucket q).entry d ≡ Some Active) gives
        (ap (λ (v : _). v.entry d) (put_here s.bucket q new ∙ is) ∙ put_here b.entry d (Some Active))

    given_fault : (b x d f : ℕ) (fault : RecvFault) → f < i → (n : ℕ) (m : Message) → first_call s x d ≡ Some (record { sync = n; message = m }) → IsEvent start events i s (Deliver x d) t
        → bucket_of m ≡ b → reply_to s x d m ≡ reply.Not fault → FaultedIn b x d f (suc i) fault
    given_fault b x d f fault lt n (Chunk q page) head at is said = (
      i,
      lt,
      omega arith,
      record {
        before = s;
        after = t;
        it = at;
        sent = record { sync = n; message = Chunk q page };
        first = head;
        is_last = false;
        its = is;
        awaited = subst (λ z. IsAwaited s z x d false (record { sync = n; message = Chunk q page })) is (last_key page, (first_fits x d n (Chunk q page) head).0);
        refused = subst (λ z. received_at s x d z false ≡ Err fault) is (not_is _ fault said);
      },
    )
    given_fault b x d f fault lt n (Last q) head at is said = (
      i,
      lt,
      omega arith,
      record {
        before = s;
        after = t;
        it = at;
        sent = record { sync = n; message = Last q };
        first = head;
        is_last = true;
        its = is;
        awaited = subst (λ z. IsAwaited s z x d true (record { sync = n; message = Last q })) is (first_fits x d n (Last q) head);
        refused = subst (λ z. received_at s x d z true ≡ Err fault) is (not_is _ fault said);
      },
    )
    given_fault b x d f fault lt n (Stat q) head at is said = absurd (cc said)

    given_took : (b x f : ℕ) (v : Transfer) (epoch n : ℕ) → (s.bucket b).transfer x ≡ Some v → v.phase ≡ WaitingLast epoch n → f < i → (k : ℕ) (m : Message) → first_call s x v.dest ≡ Some (record { sync = k; message = m })
        → IsEvent start events i s (Deliver x v.dest) t → bucket_of m ≡ b → reply_to s x v.dest m ≡ reply.Took → TakenIn b x v.dest f (suc i)
    given_took b x f v epoch n there waits lt k (Chunk q page) head at is said =
        let fits = (first_fits x v.dest k (Chunk q page) head).0 in
        let here : (s.bucket b).transfer x ≡ Some fits.it = subst (λ z. (s.bucket z).transfer x ≡ Some fits.it) is fits.there in
        let one : fits.it ≡ v = same_one fits.it v (sym here ∙ there) in
        absurd (cc (ap (λ (u : Transfer). u.phase) one, fits.phase_is, waits))
    given_took b x f v epoch n there waits lt k (Last q) head at is said =
        let d = v.dest in
        let took = took_is (received_at s x d q true) said in (
          i,
          lt,
          omega arith,
          subst (λ z. IsTakenAt start events z x d i) is (record {
            before = s;
            after = t;
            it = at;
            sent = record { sync = k; message = Last q };
            first = head;
            last = refl;
            awaited = first_fits x d k (Last q) head;
            receiving = last_taken ((s.bucket q).entry d) _ _ _ x took.0 took.1;
            active = activated x d q k took.0 head took.1 at.gives;
          }),
        )
    given_took b x f v epoch n there waits lt k (Stat q) head at is said = absurd (cc said)

    fault_on : (b x d f n : ℕ) → f < i → FaultTold b x d f i n (s.link x d).replies → FaultTold b x d f (suc i) n (t.link x d).replies
    fault_on b x d f n lt told h fault c bucket sync said = elim (step_replies s t e it.gives x d h c) [
      | inl old ↦ faulted_later b x d f i fault (told h fault old bucket sync said)
      | inr g ↦ given_fault b x d f fault lt g.sent.sync g.sent.message g.first (delivered x d g.delivers) (sym (ap (λ (v : Heard). v.bucket) g.reply) ∙ bucket) (sym (ap (λ (v : Heard). v.reply) g.reply) ∙ said)
    ]

    taken_on : (b x f : ℕ) (v : Transfer) (epoch n : ℕ) → (s.bucket b).transfer x ≡ Some v → v.phase ≡ WaitingLast epoch n → f < i → TakenTold b x v.dest f i n (s.link x v.dest).replies → TakenTold b x v.dest f (suc i) n (t.link x v.dest).replies
    taken_on b x f v epoch n there waits lt told h c bucket sync said = elim (step_replies s t e it.gives x v.dest h c) [
      | inl old ↦ taken_later b x v.dest f i (told h old bucket sync said)
      | inr g ↦ given_took b x f v epoch n there waits lt g.sent.sync g.sent.message g.first (delivered x v.dest g.delivers) (sym (ap (λ (u : Heard). u.bucket) g.reply) ∙ bucket) (sym (ap (λ (u : Heard). u.reply) g.reply) ∙ said)
    ]

    -- ---- phases

    -- a transfer that stays in its phase
    same_phase : (b x f : ℕ) (v : Transfer) → (s.bucket b).transfer x ≡ Some v → f < i → (p : Phase) → v.phase ≡ p → PhasePast b x v.dest f i (s.link x v.dest).replies p → PhasePast b x v.dest f (suc i) (t.link x v.dest).replies p
    same_phase b x f v there lt (Draining n) is h = still i n (Turn b x f) h
    same_phase b x f v there lt (Ready k) is h = tt
    same_phase b x f v there lt (Waiting epoch n k) is h = fault_on b x v.dest f n lt h
    same_phase b x f v there lt Copied is h = tt
    same_phase b x f v there lt Sealed is h = tt
    same_phase b x f v there lt (WaitingLast epoch n) is h = (fault_on b x v.dest f n lt h.0, taken_on b x f v epoch n there is lt h.1)
    same_phase b x f v there lt (Refused fault) is h = faulted_later b x v.dest f i fault h
    same_phase b x f v there lt Done is h = taken_later b x v.dest f i h

    quiet_phase : (b x d f : ℕ) (hs : List Heard) (p : Phase) → IsQuiet p → PhasePast b x d f (suc i) hs p
    quiet_phase b x d f hs (Ready k) h = tt
    quiet_phase b x d f hs Copied h = tt
    quiet_phase b x d f hs Sealed h = tt
    quiet_phase b x d f hs (Draining n) h = absurd h
    quiet_phase b x d f hs (Waiting epoch n k) h = absurd h
    quiet_phase b x d f hs (WaitingLast epoch n) h = absurd h
    quiet_phase b x d f hs (Refused fault) h = absurd h
    quiet_phase b x d f hs Done h = absurd h

    -- no reply has the number of the message that is sent
    unsaid : (x d : ℕ) (h : Heard) → IsNoDeliver e → Contains (t.link x d).replies h → h.sync ≡ (s.link x d).next → ⊥
    unsaid x d h calm c sync = elim (step_replies s t e it.gives x d h c) [
      | inl old ↦ absurd (omega (arith, sync, reply_below (s.link x d) h (w.inner.links x d).below old))
      | inr g ↦ subst IsNoDeliver g.delivers calm
    ]

    sent_phase : (b x d f : ℕ) → IsNoDeliver e → (p : Phase) → WaitsFor (s.link x d).next p → PhasePast b x d f (suc i) (t.link x d).replies p
    sent_phase b x d f calm (Waiting epoch n k) is = λ h fault c bucket sync said. absurd (unsaid x d h calm c (sync ∙ is))
    sent_phase b x d f calm (WaitingLast epoch n) is = (λ h fault c bucket sync said. absurd (unsaid x d h calm c (sync ∙ is)), λ h c bucket sync said. absurd (unsaid x d h calm c (sync ∙ is)))
    sent_phase b x d f calm (Draining n) is = absurd is
    sent_phase b x d f calm (Ready k) is = absurd is
    sent_phase b x d f calm Copied is = absurd is
    sent_phase b x d f calm Sealed is = absurd is
    sent_phase b x d f calm (Refused fault) is = absurd is
    sent_phase b x d f calm Done is = absurd is

    -- a reply that is waited for is heard
    heard_phase_is : (b x d f : ℕ) (hs next : List Heard) (h : Heard) (more : Bool) → Contains hs h → h.bucket ≡ b → (g : Phase) (r : Reply) → is_of_transfer r ≡ true → waits_for g h.sync ≡ true → h.reply ≡ r → PhasePast b x d f i hs g
        → PhasePast b x d f (suc i) next (replied_phase g r more)
    heard_phase_is b x d f hs next h more c bucket (Waiting epoch n k) reply.Took turn waits is past = at more
      where
        at : (m : Bool) → PhasePast b x d f (suc i) next (replied_phase (Waiting epoch n k) reply.Took m)
        at true = tt
        at false = tt
    heard_phase_is b x d f hs next h more c bucket (Waiting epoch n k) (reply.Not fault) turn waits is past = faulted_later b x d f i fault (past h fault c bucket (grind (arith, nat_tests, waits)) is)
    heard_phase_is b x d f hs next h more c bucket (WaitingLast epoch n) reply.Took turn waits is past = taken_later b x d f i (past.1 h c bucket (grind (arith, nat_tests, waits)) is)
    heard_phase_is b x d f hs next h more c bucket (WaitingLast epoch n) (reply.Not fault) turn waits is past = faulted_later b x d f i fault (past.0 h fault c bucket (grind (arith, nat_tests, waits)) is)
    heard_phase_is b x d f hs next h more c bucket g (reply.State st live) turn waits is past = absurd (cc turn)
    heard_phase_is b x d f hs next h more c bucket (Draining n) r turn waits is past = absurd (cc waits)
    heard_phase_is b x d f hs next h more c bucket (Ready k) r turn waits is past = absurd (cc waits)
    heard_phase_is b x d f hs next h more c bucket Copied r turn waits is past = absurd (cc waits)
    heard_phase_is b x d f hs next h more c bucket Sealed r turn waits is past = absurd (cc waits)
    heard_phase_is b x d f hs next h more c bucket (Refused fault) r turn waits is past = absurd (cc waits)
    heard_phase_is b x d f hs next h more c bucket Done r turn waits is past = absurd (cc waits)

    phase_turned : (b x f : ℕ) (v : Transfer) (p : Phase) → f < i → PhasePast b x v.dest f i (s.link x v.dest).replies v.phase → PhaseTurn s e b x v p → PhasePast b x v.dest f (suc i) (t.link x v.dest).replies p
    phase_turned b x f v p lt h (Holds n is held was new) =
        let hs = (t.link x v.dest).replies in
        let old : Rises i n (Turn b x f) = subst (PhasePast b x v.dest f i (s.link x v.dest).replies) was h in
        let here : IsHeldAt start events b x i = record { before = s; after = t; it = subst (λ z. IsEvent start events i s z t) is it; held = held } in
        subst (PhasePast b x v.dest f (suc i) hs) (sym new) (subst (λ k. Rises (suc i) k (Turn b x f)) (omega arith) (one_more i n (Turn b x f) old (lt, here)))
    phase_turned b x f v p lt h (Quietly quiet) = quiet_phase b x v.dest f (t.link x v.dest).replies p quiet
    phase_turned b x f v p lt h (Sends calm waits) = sent_phase b x v.dest f calm p waits
    phase_turned b x f v p lt h (Hears g more c bucket turn waits new) =
        subst (PhasePast b x v.dest f (suc i) (t.link x v.dest).replies) (sym new)
        (heard_phase_is b x v.dest f (s.link x v.dest).replies (t.link x v.dest).replies g more c bucket v.phase g.reply turn waits refl h)

    -- ---- transfers

    -- the transfer stood before, and does still
    on : (b x : ℕ) (v : Transfer) (p : Phase) (m : MovePast i s b x v) → (t.bucket b).transfer x ≡ Some (in_phase v p) → PhasePast b x v.dest m.f (suc i) (t.link x v.dest).replies p → MovePast (suc i) t b x (in_phase v p)
    on b x v p m there phase = record {
      f = m.f;
      earlier = omega (arith, m.earlier);
      stands = λ j r lt le h. at j r lt le h (cases_eq j (suc i));
      begun = λ o mine. let old = m.begun o mine in record {
        before = old.before;
        after = old.after;
        it = old.it;
        named = old.named;
        unanswered = old.unanswered ∙ unanswered b x (in_phase v p) there o mine;
      };
      phase = phase;
    }
      where
        at : (j : ℕ) (r : State) → m.f < j → j ≤ suc i → run start (take j events) ≡ Ok r → (j ≡ suc i) ⊎ (j ≢ suc i) → (u : Transfer) × ((r.bucket b).transfer x ≡ Some u) × (u.dest ≡ v.dest) × (u.by ≡ v.by)
        at j r lt le h (inl is) =
            let now : r ≡ t = ok_is r t (sym (subst (λ k. run start (take k events) ≡ Ok r) is h) ∙ ran) in
            (in_phase v p, ap (λ (z : State). (z.bucket b).transfer x) now ∙ there, refl, refl)
        at j r lt le h (inr ne) = m.stands j r lt (grind (arith, le, ne)) h

    -- the transfer begins
    begins : (b x : ℕ) (u : Transfer) → (t.bucket b).transfer x ≡ Some u → u.phase ≡ Draining 0 → ((o : ℕ) → u.by ≡ by.Command o → (e ≡ Start o) × (next_command (s.operator o) ≡ Some (Send b x u.dest))) → MovePast (suc i) t b x u
    begins b x u there first from = record {
      f = i;
      earlier = omega arith;
      stands = λ j r lt le h.
          let is : j ≡ suc i = omega (arith, lt, le) in
          let now : r ≡ t = ok_is r t (sym (subst (λ k. run start (take k events) ≡ Ok r) is h) ∙ ran) in
          (u, ap (λ (z : State). (z.bucket b).transfer x) now ∙ there, refl, refl);
      begun = λ o mine. record {
        before = s;
        after = t;
        it = subst (λ z. IsEvent start events i s z t) (from o mine).0 it;
        named = (from o mine).1;
        unanswered = unanswered b x u there o mine;
      };
      phase = subst (PhasePast b x u.dest i (suc i) (t.link x u.dest).replies) (sym first) (none_yet (suc i) (Turn b x i));
    }

    module _ (past : Past i s) where
      moved : (b x : ℕ) (u : Transfer) → (t.bucket b).transfer x ≡ Some u → TransferTurn s e b x u → MovePast (suc i) t b x u
      moved b x u there (Stands was) = let m = past.moves b x u was in on b x u u.phase m there (same_phase b x m.f u was m.earlier u.phase refl m.phase)
      moved b x u there (Begun first from) = begins b x u there first from
      moved b x u there (Turned v p was turn is) =
          let m = past.moves b x v was in
          subst (MovePast (suc i) t b x) (sym is) (on b x v p m (there ∙ ap (λ z. Some z) is) (phase_turned b x m.f v p m.earlier m.phase turn))

      -- ---- answers

      is_move : (o b x : ℕ) (u : Transfer) (m : MovePast i s b x u) → u.by ≡ by.Command o → IsMove start events o (length (s.operator o).answered) b x u.dest m.f i
      is_move o b x u m mine = let old = m.begun o mine in record {
        started = record { before = old.before; after = old.after; it = old.it; command = old.unanswered; named = old.named };
        earlier = m.earlier;
        stands = λ j r lt le h. let v = m.stands j r lt le h in (v.0, v.1, v.2, v.3 ∙ mine);
      }

      ends_moved : (o b x : ℕ) (u : Transfer) → e ≡ EndMove x b → (s.bucket b).transfer x ≡ Some u → u.by ≡ by.Command o → u.phase ≡ Done → WasMoved start events o (length (s.operator o).answered)
      ends_moved o b x u is there mine done =
          let m = past.moves b x u there in
          let took : TakenIn b x u.dest m.f i = subst (PhasePast b x u.dest m.f i (s.link x u.dest).replies) done m.phase in
          record {
            b = b;
            x = x;
            d = u.dest;
            f = m.f;
            g = i;
            move = is_move o b x u m mine;
            before = s;
            after = t;
            ended = subst (λ z. IsEvent start events i s z t) is it;
            i = took.0;
            within = (took.1, took.2);
            taken = took.3;
          }

      aborts : (o b x : ℕ) (u : Transfer) (why : AbortCause) → e ≡ Abort x b → (m : MovePast i s b x u) → u.by ≡ by.Command o → IsAbortCaused start events s b x u.dest m.f i why → WasAborted start events o (length (s.operator o).answered) why
      aborts o b x u why is m mine caused = record {
        b = b;
        x = x;
        d = u.dest;
        f = m.f;
        g = i;
        move = is_move o b x u m mine;
        before = s;
        after = t;
        ended = subst (λ z. IsEvent start events i s z t) is it;
        why = caused;
      }

      aborted : (o b x : ℕ) (u : Transfer) → e ≡ Abort x b → (s.bucket b).transfer x ≡ Some u → u.by ≡ by.Command o → (why : AbortCause) → cause_at s x b u ≡ Some why → IsCommandCaused start events o (length (s.operator o).answered) (outcome.Aborted why)
      aborted o b x u is there mine cause.Drained caused =
          let m = past.moves b x u there in
          let k = drained_is u.dest (references s Rw x b) (s.up u.dest) (s.link x u.dest).epoch u.phase caused in
          let turns : Rises i 256 (Turn b x m.f) = subst (PhasePast b x u.dest m.f i (s.link x u.dest).replies) k.0 m.phase in
          aborts o b x u cause.Drained is m mine (
            record {
              index = turns.all.index;
              rising = turns.all.rising;
              each = λ n lt. let held = turns.all.each n lt in (held.0, turns.below n lt, held.1);
            },
            k.1,
          )
      aborted o b x u is there mine (cause.Receiver fault) caused =
          let m = past.moves b x u there in
          let k = refused_is u.dest (references s Rw x b) (s.up u.dest) (s.link x u.dest).epoch u.phase fault caused in
          aborts o b x u (cause.Receiver fault) is m mine (subst (PhasePast b x u.dest m.f i (s.link x u.dest).replies) k m.phase)
      aborted o b x u is there mine cause.Closed caused =
          aborts o b x u cause.Closed is (past.moves b x u there) mine (u, there, closed_is u.dest (references s Rw x b) (s.up u.dest) (s.link x u.dest).epoch u.phase caused)
      aborted o b x u is there mine (cause.SetDown y) caused =
          aborts o b x u (cause.SetDown y) is (past.moves b x u there) mine (down_is u.dest (references s Rw x b) (s.up u.dest) (s.link x u.dest).epoch u.phase y caused)
      aborted o b x u is there mine cause.Stopped caused = absurd (stopped_isnt u.dest (references s Rw x b) (s.up u.dest) (s.link x u.dest).epoch u.phase caused)

      stops : (o x : ℕ) → TakesDown s e x → s.up x ≡ true → (s.operator o).moving ≡ true → is_move_from x (move_of (next_command (s.operator o))) ≡ true → WasStopped start events o (length (s.operator o).answered)
      stops o x down up busy from =
          let k = from_set (next_command (s.operator o)) x from in
          let old = past.started o busy in
          record {
            b = k.0;
            x = x;
            d = k.1;
            f = old.f;
            g = i;
            started = record { before = old.before; after = old.after; it = old.it; command = old.unanswered; named = old.same ∙ k.2 };
            earlier = old.earlier;
            before = s;
            event = e;
            after = t;
            ended = it;
            command = refl;
            moving = busy;
            down = down;
            was_up = up;
          }

      told : (o : ℕ) (out : CommandOutcome) → IsAnsweredBy s e o out → WasTold start events o (length (s.operator o).answered) out
      told o out found = record { g = i; before = s; event = e; after = t; it = it; command = refl; found = found }

      plain : (o : ℕ) (out : CommandOutcome) → IsPlain out → IsAnsweredBy s e o out → IsCommandCaused start events o (length (s.operator o).answered) out
      plain o outcome.Moved h found = absurd h
      plain o (outcome.Aborted why) h found = absurd h
      plain o outcome.Done h found = told o outcome.Done found
      plain o outcome.Late h found = told o outcome.Late found
      plain o outcome.WasDown h found = told o outcome.WasDown found
      plain o outcome.WasUp h found = told o outcome.WasUp found
      plain o (outcome.Balanced n) h found = told o (outcome.Balanced n) found
      plain o (outcome.Stuck n) h found = told o (outcome.Stuck n) found
      plain o (outcome.Refused fault) h found = told o (outcome.Refused fault) found

      answered_by : (o : ℕ) (out : CommandOutcome) → AnswerBy s e o out → IsCommandCaused start events o (length (s.operator o).answered) out
      answered_by o out (Plainly h found) = plain o out h found
      answered_by o out (ByEnd x b u is there mine done said) = subst (IsCommandCaused start events o (length (s.operator o).answered)) (sym said) (ends_moved o b x u is there mine done)
      answered_by o out (ByAbort x b u why is there mine caused said) = subst (IsCommandCaused start events o (length (s.operator o).answered)) (sym said) (aborted o b x u is there mine why caused)
      answered_by o out (ByStop x down up busy from said) = subst (IsCommandCaused start events o (length (s.operator o).answered)) (sym said) (stops o x down up busy from)

      answered_now : (o : ℕ) → OperatorTurn s e o (t.operator o) → (m : ℕ) (out : CommandOutcome) → slice_get (t.operator o).answered m ≡ Some out → IsCommandCaused start events o m out
      answered_now o (Kept same was) m out at = past.answered o m out (subst (λ os. slice_get os m ≡ Some out) same at)
      answered_now o (Begins m begins named same) n out at = past.answered o n out (subst (λ os. slice_get os n ≡ Some out) same at)
      answered_now o (Answers given how is) m out at = elim (slice_get-push (s.operator o).answered given m out (subst (λ (p : Operator). slice_get p.answered m ≡ Some out) is at)) [
        | inl old ↦ past.answered o m out old
        | inr new ↦ subst (λ v. IsCommandCaused start events o m v) (sym new.1) (subst (λ n. IsCommandCaused start events o n given) (sym new.0) (answered_by o given how))
      ]

      -- ---- commands that began

      same_command : (o : ℕ) → (t.operator o).answered ≡ (s.operator o).answered → next_command (s.operator o) ≡ next_command (t.operator o)
      same_command o same =
          ap (λ n. slice_get (s.operator o).script n) (ap length (sym same))
          ∙ ap (λ (commands : List Command). slice_get commands (length (t.operator o).answered)) (sym ((kept_inputs s t e it.gives).operator o))

      started_now : (o : ℕ) → OperatorTurn s e o (t.operator o) → (t.operator o).moving ≡ true → HasStarted o (suc i) (t.operator o)
      started_now o (Kept same was) busy =
          let old = past.started o (was busy) in
          record {
            f = old.f;
            earlier = omega (arith, old.earlier);
            before = old.before;
            after = old.after;
            it = old.it;
            same = old.same ∙ same_command o same;
            unanswered = old.unanswered ∙ ap length (sym same);
          }
      started_now o (Begins m begins named same) busy = record {
        f = i;
        earlier = omega arith;
        before = s;
        after = t;
        it = subst (λ z. IsEvent start events i s z t) begins it;
        same = same_command o same;
        unanswered = ap length (sym same);
      }
      started_now o (Answers given how is) busy = absurd (cc (busy, ap (λ (p : Operator). p.moving) is))

      next_past : Past (suc i) t
      next_past = record {
        moves = λ b x u there. moved b x u there (step_transfers s t e it.gives b x u there);
        answered = λ o. answered_now o (step_operators s t e it.gives o);
        started = λ o. started_now o (step_operators s t e it.gives o);
      }

pub caused_commands : CausedCommands
caused_commands config scripts held events s opens ran =
    let start = opening config scripts held in
    (along start events (Past start events) first next (length events) s (omega arith) (subst (λ es. run start es ≡ Ok s) (sym (take_all (length events) events (omega arith))) ran)).answered
  where
    reached : (i : ℕ) (u : State) → run (opening config scripts held) (take i events) ≡ Ok u → IsReached u
    reached i u h = record { config = config; scripts = scripts; held = held; events = take i events; opens = opens; runs = h }

    first : Past (opening config scripts held) events zero (opening config scripts held)
    first = record { moves = λ b x u there. absurd (cc there); answered = λ o m out at. absurd (cc at); started = λ o busy. absurd (cc busy) }

    next : (i : ℕ) (u v : State) (e : Event) → IsEvent (opening config scripts held) events i u e v → run (opening config scripts held) (take (suc i) events) ≡ Ok v → Past (opening config scripts held) events i u → Past (opening config scripts held) events (suc i) v
    next i u v e it h past = let w = reached_whole u (reached i u it.reached) in next_past (opening config scripts held) events i u v e it h w.0 w.1 (reached (suc i) v h) past
