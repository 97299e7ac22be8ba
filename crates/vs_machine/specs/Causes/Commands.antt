-- How an event answers an operator's next command, by what it finds.
use Rattle.std.specs.Prelude.{◌≡◌, ℕ, ◌<◌, ◌≤◌, ◌⊎◌, not, Bool, true, false, List, [], length, Some, None}
use Rattle.vs_balance.specs.Disbalance.{is_disbalanced}
use Rattle.vs_balance.specs.Ideal.{ideal_of}
use Rattle.vs_balance.specs.Routes.{routes_of}
use Rattle.vs_balance.specs.declared.route.Route.{Route}
use Rattle.vs_event.specs.declared.event.Event.{Event}
use Rattle.vs_event.specs.declared.event.Event.TheVariants.{Cut, Start, Abort, EndMove, Close, Pin, Plan, Stop, Restart}
use Rattle.vs_event.specs.declared.event.RestartBy.TheVariants.{Line}
use Rattle.vs_send.specs.declared.abort.AbortCause.{AbortCause}
use Rattle.vs_send.specs.declared.abort.AbortCause.TheVariants.{Stopped}
use Rattle.vs_send.specs.declared.transfer.By.TheVariants.{Command}
use Rattle.vs_send.specs.declared.transfer.Phase.TheVariants as phase
use Rattle.vs_send.specs.declared.transfer.Transfer.{Transfer}
use Rattle.vs_machine.specs.declared.outcome.CommandFault.{CommandFault}
use Rattle.vs_machine.specs.declared.outcome.CommandFault.TheVariants.{Down}
use Rattle.vs_machine.specs.declared.outcome.CommandOutcome.{CommandOutcome}
use Rattle.vs_machine.specs.declared.outcome.CommandOutcome.TheVariants.{Moved, Done, Late, WasDown, WasUp, Balanced, Stuck, Refused, Aborted}
use Rattle.vs_machine.specs.State.{State, sets_of, next_command}
use Rattle.vs_machine.specs.Tables.{least_to}
use Rattle.vs_machine.specs.Causes.Calls.{TakesDown}
use Rattle.vs_machine.specs.Kinds.Calls.{call_to_cut}
use Rattle.vs_machine.specs.Kinds.Faults.{send_fault}
use Rattle.vs_machine.specs.Kinds.Pinning.{Pinning, pinning_of, pinning_fault}
use Rattle.vs_machine.specs.Kinds.Rebalancing.{views_of}
use Rattle.vs_machine.specs.Kinds.Sender.{Move, move_of, cause_at}
use Rattle.vs_machine.specs.Kinds.Stops.{set_to_stop}

-- ---- a move that ends

-- the event ends a transfer of the operator's command, which is done
pub record EndsMove (s : State) (e : Event) (o : ℕ) : Type 0 where
  pub bucket : ℕ
  pub at : ℕ
  pub event : e ≡ EndMove at bucket
  pub transfer : Transfer
  pub there : (s.bucket bucket).transfer at ≡ Some transfer
  pub its : transfer.by ≡ Command o
  pub done : transfer.phase ≡ phase.Done

-- it gives such a transfer up, and this is the first cause that holds
pub record GivesUpMove (s : State) (e : Event) (o : ℕ) (cause : AbortCause) : Type 0 where
  pub bucket : ℕ
  pub at : ℕ
  pub event : e ≡ Abort at bucket
  pub transfer : Transfer
  pub there : (s.bucket bucket).transfer at ≡ Some transfer
  pub its : transfer.by ≡ Command o
  pub caused : cause_at s at bucket transfer ≡ Some cause

-- by it the set goes down from which the operator's command moves a bucket
pub record StopsMove (s : State) (e : Event) (o : ℕ) : Type 0 where
  pub move : Move
  pub named : move_of (next_command (s.operator o)) ≡ Some move
  pub moving : (s.operator o).moving ≡ true
  pub down : TakesDown s e move.from
  pub was_up : s.up move.from ≡ true

-- ---- a command that can't be carried out: this is the first fault that holds

pub record RefusesMove (s : State) (e : Event) (o : ℕ) (fault : CommandFault) : Type 0 where
  pub event : e ≡ Start o
  pub move : Move
  pub named : move_of (next_command (s.operator o)) ≡ Some move
  pub faulty : send_fault s move.bucket move.from move.to ≡ Some fault

pub record RefusesPin (s : State) (e : Event) (o : ℕ) (fault : CommandFault) : Type 0 where
  pub event : e ≡ Pin o
  pub pinning : Pinning
  pub named : pinning_of (next_command (s.operator o)) ≡ Some pinning
  pub faulty : pinning_fault s pinning pinning.status ≡ Some fault

-- the lowest set that is down
abbrev pub IsFirstDown : State → ℕ → Type 0
IsFirstDown s x = least_to (λ y. not (s.up y)) (sets_of s) ≡ Some x

pub record RefusesRound (s : State) (e : Event) (o : ℕ) (fault : CommandFault) : Type 0 where
  pub event : e ≡ Plan o
  pub set : ℕ
  pub first : IsFirstDown s set
  pub faulty : fault ≡ Down set

abbrev pub Refuses : State → Event → ℕ → CommandFault → Type 0
Refuses s e o fault = RefusesMove s e o fault ⊎ RefusesPin s e o fault ⊎ RefusesRound s e o fault

-- ---- a round

abbrev pub AreAllUp : State → Type 0
AreAllUp s = least_to (λ y. not (s.up y)) (sets_of s) ≡ None

abbrev pub is_unbalanced : State → Bool
is_unbalanced s = is_disbalanced (views_of s) (ideal_of (views_of s)) s.config.threshold

abbrev pub routes_in : State → List Route
routes_in s = routes_of (views_of s) (ideal_of (views_of s)) s.config.max_receiving

-- the counts are near the ideals, after so many rounds of the command
pub record FindsBalanced (s : State) (e : Event) (o rounds : ℕ) : Type 0 where
  pub event : e ≡ Plan o
  pub up : AreAllUp s
  pub near : is_unbalanced s ≡ false
  pub counted : rounds ≡ (s.operator o).rounds

-- they aren't, and the last round moved nothing, or nothing can be moved
pub record FindsStuck (s : State) (e : Event) (o rounds : ℕ) : Type 0 where
  pub event : e ≡ Plan o
  pub up : AreAllUp s
  pub far : is_unbalanced s ≡ true
  pub ended : ((1 ≤ (s.operator o).rounds) × ((s.operator o).moved ≡ 0)) ⊎ (routes_in s ≡ [])
  pub counted : rounds ≡ (s.operator o).rounds

-- ---- cut, stop and restart

-- the call that the operator is to cut, by its client and its number there, was answered
pub record FindsCallAnswered (s : State) (e : Event) (o : ℕ) : Type 0 where
  pub event : e ≡ Cut o
  pub client : ℕ
  pub number : ℕ
  pub named : call_to_cut (next_command (s.operator o)) ≡ Some (client, number)
  pub answered : number ≤ length (s.client client).answered

-- it wasn't yet
pub record FindsCallOpen (s : State) (e : Event) (o : ℕ) : Type 0 where
  pub event : e ≡ Cut o
  pub client : ℕ
  pub number : ℕ
  pub named : call_to_cut (next_command (s.operator o)) ≡ Some (client, number)
  pub unanswered : length (s.client client).answered < number

-- the set that the operator is to stop is up, or down
pub record FindsSetToStop (s : State) (e : Event) (o : ℕ) (up : Bool) : Type 0 where
  pub event : e ≡ Stop o
  pub set : ℕ
  pub named : set_to_stop (next_command (s.operator o)) ≡ Some set
  pub found : s.up set ≡ up

-- the set that the operator restarts is up, or down
pub record FindsSetToRestart (s : State) (e : Event) (o : ℕ) (up : Bool) : Type 0 where
  pub set : ℕ
  pub kept : Bool
  pub event : e ≡ Restart set kept (Line o)
  pub found : s.up set ≡ up

-- the bucket can be pinned, or unpinned
pub record PinsBucket (s : State) (e : Event) (o : ℕ) : Type 0 where
  pub event : e ≡ Pin o
  pub pinning : Pinning
  pub named : pinning_of (next_command (s.operator o)) ≡ Some pinning
  pub faultless : pinning_fault s pinning pinning.status ≡ None

-- the call is cut, the connection closed, the bucket pinned or unpinned, the set stopped or restarted
abbrev pub CarriesOut : State → Event → ℕ → Type 0
CarriesOut s e o = FindsCallOpen s e o ⊎ (e ≡ Close o) ⊎ PinsBucket s e o ⊎ FindsSetToStop s e o true ⊎ FindsSetToRestart s e o false

-- ---- what the next command of operator o is answered by a possible event

abbrev pub IsAnsweredBy : State → Event → ℕ → CommandOutcome → Type 0
IsAnsweredBy s e o Moved = EndsMove s e o
IsAnsweredBy s e o (Aborted Stopped) = StopsMove s e o
IsAnsweredBy s e o (Aborted cause) = GivesUpMove s e o cause
IsAnsweredBy s e o (Refused fault) = Refuses s e o fault
IsAnsweredBy s e o (Balanced rounds) = FindsBalanced s e o rounds
IsAnsweredBy s e o (Stuck rounds) = FindsStuck s e o rounds
IsAnsweredBy s e o Late = FindsCallAnswered s e o
IsAnsweredBy s e o WasDown = FindsSetToStop s e o false
IsAnsweredBy s e o WasUp = FindsSetToRestart s e o true
IsAnsweredBy s e o Done = CarriesOut s e o
