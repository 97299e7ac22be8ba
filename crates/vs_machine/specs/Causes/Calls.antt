-- Why a call was answered so: Reply, Lost, or Spent.
use Rattle.std.specs.Prelude.{◌≡◌, ℕ, ◌<◌, ◌||◌, ◌⊎◌, Bool, true, List, Some}
use Rattle.vs_rows.specs.Operations.{answers_to}
use Rattle.vs_rows.specs.Said.{Said}
use Rattle.vs_space.specs.declared.status.Cause.{Cause}
use Rattle.vs_space.specs.declared.status.Verdict.TheVariants.{Refused}
use Rattle.vs_calls.specs.declared.stage.Stage.{Stage}
use Rattle.vs_calls.specs.Outcomes.{Outcome, Reply, Lost, Spent}
use Rattle.vs_calls.specs.Progress.{is_at_set, is_refused, is_idle, outcome_of}
use Rattle.vs_event.specs.declared.event.Event.{Event}
use Rattle.vs_event.specs.declared.event.Event.TheVariants.{Post, Begin, Act, Take, Cut, Stop, Fault}
use Rattle.vs_script.specs.Calls.{Call}
use Rattle.vs_machine.specs.State.{State, next_call, next_command}
use Rattle.vs_machine.specs.Kinds.Calls.{verdict_at, place_of, call_to_cut}
use Rattle.vs_machine.specs.Kinds.Stops.{set_to_stop}
use Rattle.vs_machine.specs.Causes.Events.{IsEvent, AreTimes}

-- ---- replied

-- at the event of index i call n of client c ran at its set, and got this place and these answers from the rows there
pub record IsRunAt (start : State) (events : List Event) (c n place : ℕ) (answers : List Said) (i : ℕ) : Type 0 where
  pub before : State
  pub after : State
  pub it : IsEvent start events i before (Act c) after
  pub number : (before.client c).present.number ≡ n
  pub call : Call
  pub called : next_call (before.client c) ≡ Some call
  pub set : ℕ
  pub at : (before.client c).present.set ≡ Some set
  pub placed : place_of (before.bucket call.bucket) set call.mode ≡ place
  pub answered : answers_to ((before.bucket call.bucket).rows set) call.ops ≡ answers

-- ---- lost

-- an operator's cut that names call n of client c
abbrev pub Cuts : State → Event → ℕ → ℕ → Type 0
Cuts s (Cut o) c n = call_to_cut (next_command (s.operator o)) ≡ Some (c, n)
Cuts s e c n = ⊥

-- a stop of the set, or a fault there
abbrev pub TakesDown : State → Event → ℕ → Type 0
TakesDown s (Stop o) x = set_to_stop (next_command (s.operator o)) ≡ Some x
TakesDown s (Fault z n e) x = z ≡ x
TakesDown s e x = ⊥

-- the call was posted, and hasn't been lost or taken: it is at its set, or was refused there
abbrev pub is_open : Stage → Bool
is_open g = is_at_set g || is_refused g

-- the event of index i is a cut of call n of client c, which found it open
pub record IsCutAt (start : State) (events : List Event) (c n i : ℕ) : Type 0 where
  pub before : State
  pub event : Event
  pub after : State
  pub it : IsEvent start events i before event after
  pub cuts : Cuts before event c n
  pub number : (before.client c).present.number ≡ n
  pub found : is_open (before.client c).present.stage ≡ true

-- by the event of index i the set went down at which call n of client c was posted, running, acted or ended
pub record IsStoppedAt (start : State) (events : List Event) (c n i : ℕ) : Type 0 where
  pub before : State
  pub event : Event
  pub after : State
  pub it : IsEvent start events i before event after
  pub set : ℕ
  pub down : TakesDown before event set
  pub was_up : before.up set ≡ true
  pub number : (before.client c).present.number ≡ n
  pub at : (before.client c).present.set ≡ Some set
  pub found : is_at_set (before.client c).present.stage ≡ true

-- the call was cut, or its set went down, between the events of index f and g
abbrev pub WasGivenUp : State → List Event → (c n f g : ℕ) → Type 0
WasGivenUp start events c n f g = (i : ℕ) × (f < i) × (i < g) × (IsCutAt start events c n i ⊎ IsStoppedAt start events c n i)

-- ---- spent

-- at the event of index i call n of client c began, and was refused for this cause, by the verdict of its set or because that is down
pub record IsRefusedAt (start : State) (events : List Event) (c n : ℕ) (cause : Cause) (i : ℕ) : Type 0 where
  pub before : State
  pub after : State
  pub it : IsEvent start events i before (Begin c) after
  pub number : (before.client c).present.number ≡ n
  pub call : Call
  pub called : next_call (before.client c) ≡ Some call
  pub set : ℕ
  pub at : (before.client c).present.set ≡ Some set
  pub refused : verdict_at before set call ≡ Refused cause

-- the call was refused 128 times between the events of index f and g, the last time for this cause
pub record WasRefused (start : State) (events : List Event) (c n f g : ℕ) (last : Cause) : Type 0 where
  pub times : AreTimes 128 (λ i. (f < i) × (i < g) × ((cause : Cause) × IsRefusedAt start events c n cause i))
  pub last_time : IsRefusedAt start events c n last (times.index 127)

-- ---- what a call was answered

-- at the event of index f call n of client c is posted for the first time
pub record IsPostedAt (start : State) (events : List Event) (c n f : ℕ) : Type 0 where
  pub before : State
  pub after : State
  pub set : ℕ
  pub it : IsEvent start events f before (Post c set) after
  pub number : (before.client c).present.number ≡ n
  pub unposted : is_idle (before.client c).present.stage ≡ true

-- at the event of index g its answer is taken
pub record IsAnsweredAt (start : State) (events : List Event) (c n g : ℕ) (o : Outcome) : Type 0 where
  pub before : State
  pub after : State
  pub it : IsEvent start events g before (Take c) after
  pub number : (before.client c).present.number ≡ n
  pub answer : outcome_of (before.client c).present ≡ o

-- why it is answered so, by the events between those
abbrev pub IsCaused : State → List Event → (c n f g : ℕ) → Outcome → Type 0
IsCaused start events c n f g (Reply place answers) = (i : ℕ) × (f < i) × (i < g) × IsRunAt start events c n place answers i
IsCaused start events c n f g Lost = WasGivenUp start events c n f g
IsCaused start events c n f g (Spent cause) = WasRefused start events c n f g cause

-- call n of client c was first posted at the event of index f, and answered at that of index g
pub record WasAnswered (start : State) (events : List Event) (c n : ℕ) (o : Outcome) : Type 0 where
  pub f : ℕ
  pub g : ℕ
  pub posted : IsPostedAt start events c n f
  pub answered : IsAnsweredAt start events c n g o
  pub earlier : f < g
  pub why : IsCaused start events c n f g o
