-- What a client can do, where its call is to be posted to one set or to none.
use Rattle.std.specs.Prelude.{◌≡◌, ℕ, Option, Some, None}
use Rattle.vs_calls.specs.declared.stage.Stage.{Stage}
use Rattle.vs_calls.specs.declared.stage.Stage.TheVariants as stage
use Rattle.vs_event.specs.declared.event.Event.{Event}
use Rattle.vs_event.specs.declared.event.Event.TheVariants.{Post, Begin, Act, End, Take}
use Rattle.vs_machine.specs.Actors as actors
use Rattle.vs_machine.specs.Actors.{IsChoice, IsPossible}
use Rattle.vs_machine.specs.State.{State}

-- the event is no post, or one to this set
abbrev pub IsPostedTo : Option ℕ → Event → Type 0
IsPostedTo to (Post c x) = to ≡ Some x
IsPostedTo to e = Unit {0}

-- one of the client's events that can happen, and a post only to this set
pub record IsClientChoice (s : State) (c : ℕ) (to : Option ℕ) (e : Event) : Type 0 where
  pub choice : IsChoice s (actors.Client c) e
  pub posted : IsPostedTo to e

abbrev pub HasClientEvent : State → ℕ → Option ℕ → Type 0
HasClientEvent s c to = (e : Event) × IsClientChoice s c to e

-- ---- by the stage of its call

-- what it does with its call, but for posting it
abbrev pub step_at : ℕ → Stage → Option Event
step_at c stage.Idle = None
step_at c stage.Posted = Some (Begin c)
step_at c stage.Running = Some (Act c)
step_at c stage.Acted = Some (End c)
step_at c stage.Refused = Some (Take c)
step_at c stage.Ended = Some (Take c)
step_at c stage.Lost = Some (Take c)

-- it can't go on but by a post
pub record HasNoStep (s : State) (c : ℕ) : Type 0 where
  pub begin : ¬ (IsPossible s (Begin c))
  pub act : ¬ (IsPossible s (Act c))
  pub ends : ¬ (IsPossible s (End c))
  pub take : ¬ (IsPossible s (Take c))
