-- How a set is brought up again.
use Rattle.std.specs.Prelude.{◌≡◌, false}
use Rattle.vs_event.specs.declared.event.Event.{Event}
use Rattle.vs_event.specs.declared.event.Event.TheVariants.{Restart}
use Rattle.vs_machine.specs.Actors.{Actor, IsChoice}
use Rattle.vs_machine.specs.State.{State}

-- a restart is as if nothing were pending
abbrev pub IsBare : Event → Type 0
IsBare (Restart x kept by) = kept ≡ false
IsBare e = Unit {0}

-- one of the actor's events that can happen, and a restart a bare one
pub record IsBareChoice (s : State) (actor : Actor) (e : Event) : Type 0 where
  pub choice : IsChoice s actor e
  pub bare : IsBare e
