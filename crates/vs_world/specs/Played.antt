-- A cluster with the list of its events.
use Rattle.std.specs.Prelude.{◌≡◌, List, [], ◌∷◌, ◌++◌, Ok}
use Rattle.vs_event.specs.declared.event.Event.{Event}
use Rattle.vs_machine.specs.Journals.{held_as}
use Rattle.vs_machine.specs.Runs.{IsOpening}
use Rattle.vs_machine.specs.State.{State}
use Rattle.vs_machine.specs.Step.{step, run}
use Rattle.vs_state.specs.declared.state.State as tables
use Rattle.vs_state.specs.Plain.{plain}
use Rattle.vs_world.specs.Began.{Began, begun, start_of}
use Rattle.vs_world.specs.declared.opening.Opening.{Opening}

-- its tables, what happened so far, and what it began with
pub record Played : Type 0 where
  pub tables : tables.State
  pub events : List Event
  pub opening : Opening

-- what it began with
abbrev pub began : Played → Began
began p = begun p.opening

-- its state
abbrev pub state_of : Played → State
state_of p = plain p.tables

-- it began as a coherent cluster, and the events lead from there to its state
pub record IsRun (p : Played) : Type 0 where
  pub opens : IsOpening (began p).config (began p).scripts (held_as (began p).states)
  pub runs : run (start_of (began p)) p.events ≡ Ok (state_of p)

-- one event more happened
pub record IsAdvanced (old new : Played) (e : Event) : Type 0 where
  pub step : step (state_of old) e ≡ Ok (state_of new)
  pub events : new.events ≡ old.events ++ e ∷ []
  pub opening : new.opening ≡ old.opening

-- nothing happened
pub record IsSame (old new : Played) : Type 0 where
  pub state : state_of new ≡ state_of old
  pub events : new.events ≡ old.events
  pub opening : new.opening ≡ old.opening
