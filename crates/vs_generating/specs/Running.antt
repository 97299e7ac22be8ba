-- The run that is made from a number.
use Rattle.std.specs.Prelude.{◌≡◌, ◌≢◌, ℕ, ◌-◌, ◌^◌, true, List, Ok, Some, slice_get}
use Rattle.vs_core.specs.Safety.{IsSafeRun}
use Rattle.vs_event.specs.declared.event.Event.{Event}
use Rattle.vs_event.specs.declared.event.Event.TheVariants.{Fault, NotYet}
use Rattle.vs_event.specs.declared.event.Recorded.{Recorded}
use Rattle.vs_gen.specs.Generated.{first_configuration, second_configuration, scripts_of}
use Rattle.vs_machine.specs.Actors.{ArePostsSteered}
use Rattle.vs_machine.specs.Kinds.Stops.{is_finished}
use Rattle.vs_machine.specs.Settling.{IsSettled}
use Rattle.vs_machine.specs.State.{State}
use Rattle.vs_machine.specs.Step.{run}
use Rattle.vs_world.specs.Began.{Began, start_of}
use Rattle.vs_world.specs.Opened.{IsSet, new_state}

-- The scripts of the number begin, with the second configuration, on what the sets of a new cluster of the first one have.
pub record IsBeginning (number : ℕ) (b : Began) : Type 0 where
  pub config : b.config ≡ second_configuration
  pub scripts : b.scripts ≡ scripts_of number
  pub limit : b.limit ≡ 2 ^ 64 - 1
  pub states : (x : ℕ) → IsSet first_configuration x → b.states x ≡ new_state first_configuration x

-- The events lead from there to this state, in which all calls and commands are answered and the cluster is at rest.
pub record IsRunOf (number : ℕ) (events : List Event) (last : State) : Type 0 where
  pub began : Began
  pub beginning : IsBeginning number began
  pub ran : run (start_of began) events ≡ Ok last
  pub safe : IsSafeRun (start_of began) events
  pub finished : is_finished last ≡ true
  pub settled : IsSettled last
  -- each refused call was posted again as it has to be
  pub steered : ArePostsSteered (start_of began) events
  -- no mover waited, and no disk failed
  pub unwaited : (m x b : ℕ) → slice_get events m ≢ Some (NotYet x b)
  pub unfailed : (m x n : ℕ) (e : Recorded) → slice_get events m ≢ Some (Fault x n e)
