-- What is made ready where an operator closes a connection.
use Rattle.std.specs.Prelude.{◌≡◌, ℕ, ◌-◌, ◌^◌, ◌<◌, Some}
use Rattle.vs_script.specs.declared.command.Command.TheVariants.{Close}
use Rattle.vs_machine.specs.State.{next_command}
use Rattle.vs_state.specs.declared.state.State.{State}
use Rattle.vs_state.specs.Plain.{plain}
use Rattle.vs_core.specs.Rooms.{HasAnswerRoom}

-- the operator's command can be answered, and the connection that it closes has an epoch after its present one
pub record IsCloseReady (s : State) (o : ℕ) : Type 0 where
  pub answer : HasAnswerRoom s o
  pub epoch : (x y : ℕ) → next_command ((plain s).operator o) ≡ Some (Close x y) → ((plain s).link x y).epoch < 2 ^ 63 - 1
