-- What is made ready for any one event of the reserved kinds.
use Rattle.std.specs.Prelude.{◌≡◌, ℕ, ◌-◌, ◌^◌, ◌<◌, ◌≤◌, Some, None}
use Rattle.vs_script.specs.declared.command.Command.TheVariants.{Close}
use Rattle.vs_machine.specs.State.{next_command}
use Rattle.vs_state.specs.declared.actors.ClientTables.{ClientTables}
use Rattle.vs_state.specs.declared.state.State.{State}
use Rattle.vs_state.specs.Plain.{plain}
use Rattle.vs_state.specs.Tables.{numbered}
use Rattle.vs_core.specs.References.{HasReferenceRoom}
use Rattle.vs_core.specs.Rooms.{HasAnswerRoom}

-- one more call of the client can be answered
abbrev pub HasOutcomeRoom : State → ℕ → Type 0
HasOutcomeRoom s c = (t : ClientTables) → numbered Some None s.clients.items c ≡ Some t → 1 ≤ t.outcomes.room

-- each set has room for one more reference, each client and each operator can be answered, and a connection that the next
-- command of an operator closes has an epoch after its present one
pub record IsReserved (s : State) : Type 0 where
  pub references : (x : ℕ) → HasReferenceRoom s x
  pub outcomes : (c : ℕ) → HasOutcomeRoom s c
  pub answers : (o : ℕ) → HasAnswerRoom s o
  pub epochs : (o x y : ℕ) → next_command ((plain s).operator o) ≡ Some (Close x y) → ((plain s).link x y).epoch < 2 ^ 63 - 1
