-- What is made ready for a client that takes an answer.
use Rattle.std.specs.Prelude.{◌≡◌, ℕ, ◌≤◌, ◌<◌, ◌-◌, ◌^◌, Some, None}
use Rattle.vs_state.specs.declared.actors.ClientTables.{ClientTables}
use Rattle.vs_state.specs.declared.state.State.{State}
use Rattle.vs_state.specs.Tables.{numbered}

-- one more call of the client can be answered, and another have the number after it
pub record HasTakeRoom (t : ClientTables) : Type 0 where
  pub outcomes : 1 ≤ t.outcomes.room
  pub number : t.present.number < 2 ^ 32 - 1

abbrev pub IsTakeReady : State → ℕ → Type 0
IsTakeReady s c = (t : ClientTables) → numbered Some None s.clients.items c ≡ Some t → HasTakeRoom t
