-- Room for what is answered.
use Rattle.std.specs.Prelude.{◌≡◌, ℕ, ◌≤◌, Some, None}
use Rattle.vs_state.specs.declared.actors.OperatorTables.{OperatorTables}
use Rattle.vs_state.specs.declared.state.State.{State}
use Rattle.vs_state.specs.Tables.{numbered}

-- one more command of the operator can be answered
abbrev pub HasAnswerRoom : State → ℕ → Type 0
HasAnswerRoom s o = (t : OperatorTables) → numbered Some None s.operators.items o ≡ Some t → 1 ≤ t.outcomes.room
