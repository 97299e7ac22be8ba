-- What is made ready where a set asks another.
use Rattle.std.specs.Prelude.{◌≡◌, ℕ, ◌≤◌, Some, None}
use Rattle.vs_machine.specs.Kinds.Connections.{asked_set}
use Rattle.vs_state.specs.declared.state.State.{State}
use Rattle.vs_state.specs.declared.tables.SetTables.{SetTables}
use Rattle.vs_state.specs.Plain.{plain}
use Rattle.vs_state.specs.Tables.{numbered}
use Rattle.vs_core.specs.Sending.{HasLineRoom}

-- the set has room for one more ask
abbrev pub HasAskRoom : State → ℕ → Type 0
HasAskRoom s x = (t : SetTables) → numbered Some None s.sets.items x ≡ Some t → 1 ≤ t.asks.room

-- there is room for the ask, and for its question on the way to the set that is asked
pub record IsAskReady (s : State) (x b : ℕ) : Type 0 where
  pub ask : HasAskRoom s x
  pub line : (y : ℕ) → asked_set (((plain s).bucket b).entry x) ≡ Some y → HasLineRoom s.links x y
