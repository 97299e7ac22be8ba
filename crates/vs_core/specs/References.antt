-- What a call on the references of a set does to a state.
use Rattle.std.specs.Prelude.{◌≡◌, ℕ, ◌≤◌, Some, None}
use Rattle.vs_refs.specs.Calls.{Call, after}
use Rattle.vs_machine.specs.State as machine
use Rattle.vs_machine.specs.Tables.{put}
use Rattle.vs_machine.specs.Kinds.Rebalancing.{hauls_at}
use Rattle.vs_state.specs.declared.state.State.{State}
use Rattle.vs_state.specs.declared.tables.SetTables.{SetTables}
use Rattle.vs_state.specs.Agrees.{agreed, counts_at, hauls_in}
use Rattle.vs_state.specs.Plain.{plain}
use Rattle.vs_state.specs.Tables.{numbered}

-- the call is made at set x: of each bucket it leaves there what it is to leave, and all else is as it was
pub record MakesAt (s t : State) (x : ℕ) (call : Call) : Type 0 where
  pub counts : (b : ℕ) → (λ y. counts_at t y b) ≡ put (λ y. counts_at s y b) x (after call b (counts_at s x b))
  pub hauls : hauls_in t ≡ hauls_in s
  pub plain : plain t ≡ plain s

-- one more bucket can have references at the set
abbrev pub HasReferenceRoom : State → ℕ → Type 0
HasReferenceRoom s x = (t : SetTables) → numbered Some None s.sets.items x ≡ Some t → 1 ≤ t.refs.room

-- the set to which the client's call was posted has room for references on one more bucket
abbrev pub IsBeginReady : State → ℕ → Type 0
IsBeginReady s c = (x : ℕ) → ((plain s).client c).present.set ≡ Some x → HasReferenceRoom s x

-- the references are those of this state of the machine
pub record AgreesWith (s : State) (n : machine.State) : Type 0 where
  pub counts : (x b : ℕ) → counts_at s x b ≡ agreed n x b
  pub hauls : (x : ℕ) → hauls_in s x ≡ hauls_at n x
