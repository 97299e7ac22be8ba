-- When a cluster stands still, by who could move it.
use Rattle.std.specs.Prelude.{◌≡◌, ℕ, ◌≤◌, true, false}
use Rattle.vs_calls.specs.Progress.{is_at_set}
use Rattle.vs_machine.specs.Actors.{HasEvent, Mover, Operator, Service, WouldGrant}
use Rattle.vs_machine.specs.State.{State, sets_of}
use Rattle.vs_script.specs.Calls.{Call}

-- no call of a client is at a set
abbrev pub NoCallIsAtSet : State → Type 0
NoCallIsAtSet s = (c : ℕ) → 1 ≤ c → c ≤ s.clients → is_at_set (s.client c).present.stage ≡ false

-- no operator has an event
abbrev pub NoOperatorActs : State → Type 0
NoOperatorActs s = (o : ℕ) → 1 ≤ o → o ≤ s.operators → ¬ (HasEvent s (Operator o))

-- no mover of a set has one
abbrev pub NoMoverActs : State → Type 0
NoMoverActs s = (x : ℕ) → 1 ≤ x → x ≤ sets_of s → ¬ (HasEvent s (Mover x))

-- no service of a set that is up has one
abbrev pub NoServiceActs : State → Type 0
NoServiceActs s = (x : ℕ) → 1 ≤ x → x ≤ sets_of s → s.up x ≡ true → ¬ (HasEvent s (Service x))

-- nobody who is there moves it
pub record NobodyActs (s : State) : Type 0 where
  pub calls : NoCallIsAtSet s
  pub operators : NoOperatorActs s
  pub movers : NoMoverActs s
  pub services : NoServiceActs s

-- no set would grant the call
abbrev pub NoSetGrants : State → Call → Type 0
NoSetGrants s k = (x : ℕ) → 1 ≤ x → x ≤ sets_of s → ¬ (WouldGrant s x k)
