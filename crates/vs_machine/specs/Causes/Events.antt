-- An event of a run, by its index, and several of them in order.
use Rattle.std.specs.Prelude.{◌≡◌, ℕ, ◌<◌, List, take, slice_get, Some, Ok}
use Rattle.vs_event.specs.declared.event.Event.{Event}
use Rattle.vs_machine.specs.State.{State}
use Rattle.vs_machine.specs.Step.{step, run}

-- the event of index i is e: the events before it reach state s, and it leads to state t
pub record IsEvent (start : State) (events : List Event) (i : ℕ) (s : State) (e : Event) (t : State) : Type 0 where
  pub reached : run start (take i events) ≡ Ok s
  pub there : slice_get events i ≡ Some e
  pub gives : step s e ≡ Ok t

-- so many indices, in order, of each of which P holds
pub record AreTimes (times : ℕ) (P : ℕ → Type 0) : Type 0 where
  pub index : ℕ → ℕ
  pub rising : (j k : ℕ) → j < k → k < times → index j < index k
  pub each : (k : ℕ) → k < times → P (index k)
