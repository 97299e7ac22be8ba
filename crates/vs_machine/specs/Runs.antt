-- Runs from a coherent opening, and the states that they reach.
use Rattle.std.specs.Prelude.{◌≡◌, ℕ, false, List, [], None, Ok}
use Rattle.vs_rows.specs.RowMap.{IsRising}
use Rattle.vs_event.specs.declared.event.Event.{Event}
use Rattle.vs_config.specs.Configuration.{Configuration}
use Rattle.vs_machine.specs.State.{State, has_set, has_bucket}
use Rattle.vs_machine.specs.Step.{run}
use Rattle.vs_machine.specs.Coherence.{IsCoherent}
use Rattle.vs_script.specs.Scripts.{Scripts}
use Rattle.vs_machine.specs.Opening.{Holdings, IsLawful, opening}

-- the journals hold nothing of other sets and other buckets, and the rows of each bucket rise by key
pub record AreHoldings (s : State) (held : Holdings) : Type 0 where
  pub sets : (x b : ℕ) → has_set s x ≡ false → held.entry x b ≡ None
  pub buckets : (x b : ℕ) → has_bucket s b ≡ false → held.entry x b ≡ None
  pub empty : (x b : ℕ) → held.entry x b ≡ None → held.rows x b ≡ []
  pub rising : (x b : ℕ) → IsRising (held.rows x b)

pub record IsOpening (config : Configuration) (scripts : Scripts) (held : Holdings) : Type 0 where
  pub lawful : IsLawful config scripts
  pub holdings : AreHoldings (opening config scripts held) held
  pub coherent : IsCoherent (opening config scripts held)

-- a run from a coherent opening reaches the state
pub record IsReached (s : State) : Type 0 where
  pub config : Configuration
  pub scripts : Scripts
  pub held : Holdings
  pub events : List Event
  pub opens : IsOpening config scripts held
  pub runs : run (opening config scripts held) events ≡ Ok s
