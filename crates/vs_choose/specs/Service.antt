-- What a service has to do with a bucket.
use Rattle.std.specs.Prelude.{ℕ}
use Rattle.vs_event.specs.declared.event.Event.TheVariants.{Ask, Condemn, Wipe, Forget}
use Rattle.vs_machine.specs.Actors.{IsLeftAside, IsPossible}
use Rattle.vs_machine.specs.State.{State}

-- the service of set x has nothing to do with bucket b
pub record IsIdleAt (s : State) (x b : ℕ) : Type 0 where
  pub ask : IsPossible s (Ask x b) → IsLeftAside s (Ask x b)
  pub condemn : ¬ (IsPossible s (Condemn x b))
  pub wipe : ¬ (IsPossible s (Wipe x b))
  pub forget : ¬ (IsPossible s (Forget x b))
