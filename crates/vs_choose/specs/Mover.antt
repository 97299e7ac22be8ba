-- What a set has to do with a bucket that it sends away.
use Rattle.std.specs.Prelude.{ℕ, Option, Some, None}
use Rattle.vs_event.specs.declared.event.Event.{Event}
use Rattle.vs_event.specs.declared.event.Event.TheVariants.{Freeze, Chunk, Seal, Last, Abort, EndMove}
use Rattle.vs_send.specs.declared.transfer.Phase.{Phase}
use Rattle.vs_send.specs.declared.transfer.Phase.TheVariants as phase
use Rattle.vs_machine.specs.Actors.{IsPossible}
use Rattle.vs_machine.specs.State.{State}

-- what set x does next with a transfer in this phase, unless it gives it up
abbrev pub step_in : Phase → ℕ → ℕ → Option Event
step_in (phase.Draining turns) x b = Some (Freeze x b)
step_in (phase.Ready key) x b = Some (Chunk x b)
step_in phase.Copied x b = Some (Seal x b)
step_in phase.Sealed x b = Some (Last x b)
step_in phase.Done x b = Some (EndMove x b)
step_in (phase.Waiting epoch number key) x b = None
step_in (phase.WaitingLast epoch number) x b = None
step_in (phase.Refused fault) x b = None

-- the mover of set x can do nothing with bucket b but wait
pub record HasNoMove (s : State) (x b : ℕ) : Type 0 where
  pub freeze : ¬ (IsPossible s (Freeze x b))
  pub chunk : ¬ (IsPossible s (Chunk x b))
  pub seal : ¬ (IsPossible s (Seal x b))
  pub last : ¬ (IsPossible s (Last x b))
  pub abort : ¬ (IsPossible s (Abort x b))
  pub ends : ¬ (IsPossible s (EndMove x b))
