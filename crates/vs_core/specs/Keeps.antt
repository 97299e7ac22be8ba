-- What is known of each state before an event, and is kept by it.
use Rattle.std.specs.Prelude.{◌≡◌, ℕ, ◌<◌, ◌≤◌, ◌-◌, ◌^◌, true, false, Some}
use Rattle.vs_send.specs.declared.transfer.By.{By}
use Rattle.vs_send.specs.declared.transfer.By.TheVariants.{Command, Haul}
use Rattle.vs_send.specs.declared.transfer.Transfer.{Transfer}
use Rattle.vs_script.specs.Calls.{Call}
use Rattle.vs_script.specs.declared.command as scripts
use Rattle.vs_machine.specs.Inputs.{HasInputs, IsCommandIn}
use Rattle.vs_machine.specs.Laws.{IsPosted, IsWithinScripts}
use Rattle.vs_machine.specs.State as machine
use Rattle.vs_machine.specs.Whole.{Whole}
use Rattle.vs_calls.specs.Progress.{is_idle}
use Rattle.vs_state.specs.declared.state.State.{State}
use Rattle.vs_state.specs.Agrees.{Agrees}
use Rattle.vs_state.specs.Sized.{IsSized}

-- the tables have an item for each thing of the cluster, and the references agree with the calls
pub record IsSound (s : State) : Type 0 where
  pub sized : IsSized s
  pub agrees : Agrees s

-- whose command or round began a transfer
abbrev pub operator_of : By → ℕ
operator_of (Command o) = o
operator_of (Haul o) = o

-- what holds of each state that is reached
pub record IsKnown (s : machine.State) : Type 0 where
  pub own : ℕ → ℕ
  pub whole : Whole own s
  pub few : s.config.bucket_count ≤ 30000
  -- a transfer was begun by an operator of the cluster
  pub movers : (b x : ℕ) (t : Transfer) → (s.bucket b).transfer x ≡ Some t → machine.has_operator s (operator_of t.by) ≡ true
  pub buckets : (c : ℕ) (k : Call) → machine.next_call (s.client c) ≡ Some k → machine.has_bucket s k.bucket ≡ true
  -- a call that was posted is there, and so is its set; the next command of an operator is lawful
  pub posted : (c : ℕ) → is_idle (s.client c).present.stage ≡ false → IsPosted (machine.sets_of s) (s.client c)
  pub commands : (o : ℕ) (k : scripts.Command.Command) → machine.next_command (s.operator o) ≡ Some k → IsCommandIn s k
  pub inputs : HasInputs s
  pub within : IsWithinScripts s
  -- a call has room for a number after its own
  pub numbers : (c : ℕ) → (s.client c).present.number < 2 ^ 32 - 1
