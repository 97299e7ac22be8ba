-- A cluster in which nothing is under way but messages, and what recovery and collection do.
use Rattle.std.specs.Prelude.{◌≡◌, ℕ, true, None}
use Rattle.vs_base.specs.declared.numbers.Mode.{Mode}
use Rattle.vs_calls.specs.declared.stage.Stage.TheVariants.{Idle}
use Rattle.vs_machine.specs.Kinds.Stops.{is_finished}
use Rattle.vs_machine.specs.Runs.{IsReached}
use Rattle.vs_machine.specs.State.{State, references}

pub record IsQuiet (s : State) : Type 0 where
  pub no_transfer : (b x : ℕ) → (s.bucket b).transfer x ≡ None
  pub idle : (c : ℕ) → (s.client c).present.stage ≡ Idle
  pub unreferenced : (mode : Mode) (x b : ℕ) → references s mode x b ≡ 0

-- where every call and every command is answered, a cluster is quiet
abbrev pub QuietRuns : Type 0
QuietRuns = (s : State) → IsReached s → is_finished s ≡ true → IsQuiet s
