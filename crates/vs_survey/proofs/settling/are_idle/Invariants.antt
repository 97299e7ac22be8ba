use Rattle.std.proofs.Common.{◌≡◌, ℕ, ◌≤◌}
use Rattle.vs_calls.specs.declared.stage.Stage.TheVariants.{Idle}
use Rattle.vs_state.specs.Plain.{plain}
use Rattle.vs_survey.proofs.settling.are_idle.Given as goal

abbrev pub invariant-loop-index : goal.invariant-loop-index
invariant-loop-index l = (c : ℕ) → 1 ≤ c → c ≤ l.index → ((plain l.state).client c).present.stage ≡ Idle
