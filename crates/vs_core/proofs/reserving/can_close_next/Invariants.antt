use Rattle.std.proofs.Common.{◌≡◌, ◌<◌, ◌≤◌, ◌-◌, ◌^◌, ℕ, Some}
use Rattle.vs_script.specs.declared.command.Command.TheVariants.{Close}
use Rattle.vs_machine.specs.State.{next_command}
use Rattle.vs_state.specs.Plain.{plain}
use Rattle.vs_core.proofs.reserving.can_close_next.Given as goal

abbrev pub invariant-loop-before : goal.invariant-loop-before
invariant-loop-before l = (o : ℕ) → 1 ≤ o → o ≤ l.before → (x y : ℕ) → next_command ((plain l.state).operator o) ≡ Some (Close x y) → ((plain l.state).link x y).epoch < 2 ^ 63 - 1
