use Rattle.std.proofs.Common.{◌≡◌, None}
use Rattle.vs_machine.specs.Driven.{would_grant}
use Rattle.vs_machine.specs.Tables.{least_to}
use Rattle.vs_script.specs.Calls.{call}
use Rattle.vs_state.specs.Plain.{plain}
use Rattle.vs_drive.proofs.posting.granting_set.Given as goal

abbrev pub invariant-loop-index : goal.invariant-loop-index
invariant-loop-index l = least_to (λ x. would_grant (plain l.state) x (call l.call)) l.index ≡ None
