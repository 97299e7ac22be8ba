use Rattle.std.proofs.Common.{◌≡◌, Some, subst}
use Rattle.vs_machine.specs.Actors as actors
use Rattle.vs_machine.specs.Actors.{IsPossible}
use Rattle.vs_machine.specs.State.{next_command}
use Rattle.vs_state.specs.declared.state.State as tables
use Rattle.vs_state.specs.Plain.{plain}
use Rattle.vs_core.specs.Core.{means}
use Rattle.vs_choose.specs.Operator.{event_of}
use Rattle.vs_choose.specs.Restart.{IsBareChoice}
use Rattle.vs_choose.proofs.Chosen.{if_chosen}
use Rattle.vs_choose.proofs.Operators.{command_answer, command_chosen}
use Rattle.vs_choose.proofs.operator.next_operator.Goals as goal

pub returns-clause-choice : goal.returns-clause-choice
returns-clause-choice c =
    let s = means c.args.core.now in
    let e = event_of c.args.operator c.in_ok-command.command.now in
    if_chosen c.next_of_command.result (IsPossible s e) e (IsBareChoice s (actors.Operator c.args.operator)) c.next_of_command.ensures
    (command_chosen s c.args.operator c.in_ok-command.command.now)

pub returns-clause-none : goal.returns-clause-none
returns-clause-none c =
    let there = subst (λ (t : tables.State). Some c.in_ok-command.command.now ≡ next_command ((plain t).operator c.args.operator)) c.state.ensures.value c.in_ok-command.ensures in
    command_answer (means c.args.core.now) c.args.operator c.in_ok-command.command.now c.next_of_command.result there c.next_of_command.ensures
