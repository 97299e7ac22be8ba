use Rattle.std.proofs.Common.{◌∙◌, ap, []}
use Rattle.std.specs.List.{list_all}
use Rattle.vs_machine.specs.Kinds.Stops.{is_operator_done}
use Rattle.vs_machine.specs.Opening.{operator_at}
use Rattle.vs_state.specs.Plain.{operator}
use Rattle.vs_state.proofs.Numbered.{all_counted}
use Rattle.vs_state.proofs.state.State.operators_done.Goals as goal

pub returns : goal.returns
returns c =
    c.all_operators_done.ensures
    ∙ ap (list_all (λ o. is_operator_done (operator o))) c.as_slice.ensures.value
    ∙ all_counted is_operator_done operator (operator_at []) c.args.self.now.operators.items
