use Rattle.std.proofs.Common.{◌∙◌, ap, None}
use Rattle.std.specs.List.{list_any}
use Rattle.vs_machine.specs.Kinds.Rebalancing.{is_moving}
use Rattle.vs_state.specs.Plain.{entry_in}
use Rattle.vs_state.specs.Tables.{numbered}
use Rattle.vs_state.proofs.Counts.{any_to}
use Rattle.vs_state.proofs.Numbered.{any_counted}
use Rattle.vs_state.proofs.state.State.is_in_move.Goals as goal

pub returns : goal.returns
returns c =
    let sets = c.args.self.now.sets.items in
    let b = c.args.bucket in
    c.any_moving.ensures
    ∙ ap (list_any (λ t. is_moving (entry_in t b))) c.as_slice.ensures.value
    ∙ any_counted is_moving (λ t. entry_in t b) None sets
    ∙ ap (any_to (λ x. is_moving (numbered (λ t. entry_in t b) None sets x))) c.requires.sets
