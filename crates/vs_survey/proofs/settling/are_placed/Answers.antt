use Rattle.vs_state.specs.Plain.{plain}
use Rattle.vs_survey.proofs.Resting.{placed, at_rest}
use Rattle.vs_survey.proofs.settling.are_placed.Goals as goal

pub returns : goal.returns
returns c =
    let s = plain c.args.state.now in
    let whole = c.requires.whole in
    (λ e. placed whole.0 s whole.1 (c.are_at_rest.ensures.0 e), λ all. c.are_at_rest.ensures.1 (at_rest whole.0 s whole.1 all))
