use Rattle.vs_survey.proofs.Resting.{no_transfer, kept_none}
use Rattle.vs_survey.proofs.settling.has_no_transfer.Goals as goal

pub returns-in-Some : goal.returns-in-Some
returns-in-Some c =
    let s = c.args.state.now in
    let t = c.in-Some.tables.now in
    (λ e. no_transfer s c.args.set t c.in-Some.ensures (c.is_empty.ensures.0 e), λ none. c.is_empty.ensures.1 (kept_none s c.args.set t c.in-Some.ensures none))
