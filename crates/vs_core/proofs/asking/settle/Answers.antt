use Rattle.std.proofs.Common.{sym, ap, ◌∙◌}
use Rattle.vs_machine.specs.State as machine
use Rattle.vs_machine.specs.Kinds.Connections.{decided}
use Rattle.vs_state.specs.Plain.{plain}
use Rattle.vs_core.proofs.asking.settle.Goals as goal

pub returns-in-Stay-clause-settled : goal.returns-in-Stay-clause-settled
returns-in-Stay-clause-settled c =
    let s = plain c.args.state.now in
    c.end_ask.ensures.ended ∙ ap (λ d. machine.put_bucket s c.args.bucket (decided (s.bucket c.args.bucket) c.args.set d)) (sym c.in-Stay.is)

pub returns-in-ToActive-clause-settled : goal.returns-in-ToActive-clause-settled
returns-in-ToActive-clause-settled c =
    let s = plain c.args.state.now in
    c.settle_active.ensures.active ∙ ap (λ d. machine.put_bucket s c.args.bucket (decided (s.bucket c.args.bucket) c.args.set d)) (sym c.in-ToActive.is)

pub returns-in-ToGarbage-clause-settled : goal.returns-in-ToGarbage-clause-settled
returns-in-ToGarbage-clause-settled c =
    let s = plain c.args.state.now in
    c.settle_garbage.ensures.garbage ∙ ap (λ d. machine.put_bucket s c.args.bucket (decided (s.bucket c.args.bucket) c.args.set d)) (sym c.in-ToGarbage.is)
