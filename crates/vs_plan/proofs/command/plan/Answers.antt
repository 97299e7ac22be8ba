use Rattle.vs_plan.specs.Names.{files}
use Rattle.vs_plan.proofs.Ending.{ends, good_told, status_told}
use Rattle.vs_plan.proofs.command.plan.Goals as goal

pub returns-in-Err-clause-status : goal.returns-in-Err-clause-status
returns-in-Err-clause-status g c = status_told c.in-Err.fault c.log_fault.result _ _ c.log_fault.ensures

pub returns-in-Err-clause-ends : goal.returns-in-Err-clause-ends
returns-in-Err-clause-ends g c =
    let before = c.in-Err.ensures in
    ends c.in-Err.fault c.log_fault.result (files c.args.config.now c.args.counts.now) (g.H.Host.told c.args.host.now) _ _ before.log before.host before.err c.log_fault.ensures

pub returns-in-Err-clause-good : goal.returns-in-Err-clause-good
returns-in-Err-clause-good g c = λ good none.
    let before = c.in-Err.ensures in
    good_told c.in-Err.fault c.log_fault.result (files c.args.config.now c.args.counts.now) (g.H.Host.told c.args.host.now) _ _ none before.err (before.good good) c.log_fault.ensures
