use Rattle.std.proofs.Common.{Ok, sym, ap, ◌∙◌}
use Rattle.vs_machine.specs.Kinds.Collection as collection
use Rattle.vs_machine.proofs.Can.Others.{can_condemn}
use Rattle.vs_state.specs.Plain.{plain}
use Rattle.vs_core.proofs.Sender.{goes_on}
use Rattle.vs_core.proofs.kinds.condemn.condemn.Goals as goal

pub returns-clause-step : goal.returns-clause-step
returns-clause-step c =
    let s = plain c.args.state.now in
    let next = goes_on (collection.condemn s c.args.set c.args.bucket) c.requires.possible in
    next.1 ∙ ap Ok (sym (c.condemn.ensures.condemned ∙ (can_condemn s next.0 c.args.set c.args.bucket next.1).gives))
