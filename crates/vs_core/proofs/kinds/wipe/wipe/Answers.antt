use Rattle.std.proofs.Common.{Ok, sym, ap, ◌∙◌}
use Rattle.vs_machine.specs.Kinds.Collection as collection
use Rattle.vs_machine.proofs.Can.Others.{can_wipe}
use Rattle.vs_state.specs.Plain.{plain}
use Rattle.vs_core.proofs.Sender.{goes_on}
use Rattle.vs_core.proofs.kinds.wipe.wipe.Goals as goal

pub returns-clause-step : goal.returns-clause-step
returns-clause-step c =
    let s = plain c.args.state.now in
    let next = goes_on (collection.wipe s c.args.set c.args.bucket) c.requires.possible in
    next.1 ∙ ap Ok (sym (c.wipe.ensures.rows ∙ (can_wipe s next.0 c.args.set c.args.bucket next.1).gives))
