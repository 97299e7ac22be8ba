use Rattle.std.proofs.Common.{◌∙◌}
use Rattle.vs_state.specs.Plain.{plain}
use Rattle.vs_info.proofs.Counted.{entries_counted}
use Rattle.vs_info.proofs.summary.entries.Goals as goal

pub returns : goal.returns
returns c = c.count.ensures.number ∙ entries_counted (plain c.args.state.now) c.args.set c.args.kind
