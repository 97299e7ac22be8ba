use Rattle.std.proofs.Common.{sym, ap, ◌∙◌}
use Rattle.std.specs.Option.{option_copied}
use Rattle.vs_state.specs.Plain.{plain}
use Rattle.vs_core.proofs.Sender.{linked, last_set}
use Rattle.vs_core.proofs.kinds.last.reserve_last.Goals as goal

pub reserve_post-requires-clause-link : goal.reserve_post-requires-clause-link
reserve_post-requires-clause-link c =
    let s = plain c.args.state.now in
    linked s c.requires.known c.args.set c.args.bucket c.in-Some.transfer.now (sym c.transfer.ensures ∙ ap option_copied c.in-Some.is) (last_set s c.args.set c.args.bucket c.requires.possible)
