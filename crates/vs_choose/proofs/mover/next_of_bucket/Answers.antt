use Rattle.std.proofs.Common.{◌≡◌, Some, subst}
use Rattle.vs_state.specs.declared.state.State as tables
use Rattle.vs_state.specs.Plain.{plain}
use Rattle.vs_core.specs.Core.{means}
use Rattle.vs_choose.proofs.Movers.{bucket_none}
use Rattle.vs_choose.proofs.mover.next_of_bucket.Goals as goal

pub returns-clause-none : goal.returns-clause-none
returns-clause-none c =
    let t = c.in_ok-transfer.transfer.now in
    let there = subst (λ (st : tables.State). Some t ≡ ((plain st).bucket c.args.bucket).transfer c.args.set) c.state.ensures.value c.in_ok-transfer.ensures in
    bucket_none (means c.args.core.now) c.args.set c.args.bucket t c.in_ok-event.event c.is_possible.result c.if_possible.result
    c.is_possible.ensures c.if-is_possible.false there c.in_ok-event.ensures c.if_possible.ensures
