use Rattle.vs_core.specs.Core.{means}
use Rattle.vs_choose.proofs.Clients.{post_answer}
use Rattle.vs_choose.proofs.client.next_client.Goals as goal

pub returns-clause-none : goal.returns-clause-none
returns-clause-none c =
    post_answer (means c.args.core.now) c.args.client c.args.to c.in_ok-to.field-0 c.if_possible.result c.in_ok-to.was c.in_default.ensures.none c.if_possible.ensures
