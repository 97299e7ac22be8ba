use Rattle.std.proofs.Common.{◌≡◌, ap}
use Rattle.crossbeam_queue.specs.Passes.{view}
use Rattle.vs_pool.specs.declared.queue.Hand.{Hand}
use Rattle.vs_pool.proofs.Rules.{puts}
use Rattle.vs_pool.proofs.pool.put_all.Goals as goal

pub try_push_as-requires-clause-rule : goal.try_push_as-requires-clause-rule
try_push_as-requires-clause-rule g c =
    let e : (view c.loop.ticket).parts ≡ 64 = ap (λ (v : Hand). v.parts) c.loop.invariant.3 in
    puts _ c.loop.ticket.id (view c.loop.ticket) _ e
