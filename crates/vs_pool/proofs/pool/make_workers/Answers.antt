use Rattle.std.proofs.Common.{rules, ◌≡◌, ◌<◌, ◌-◌, ap, arith, vec_len}
use Rattle.crossbeam_queue.specs.Passes.{view}
use Rattle.vs_pool.specs.declared.queue.Hand.{Hand}
use Rattle.vs_pool.proofs.Rules.{forks}
use Rattle.vs_pool.proofs.pool.make_workers.Goals as goal

pub another-theirs-requires-clause-rule : goal.another-theirs-requires-clause-rule
another-theirs-requires-clause-rule c =
    let e : (view c.loop-pass.ticket).parts ≡ (view c.args.ticket.now).parts - vec_len c.loop-pass.workers = ap (λ (v : Hand). v.parts) c.loop-pass.invariant.ticket.1 in
    let most = c.requires.ticket.1 in
    let count = c.loop-pass.invariant.count in
    let some : 0 < vec_len c.loop-pass.passes = search rules in
    forks c.loop-pass.ticket.id (view c.loop-pass.ticket) (omega arith)
