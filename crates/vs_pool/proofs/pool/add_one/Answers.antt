use Rattle.crossbeam_queue.specs.Passes.{view}
use Rattle.vs_pool.proofs.Rules.{merges}
use Rattle.vs_pool.proofs.pool.add_one.Goals as goal

pub absorb-requires-clause-rule : goal.absorb-requires-clause-rule
absorb-requires-clause-rule c = merges c.args.ticket.now.id (view c.args.ticket.now) c.args.worked.ticket.id (view c.args.worked.ticket) c.requires.ticket.1
