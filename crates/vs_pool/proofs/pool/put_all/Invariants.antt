use Rattle.std.proofs.Common.{◌≡◌, ◌≤◌, []}
use Rattle.crossbeam_queue.specs.Passes.{view, IsPassOf}
use Rattle.vs_pool.specs.Rule.{hand}
use Rattle.vs_pool.specs.Results.{places}
use Rattle.vs_pool.proofs.pool.put_all.Given as goal

abbrev pub invariant-loop : goal.invariant-loop
invariant-loop g l =
    (goal.iterator-loop g).can_next l.iterator' × (goal.iterator-loop g).is_finite l.iterator' × IsPassOf l.fn.queue l.ticket × (view l.ticket ≡ hand 64 l.next (places l.next) []) × (l.next ≤ l.jobs)
