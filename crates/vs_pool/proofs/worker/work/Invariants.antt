use Rattle.std.proofs.Common.{◌≡◌, [], All, Contains, None, length, map}
use Rattle.crossbeam_queue.specs.Passes.{view, IsPassOf}
use Rattle.vs_pool.specs.Rule.{hand}
use Rattle.vs_pool.specs.Results.{IsDone, place_of}
use Rattle.vs_pool.proofs.worker.work.Given as goal

abbrev pub invariant-loop : goal.invariant-loop
invariant-loop g l = record {
  ready : (goal.iterator-loop g).can_next l.iterator' × (goal.iterator-loop g).is_finite l.iterator';
  ticket : IsPassOf l.fn.queue l.ticket × (view l.ticket ≡ hand 1 (length l.jobs) [] (map place_of l.done.items));
  pass : (l.pass.of ≡ l.words) × (l.pass.held ≡ None);
  done : All (IsDone l.maps l.jobs (Contains l.pass.seen)) l.done.items;
}
