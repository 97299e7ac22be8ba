use Rattle.std.proofs.Common.{◌≡◌, All, length, map}
use Rattle.crossbeam_queue.specs.Passes.{view, IsPassOf}
use Rattle.vs_pool.specs.Results.{IsDone, IsFree, AmongSeen, place_of}
use Rattle.vs_pool.proofs.pool.take_rest.Given as goal

abbrev pub invariant-loop : goal.invariant-loop
invariant-loop g l = record {
  ready : (goal.iterator-loop g).can_next l.iterator' × (goal.iterator-loop g).is_finite l.iterator';
  ticket : IsPassOf l.fn.queue l.ticket × ((view l.ticket).parts ≡ 64) × ((view l.ticket).limit ≡ length l.jobs) × ((view l.ticket).taken ≡ map place_of l.whole.items);
  put : (view l.ticket).put ≡ (view l.fn.ticket).put;
  pass : IsFree l.words l.pass;
  done : All (IsDone l.maps l.jobs (AmongSeen l.fn.others l.pass)) l.whole.items;
}
