use Rattle.std.proofs.Common.{◌≡◌, ◌<◌, ◌+◌, [], All, Contains, length, map, IfOk, vec_len}
use Rattle.crossbeam_queue.specs.Passes.{view, IsPassOf}
use Rattle.vs_pool.specs.Rule.{hand}
use Rattle.vs_pool.specs.Results.{IsDone, IsFree, HasSeen, place_of}
use Rattle.vs_pool.proofs.pool.add_all.Given as goal

abbrev pub invariant-loop-worked : goal.invariant-loop-worked
invariant-loop-worked l = record {
  left : All (λ w. IsPassOf l.fn.queue w.ticket × IsFree l.fn.words w.pass
      × IfOk w.done (λ done. (view w.ticket ≡ hand 1 (length l.fn.jobs) [] (map place_of done.items)) × All (IsDone l.fn.maps l.fn.jobs (Contains w.pass.seen)) done.items)) l.all.items;
  ticket : IsPassOf l.fn.queue l.ticket × (0 < (view l.ticket).parts) × ((view l.ticket).parts + vec_len l.all ≡ (view l.fn.ticket).parts + vec_len l.fn.all);
  put : ((view l.ticket).put ≡ (view l.fn.ticket).put) × ((view l.ticket).limit ≡ (view l.fn.ticket).limit);
  taken : (view l.ticket).taken ≡ map place_of l.whole.items;
  passes : (vec_len l.passes + vec_len l.all ≡ vec_len l.fn.all) × All (IsFree l.fn.words) l.passes.items;
  whole : All (IsDone l.fn.maps l.fn.jobs (HasSeen l.passes.items)) l.whole.items;
}

abbrev pub decreases-loop-worked : goal.decreases-loop-worked
decreases-loop-worked l = vec_len l.all
