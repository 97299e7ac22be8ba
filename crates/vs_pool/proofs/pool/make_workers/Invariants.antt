use Rattle.std.proofs.Common.{◌≡◌, ◌+◌, ◌-◌, [], All, vec_len}
use Rattle.crossbeam_queue.specs.Passes.{view, IsPassOf}
use Rattle.vs_pool.specs.Rule.{hand}
use Rattle.vs_pool.specs.Results.{IsFree}
use Rattle.vs_pool.proofs.pool.make_workers.Given as goal

abbrev pub invariant-loop-pass : goal.invariant-loop-pass
invariant-loop-pass l = record {
  ticket : IsPassOf l.fn.queue l.ticket × (view l.ticket ≡ hand ((view l.fn.ticket).parts - vec_len l.workers) (view l.fn.ticket).limit (view l.fn.ticket).put (view l.fn.ticket).taken);
  count : vec_len l.passes + vec_len l.workers ≡ vec_len l.fn.passes;
  passes : All (IsFree l.fn.words) l.passes.items;
  all : All (λ w. IsPassOf l.fn.queue w.ticket × (view w.ticket ≡ hand 1 (view l.fn.ticket).limit [] []) × IsFree l.fn.words w.pass) l.workers.items;
}

abbrev pub decreases-loop-pass : goal.decreases-loop-pass
decreases-loop-pass l = vec_len l.passes
