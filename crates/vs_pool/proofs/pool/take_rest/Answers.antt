use Rattle.std.proofs.Common.{◌≡◌, ℕ, ◌∷◌, [], ◌++◌, List, Contains, ap, sym, ◌∙◌, arith, rules}
use Rattle.crossbeam_queue.specs.Passes.{view}
use Rattle.vs_pool.specs.declared.queue.Hand.{Hand}
use Rattle.vs_pool.specs.declared.job.JobResult.{JobResult}
use Rattle.vs_pool.specs.Results.{AmongSeen}
use Rattle.vs_pool.proofs.Rules.{takes, learns}
use Rattle.vs_pool.proofs.Works.{done_push, places_push, among_more, is_done_more, among_one}
use Rattle.vs_pool.proofs.pool.take_rest.Goals.{in-None, in-Some+in_ok-try_reserve+in_default}
use Rattle.vs_pool.proofs.pool.take_rest.Goals as goal

pub pop_as-requires-clause-rule : goal.pop_as-requires-clause-rule
pop_as-requires-clause-rule g c =
    let e = c.loop.invariant.ticket.1 in
    (takes c.loop.ticket.id (view c.loop.ticket) (omega arith), learns c.loop.ticket.id (view c.loop.ticket) e)

pub loop-preserved : goal.loop-preserved
loop-preserved g c =
    let d : ℕ × JobResult = (c.in-Some-pop_as.place, c.in_ok-result.result) in
    let more : c.push_reserved.new.self.items ≡ c.loop.whole.items ++ d ∷ [] =
    c.push_reserved.ensures.items ∙ ap (λ (xs : List (ℕ × JobResult)). xs ++ d ∷ []) c.try_reserve.ensures.items in
    let then = c.in-Some-pop_as.ensures.rule.0 in
    record {
      ready = (tt, tt);
      ticket = (
        search rules,
        ap (λ (v : Hand). v.parts) then ∙ c.loop.invariant.ticket.1,
        ap (λ (v : Hand). v.limit) then ∙ c.loop.invariant.ticket.2,
        ap (λ (v : Hand). v.taken) then ∙ ap (λ (ps : List ℕ). ps ++ c.in-Some-pop_as.place ∷ []) c.loop.invariant.ticket.3 ∙ sym (places_push c.loop.whole.items c.push_reserved.new.self.items d more),
      );
      put = ap (λ (v : Hand). v.put) then ∙ c.loop.invariant.put;
      pass = c.serve_one.ensures.pass;
      done = done_push c.args.maps.now c.args.jobs.now (AmongSeen c.args.others.now c.loop.pass) (AmongSeen c.args.others.now c.serve_one.new.pass)
          (among_more c.args.others.now c.loop.pass c.serve_one.new.pass c.serve_one.ensures.more) c.loop.whole.items c.push_reserved.new.self.items d more c.loop.invariant.done
          (is_done_more c.args.maps.now c.args.jobs.now (Contains c.serve_one.new.pass.seen) (AmongSeen c.args.others.now c.serve_one.new.pass) (among_one c.args.others.now c.serve_one.new.pass) d c.in_ok-result.ensures.done);
    }

pub returns-clause-done : goal.returns-clause-done
returns-clause-done g c = elim c.match-next.branch [
  | in-None w ↦ rw w.whole-is c.loop.invariant.done
  | in-Some+in_ok-try_reserve+in_default w ↦ rw (w.whole-is, w.try_reserve.ensures.items) c.loop.invariant.done
]
