use Rattle.std.proofs.Common.{◌≡◌, ℕ, ◌∷◌, [], ◌++◌, List, Contains, length, map, ap, sym, ◌∙◌, arith, rules}
use Rattle.crossbeam_queue.specs.Passes.{view}
use Rattle.vs_pool.specs.declared.queue.Hand.{Hand}
use Rattle.vs_pool.specs.declared.job.JobResult.{JobResult}
use Rattle.vs_pool.specs.Rule.{hand}
use Rattle.vs_pool.specs.Results.{place_of}
use Rattle.vs_pool.proofs.Rules.{takes}
use Rattle.vs_pool.proofs.Works.{done_push, places_push}
use Rattle.vs_pool.proofs.worker.work.Goals.{in-None, in-Some+else-is_err+in_default}
use Rattle.vs_pool.proofs.worker.work.Goals as goal

pub pop_as-requires-clause-rule : goal.pop_as-requires-clause-rule
pop_as-requires-clause-rule g c =
    let one : (view c.loop.ticket).parts ≡ 1 = ap (λ (v : Hand). v.parts) c.loop.invariant.ticket.1 in
    (takes c.loop.ticket.id (view c.loop.ticket) (omega arith), λ items views b at. tt)

pub loop-preserved : goal.loop-preserved
loop-preserved g c =
    let d : ℕ × JobResult = (c.in-Some-pop_as.place, c.in-Ok.result) in
    let more : c.push_reserved.new.self.items ≡ c.loop.done.items ++ d ∷ [] =
    c.push_reserved.ensures.items ∙ ap (λ (xs : List (ℕ × JobResult)). xs ++ d ∷ []) c.try_reserve.ensures.items in
    let then : view c.pop_as.new.pass ≡ hand 1 (length c.args.jobs.now) [] (map place_of c.loop.done.items ++ c.in-Some-pop_as.place ∷ []) =
    c.in-Some-pop_as.ensures.rule.0 ∙ ap (λ (u : Hand). hand u.parts u.limit u.put (u.taken ++ c.in-Some-pop_as.place ∷ [])) c.loop.invariant.ticket.1 in
    record {
      ready = (tt, tt);
      ticket = (search rules, then ∙ ap (λ (ps : List ℕ). hand 1 (length c.args.jobs.now) [] ps) (sym (places_push c.loop.done.items c.push_reserved.new.self.items d more)));
      pass = c.serve_one.ensures.pass;
      done = done_push c.args.maps.now c.args.jobs.now (Contains c.loop.pass.seen) (Contains c.serve_one.new.pass.seen) c.serve_one.ensures.more c.loop.done.items c.push_reserved.new.self.items d more c.loop.invariant.done c.in-Ok.ensures.done;
    }

pub returns-clause-done : goal.returns-clause-done
returns-clause-done g c = elim c.match-next.branch [
  | in-None w ↦ rw w.done-is c.loop.invariant.done
  | in-Some+else-is_err+in_default w ↦ rw (w.done-is, w.try_reserve.ensures.items) c.loop.invariant.done
]
