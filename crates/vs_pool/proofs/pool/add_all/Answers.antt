use Rattle.std.proofs.Common.{Some, sym, subst, length-append, ◌≡◌, ◌∷◌, [], List, All, Contains, IfOk, length, map, ap, ◌∙◌, arith}
use Rattle.std.proofs.lemmas.List.Elements.{All-pop, All-push}
use Rattle.crossbeam_queue.specs.Passes.{view, IsPassOf}
use Rattle.vs_words.specs.Standing.{Standing}
use Rattle.vs_pool.specs.declared.worker.Worked.{Worked}
use Rattle.vs_pool.specs.Rule.{hand}
use Rattle.vs_pool.specs.Results.{IsDone, IsFree, place_of}
use Rattle.vs_pool.proofs.Works.{done_gather}
use Rattle.vs_pool.proofs.pool.add_all.Goals as goal

pub loop-worked-preserved : goal.loop-worked-preserved
loop-worked-preserved c =
    let w = c.in-Some.worked in
    let P : Worked → Type 0 = λ v. IsPassOf c.args.queue.now v.ticket × IsFree c.args.words.now v.pass
    × IfOk v.done (λ done. (view v.ticket ≡ hand 1 (length c.args.jobs.now) [] (map place_of done.items)) × All (IsDone c.args.maps.now c.args.jobs.now (Contains v.pass.seen)) done.items) in
    let popped = All-pop P c.loop-worked.all.items c.pop.new.self.items (Some w) c.in-Some.ensures.items c.loop-worked.invariant.left in
    let one = c.in_ok-add_one.ensures in
    record {
      left = popped.0;
      ticket = (c.add_one.ensures.ticket, omega (arith, one.parts), omega (arith, one.parts, c.in-Some.ensures.cases));
      put = (one.put.0 ∙ c.loop-worked.invariant.put.0, one.put.1 ∙ c.loop-worked.invariant.put.1);
      taken = one.taken;
      passes = (let n = ap length one.passes in let m = c.in-Some.ensures.cases in omega (arith, length-append c.loop-worked.passes.items (w.pass ∷ []), c.loop-worked.invariant.passes.0, c.in-Some.ensures.cases), subst (λ (ps : List Standing). All (IsFree c.args.words.now) ps) (sym one.passes) (All-push (IsFree c.args.words.now) c.loop-worked.passes.items w.pass c.loop-worked.invariant.passes.1 popped.1.1));
      whole = done_gather (λ v. v.items) (λ done. view w.ticket ≡ hand 1 (length c.args.jobs.now) [] (map place_of done.items)) c.args.maps.now c.args.jobs.now
          c.loop-worked.passes.items c.add_one.new.passes.items w.pass c.loop-worked.whole.items c.add_one.new.whole.items w.done one.passes one.whole c.loop-worked.invariant.whole popped.1.2;
    }
