use Rattle.std.proofs.Common.{◌≡◌, List, [], ◌∷◌, ◌++◌, All, Some, sym, ap, ◌∙◌, subst, arith}
use Rattle.std.proofs.lemmas.List.Elements.{All-pop, All-push}
use Rattle.vs_words.specs.Standing.{Standing}
use Rattle.vs_pool.specs.Results.{IsFree, HasSeen, AmongSeen}
use Rattle.vs_pool.proofs.Works.{all_done_more, among_apart, among_back}
use Rattle.vs_pool.proofs.pool.serve_all.Goals as goal

pub take_rest-requires-clause-done : goal.take_rest-requires-clause-done
take_rest-requires-clause-done g c =
    let others = c.as_slice.result.now in
    let passes = c.in_ok-ticket.field-0.passes.items in
    let pass = c.in-Some.pass in
    let apart : passes ≡ others ++ pass ∷ [] = c.in-Some.ensures.items ∙ ap (λ (ps : List Standing). ps ++ pass ∷ []) (sym c.as_slice.ensures.value) in
    all_done_more c.args.maps.now c.args.jobs.now (HasSeen passes) (AmongSeen others pass) (among_apart others passes pass apart) c.in_ok-ticket.field-0.whole.items c.in_ok-ticket.ensures.whole

pub returns-clause-passes : goal.returns-clause-passes
returns-clause-passes g c =
    let pass = c.take_rest.new.pass in
    let free = All-pop (IsFree c.args.words.now) c.in_ok-ticket.field-0.passes.items c.pop.new.self.items (Some c.in-Some.pass) c.in-Some.ensures.items c.in_ok-ticket.ensures.passes.1 in (
      omega (arith, c.in_ok-push.ensures.len, c.in-Some.ensures.cases, c.in_ok-ticket.ensures.passes.0, c.in_ok-all.ensures.len, c.in_ok-workers.ensures.len),
      subst (λ (ps : List Standing). All (IsFree c.args.words.now) ps) (sym c.in_ok-push.ensures.items) (All-push (IsFree c.args.words.now) c.pop.new.self.items pass free.0 c.in_ok-whole.ensures.pass),
    )

pub returns-clause-done : goal.returns-clause-done
returns-clause-done g c =
    let others = c.as_slice.result.now in
    let passes = c.push.new.self.items in
    let pass = c.take_rest.new.pass in
    let back : passes ≡ others ++ pass ∷ [] = c.in_ok-push.ensures.items ∙ ap (λ (ps : List Standing). ps ++ pass ∷ []) (sym c.as_slice.ensures.value) in
    all_done_more c.args.maps.now c.args.jobs.now (AmongSeen others pass) (HasSeen passes) (among_back others passes pass back) c.in_ok-whole.whole.items c.in_ok-whole.ensures.done
