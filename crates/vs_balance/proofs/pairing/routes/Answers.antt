use Rattle.std.proofs.Common.{◌≡◌, ◌+◌, ◌-◌, ◌≤◌, ◌++◌, [], ℕ, List, length, get_or, sym, ap, ◌∙◌, subst, arith}
use Rattle.std.proofs.lemmas.List.{length-map}
use Rattle.std.proofs.lemmas.Slice.Zip.{length-zip}
use Rattle.std.specs.List.{zip}
use Rattle.vs_balance.specs.declared.route.Route.{Route}
use Rattle.vs_balance.specs.Routes.{excesses, lacks, route_of, routes_of}
use Rattle.vs_balance.specs.Moves.{AreRoutes}
use Rattle.vs_balance.proofs.Steps.{giving, taking, past_index, walked, walked-start, walked-giver, walked-taker, walked-no_givers, walked-no_takers}
use Rattle.vs_balance.proofs.Fewest.{AreRoutes-routes_of}
use Rattle.vs_balance.proofs.pairing.routes.Goals as goal
use Rattle.vs_balance.proofs.pairing.routes.Goals.{Left-loop-giver, then-loop-giver-test+else-taker-views, else-loop-giver-test}

pub loop-giver-init : goal.loop-giver-init
unfolding routes_of
loop-giver-init c =
    let views = c.args.views.now in
    let ideals = c.args.ideals.now in
    let limit = c.args.max_receiving in
    let at = λ (items : List Route) (a b : ℕ). walked items (excesses views ideals) (lacks limit views ideals) 0 0 a b in
    record {
      giver_in = omega arith;
      taker_in = omega arith;
      giver_end = λ past. c.excess_at-excess.ensures ∙ past_index giving views ideals 0 past;
      taker_end = λ past. c.lack_at-lack.ensures ∙ past_index (taking limit) views ideals 0 past;
      rest = ap (λ (items : List Route). at items c.excess_at-excess.result c.lack_at-lack.result) c.new-routes.ensures
          ∙ ap (λ (a : ℕ). at [] a c.lack_at-lack.result) c.excess_at-excess.ensures
          ∙ ap (λ (b : ℕ). at [] (get_or (excesses views ideals) 0 0) b) c.lack_at-lack.ensures
          ∙ walked-start (excesses views ideals) (lacks limit views ideals);
    }

pub loop-giver-preserved-then-excess-lack : goal.loop-giver-preserved-then-excess-lack
loop-giver-preserved-then-excess-lack c =
    let views = c.args.views.now in
    let ideals = c.args.ideals.now in
    let gives = excesses views ideals in
    let takes = lacks c.args.max_receiving views ideals in
    let items = c.loop-giver.routes.items in
    let i = c.loop-giver.giver in
    let j = c.loop-giver.taker in
    let b = c.loop-giver.lack in
    let n = c.min-number.result in
    record {
      giver_in = omega arith;
      taker_in = omega arith;
      giver_end = λ past. c.excess_at-excess-then-excess-lack.ensures ∙ past_index giving views ideals (i + 1) past;
      taker_end = λ past. omega arith;
      rest = ap (λ (rs : List Route). walked rs gives takes (i + 1) j c.excess_at-excess-then-excess-lack.result (b - n)) c.in_ok-add_route.ensures
          ∙ ap (λ (a : ℕ). walked (items ++ route_of (i + 1) (j + 1) n) gives takes (i + 1) j a (b - n)) c.excess_at-excess-then-excess-lack.ensures
          ∙ walked-giver items gives takes i j c.loop-giver.excess b n c.if-excess-lack.true (omega arith)
          ∙ c.loop-giver.invariant.rest;
    }

pub loop-giver-preserved : goal.loop-giver-preserved
loop-giver-preserved c =
    let views = c.args.views.now in
    let ideals = c.args.ideals.now in
    let limit = c.args.max_receiving in
    let gives = excesses views ideals in
    let takes = lacks limit views ideals in
    let items = c.loop-giver.routes.items in
    let i = c.loop-giver.giver in
    let j = c.loop-giver.taker in
    let a = c.loop-giver.excess in
    let n = c.min-number.result in
    record {
      giver_in = omega arith;
      taker_in = omega arith;
      giver_end = λ past. omega arith;
      taker_end = λ past. c.lack_at-lack-else-excess-lack.ensures ∙ past_index (taking limit) views ideals (j + 1) past;
      rest = ap (λ (rs : List Route). walked rs gives takes i (j + 1) (a - n) c.lack_at-lack-else-excess-lack.result) c.in_ok-add_route.ensures
          ∙ ap (λ (b : ℕ). walked (items ++ route_of (i + 1) (j + 1) n) gives takes i (j + 1) (a - n) b) c.lack_at-lack-else-excess-lack.ensures
          ∙ walked-taker items gives takes i j a c.loop-giver.lack n (omega arith) (omega arith)
          ∙ c.loop-giver.invariant.rest;
    }

-- at the end of either line all routes are found
found : (c : Left-loop-giver) → c.loop-giver.routes.items ≡ routes_of c.args.views.now c.args.ideals.now c.args.max_receiving
found c =
    let views = c.args.views.now in
    let ideals = c.args.ideals.now in
    let gives = excesses views ideals in
    let takes = lacks c.args.max_receiving views ideals in
    let items = c.loop-giver.routes.items in
    let i = c.loop-giver.giver in
    let j = c.loop-giver.taker in
    let a = c.loop-giver.excess in
    let b = c.loop-giver.lack in
    let long_gives : length gives ≤ length views = omega (arith, length-map (zip views ideals) giving, length-zip views ideals) in
    let long_takes : length takes ≤ length views = omega (arith, length-map (zip views ideals) (taking c.args.max_receiving), length-zip views ideals) in
    elim c.loop-giver-test.branch [
      | then-loop-giver-test+else-taker-views w ↦
          let none : b ≡ 0 = c.loop-giver.invariant.taker_end w.if-taker-views.false in
          let past : length takes ≤ j = omega (arith, long_takes, w.if-taker-views.false) in
          sym (ap (λ (b : ℕ). walked items gives takes i j a b) none ∙ walked-no_takers items gives takes i j a past) ∙ c.loop-giver.invariant.rest
      | else-loop-giver-test w ↦
          let none : a ≡ 0 = c.loop-giver.invariant.giver_end w.loop-giver-test.false in
          let past : length gives ≤ i = omega (arith, long_gives, w.loop-giver-test.false) in
          sym (ap (λ (a : ℕ). walked items gives takes i j a b) none ∙ walked-no_givers items gives takes i j b past) ∙ c.loop-giver.invariant.rest
    ]

pub returns-clause-value : goal.returns-clause-value
returns-clause-value c = found c

pub returns-clause-right : goal.returns-clause-right
returns-clause-right c =
    let views = c.args.views.now in
    let ideals = c.args.ideals.now in
    let limit = c.args.max_receiving in
    subst (AreRoutes views ideals limit) (sym (found c)) (AreRoutes-routes_of views ideals limit c.requires.same)
