use Rattle.std.proofs.Common.{◌≡◌, ℕ, arith, refl, sym, subst, true, List, take}
use Rattle.std.specs.List.{All}
use Rattle.std.proofs.lemmas.List.{take_all}
use Rattle.std.proofs.lemmas.List.Elements.{All-more, All-same}
use Rattle.std.proofs.lemmas.Bool.{false≢true, iff_false}
use Rattle.vs_base.specs.Listed.{Listed}
use Rattle.vs_balance.specs.declared.route.Route.{Route}
use Rattle.vs_waves.specs.Plan.{between_in_all, has_route, IsListed, IsWave, IsRightPlan, plan_of}
use Rattle.vs_waves.proofs.Checks.{plan_at, plan_more, right_from_checks, right_sums, right_along}
use Rattle.vs_waves.proofs.checking.is_right.Goals as goal
use Rattle.vs_waves.proofs.checking.is_right.Goals.{then-not-is_wave-via-then-not-is_wave, then-not-is_wave-via-else-not-is_wave+then-not-has_routes}

pub returns-then-not-is_wave : goal.returns-then-not-is_wave
returns-then-not-is_wave c =
    let S = c.args.max_sending in
    let M = c.args.max_receiving in
    let routes = c.as_slice-routes.result.now in
    let waves = c.as_slice-waves.result.now in
    let i = c.loop-wave.wave-index in
    let w = c.wave-item.result in
    let moves = c.as_slice-moves.result.now in
    let along : List Route → Type 0 = λ w. All (λ m. has_route m.giver m.taker routes ≡ true) w in
    let listed : IsListed routes = subst IsListed (sym c.as_slice-routes.ensures) c.requires in (
      λ yes. absurd (false≢true yes),
      λ given_right.
          let right : IsRightPlan S M routes (plan_of waves) =
          subst (λ (ws : List (Listed Route)). IsRightPlan S M routes (plan_of ws)) (sym c.as_slice-waves.ensures)
          (subst (λ (rs : List Route). IsRightPlan S M rs (plan_of c.args.waves.now.items)) (sym c.as_slice-routes.ensures) given_right)
          in
          elim c.then-not-is_wave.branch [
            | then-not-is_wave-via-then-not-is_wave v ↦
                absurd (iff_false c.is_wave.ensures v.if-not-is_wave.true (plan_at (IsWave S M) waves i w moves (omega arith) c.wave-item.is c.as_slice-moves.ensures right.waves))
            | then-not-is_wave-via-else-not-is_wave+then-not-has_routes v ↦
                absurd (iff_false v.has_routes.ensures v.if-not-has_routes.true (plan_at along waves i w moves (omega arith) c.wave-item.is c.as_slice-moves.ensures (λ k e inside. right_along S M routes (plan_of waves) listed right k e inside)))
          ],
    )

pub loop-wave-preserved : goal.loop-wave-preserved
loop-wave-preserved c =
    let routes = c.as_slice-routes.result.now in
    let waves = c.as_slice-waves.result.now in
    let i = c.loop-wave.wave-index in
    let w = c.wave-item.result in
    let moves = c.as_slice-moves.result.now in
    let along : List Route → Type 0 = λ w. All (λ m. has_route m.giver m.taker routes ≡ true) w in
    record {
      waves = plan_more (IsWave c.args.max_sending c.args.max_receiving) waves i w moves (omega arith) c.wave-item.is c.as_slice-moves.ensures (c.is_wave.ensures.0 c.if-not-is_wave.false) c.loop-wave.invariant.waves;
      along = plan_more along waves i w moves (omega arith) c.wave-item.is c.as_slice-moves.ensures (c.has_routes.ensures.0 c.if-not-has_routes.false) c.loop-wave.invariant.along;
    }

pub returns-then-not-sums_to : goal.returns-then-not-sums_to
returns-then-not-sums_to c =
    let S = c.args.max_sending in
    let M = c.args.max_receiving in
    let routes = c.as_slice-routes.result.now in
    let waves = c.as_slice-waves.result.now in
    let r = c.route-item.result in
    let listed : IsListed routes = subst IsListed (sym c.as_slice-routes.ensures) c.requires in (
      λ yes. absurd (false≢true yes),
      λ given_right.
          let right : IsRightPlan S M routes (plan_of waves) =
          subst (λ (ws : List (Listed Route)). IsRightPlan S M routes (plan_of ws)) (sym c.as_slice-waves.ensures)
          (subst (λ (rs : List Route). IsRightPlan S M rs (plan_of c.args.waves.now.items)) (sym c.as_slice-routes.ensures) given_right)
          in
          let at = subst (λ (x : Route). between_in_all x.giver x.taker (plan_of waves) ≡ x.number) (sym c.route-item.is) (right_sums S M routes (plan_of waves) listed right c.loop-route.route-index r (omega arith)) in
          let read = subst (λ (t : ℕ). between_in_all c.get.result t (plan_of waves) ≡ r.number) (sym c.get-in-loop-route.ensures.value) (subst (λ (g : ℕ). between_in_all g r.taker (plan_of waves) ≡ r.number) (sym c.get.ensures.value) at) in
          absurd (iff_false c.sums_to.ensures c.if-not-sums_to.true read),
    )

pub loop-route-preserved : goal.loop-route-preserved
loop-route-preserved c =
    let waves = c.as_slice-waves.result.now in
    let r = c.route-item.result in
    let P : Route → Type 0 = λ r. between_in_all r.giver r.taker (plan_of waves) ≡ r.number in
    let read = c.sums_to.ensures.0 c.if-not-sums_to.false in
    let at : P r = subst (λ (t : ℕ). between_in_all r.giver t (plan_of waves) ≡ r.number) c.get-in-loop-route.ensures.value (subst (λ (g : ℕ). between_in_all g c.get-in-loop-route.result (plan_of waves) ≡ r.number) c.get.ensures.value read) in
    All-more P c.as_slice-routes.result.now c.loop-route.route-index r (omega arith) c.loop-route.invariant (subst P c.route-item.is at)

pub returns : goal.returns
returns c =
    let S = c.args.max_sending in
    let M = c.args.max_receiving in
    let routes = c.as_slice-routes.result.now in
    let waves = c.as_slice-waves.result.now in
    let listed : IsListed routes = subst IsListed (sym c.as_slice-routes.ensures) c.requires in
    let P : Route → Type 0 = λ r. between_in_all r.giver r.taker (plan_of waves) ≡ r.number in
    let along : List Route → Type 0 = λ w. All (λ m. has_route m.giver m.taker routes ≡ true) w in
    let all = take_all c.loop-wave.wave-index waves (omega arith) in
    let right = right_from_checks S M routes (plan_of waves) listed
    (subst (λ (ws : List (Listed Route)). All (IsWave S M) (plan_of ws)) all c.loop-wave.invariant.waves)
    (subst (λ (ws : List (Listed Route)). All along (plan_of ws)) all c.loop-wave.invariant.along)
    (All-same P routes (take c.loop-route.route-index routes) (sym (take_all c.loop-route.route-index routes (omega arith))) c.loop-route.invariant)
    in (
      λ _. subst (λ (ws : List (Listed Route)). IsRightPlan S M c.args.routes.now.items (plan_of ws)) c.as_slice-waves.ensures
          (subst (λ (rs : List Route). IsRightPlan S M rs (plan_of waves)) c.as_slice-routes.ensures right),
      λ _. refl,
    )
