-- The routes of a rebalancing can be planned.
use Rattle.std.proofs.Common.{ℕ, ◌-◌, ◌<◌, ◌≤◌, Bool, true, false, cond, List, [], ◌∷◌, length, sum, arith}
use Rattle.std.specs.List.{sum_by}
use Rattle.std.proofs.lemmas.List.Sums.{sum_by-cons}
use Rattle.vs_balance.specs.declared.view.SetView.{SetView}
use Rattle.vs_balance.specs.declared.route.Route.{Route}
use Rattle.vs_balance.specs.Routes.{excess_of, excesses}
use Rattle.vs_balance.specs.Moves.{AreRoutes}
use Rattle.vs_waves.specs.Plan.{CanPlan}

excess-within : (locked : Bool) (count ideal : ℕ) → cond locked 0 (count - ideal) ≤ count
excess-within true count ideal = omega arith
excess-within false count ideal = omega arith

excesses-within : (views : List SetView) (ideals : List ℕ) → sum (excesses views ideals) ≤ sum_by (λ (view : SetView). view.count) views
excesses-within [] ideals = omega arith
excesses-within (view ∷ views) [] = omega arith
excesses-within (view ∷ views) (ideal ∷ ideals) =
    omega (
      arith,
      sum_by-cons (λ (n : ℕ). n) (excess_of view ideal) (excesses views ideals),
      sum_by-cons (λ (view : SetView). view.count) view views,
      excess-within view.locked view.count ideal,
      excesses-within views ideals,
    )

pub CanPlan-routes : (views : List SetView) (ideals : List ℕ) (limit max_sending max_receiving : ℕ) (routes : List Route) → AreRoutes views ideals limit routes
    → 0 < max_sending → 0 < max_receiving → 1 ≤ length views → length views ≤ 32 → sum_by (λ (view : SetView). view.count) views ≤ 30000
    → CanPlan (length views) max_sending max_receiving routes
CanPlan-routes views ideals limit max_sending max_receiving routes are sending receiving some few counts = record {
  sending = sending;
  receiving = receiving;
  some_sets = (some, few);
  named = are.between_sets;
  listed = (are.positive, are.ordered);
  one_way = are.one_way;
  few = omega (arith, are.most, excesses-within views ideals, counts);
}
