-- What is left of a round.
use Rattle.std.proofs.Common.{◌≡◌, ℕ, ◌+◌, Bool, true, false, List, [], ◌∷◌, refl, ap, ◌∙◌, arith}
use Rattle.std.specs.Prelude.{◌&&◌, ◌||◌, nat_lt, if◌then◌else◌}
use Rattle.std.specs.List.{list_any}
use Rattle.std.proofs.lemmas.Bool.Decides.{nat_tests}
use Rattle.std.proofs.lemmas.List.Sums.{sum_by-cons}
use Rattle.vs_balance.specs.declared.route.Route.{Route}
use Rattle.vs_machine.specs.Kinds.Rebalancing.{left_on, is_route}

step : (t : Bool) (n rest : ℕ) → nat_lt 0 ((if t then n else 0) + rest) ≡ ((t && nat_lt 0 n) || nat_lt 0 rest)
step true n rest = grind (arith, nat_tests)
step false n rest = ap (nat_lt 0) (omega arith)

-- something is left where it is on some route
pub some_left : (routes : List Route) (x d : ℕ) → nat_lt 0 (left_on routes x d) ≡ list_any (λ r. is_route x d r && nat_lt 0 r.number) routes
some_left [] x d = refl
some_left (r ∷ rs) x d =
    ap (nat_lt 0) (sum_by-cons (λ r. if is_route x d r then r.number else 0) r rs)
    ∙ step (is_route x d r) r.number (left_on rs x d)
    ∙ ap (λ t. (is_route x d r && nat_lt 0 r.number) || t) (some_left rs x d)
