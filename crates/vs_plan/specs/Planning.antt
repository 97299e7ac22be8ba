-- What is planned for the sets of a configuration that have these counts.
use Rattle.std.specs.Prelude.{ℕ, ◌≡◌, ◌≤◌, List, map, length, Option, MatchOption}
use Rattle.std.specs.List.{zip}
use Rattle.vs_balance.specs.declared.route.Route.{Route}
use Rattle.vs_balance.specs.declared.view.SetView.{SetView}
use Rattle.vs_balance.specs.Ideal.{ideal_of}
use Rattle.vs_balance.specs.Routes.{routes_of}
use Rattle.vs_config.specs.Configuration.{Configuration}
use Rattle.vs_config.specs.declared.config.SetConfig.{SetConfig}
use Rattle.vs_waves.specs.declared.forcing_set.Forced.{Forced}
use Rattle.vs_waves.specs.Forcing.{IsForced}
use Rattle.vs_waves.specs.Plan.{IsRightPlan}
use Rattle.vs_plan.specs.declared.counts.SetCount.{SetCount}
use Rattle.vs_plan.specs.Reading.{most_buckets}

abbrev pub view_of : SetConfig → SetCount → SetView
view_of set c =
    record { count = c.count; pinned = c.pinned; weight = set.weight; locked = set.lock }

abbrev pub views_of : List SetConfig → List SetCount → List SetView
views_of sets counts = map (λ (set, count). view_of set count) (zip sets counts)

abbrev pub ideals_for : Configuration → List SetCount → List ℕ
ideals_for config counts = ideal_of (views_of config.sets counts)

-- each set may take as many buckets as a cluster can have
abbrev pub routes_for : Configuration → List SetCount → List Route
routes_for config counts =
    routes_of (views_of config.sets counts) (ideals_for config counts) most_buckets

-- a right plan of which no right plan has fewer waves
pub record IsLeastPlan (config : Configuration) (routes : List Route) (plan : List (List Route))
    : Type 0 where
  pub right : IsRightPlan config.max_sending config.max_receiving routes plan
  pub least : (other : List (List Route))
      → IsRightPlan config.max_sending config.max_receiving routes other
      → length plan ≤ length other

-- the lowest set that forces so many waves, and none where there are none
abbrev pub IsForcedIn : Configuration → List Route → ℕ → Option Forced → Type 0
IsForcedIn config routes waves forced =
    MatchOption forced (waves ≡ 0)
    (IsForced waves (length config.sets) config.max_sending config.max_receiving routes)
