-- The text of a plan.
use Rattle.std.specs.Prelude.{ℕ, ◌≡◌, ◌+◌, if◌then◌else◌, List, [], ◌∷◌, ◌++◌, length, codes, Option, Some, None}
use Rattle.std.specs.Fmt.{decimal}
use Rattle.std.specs.List.{flat_map}
use Rattle.vs_balance.specs.declared.route.Route.{Route}
use Rattle.vs_config.specs.Configuration.{Configuration}
use Rattle.vs_waves.specs.declared.forcing_set.Forced.{Forced}
use Rattle.vs_plan.specs.declared.counts.SetCount.{SetCount}
use Rattle.vs_plan.specs.Planning.{ideals_for, routes_for, IsLeastPlan, IsForcedIn}

abbrev pub number : ℕ → List ℕ
number n = codes " " ++ decimal n

abbrev pub ideal_line : List ℕ → List ℕ
ideal_line ideals = codes "ideal" ++ flat_map number ideals ++ codes "\n"

abbrev pub waves_line : ℕ → List ℕ
waves_line waves = codes "waves" ++ number waves ++ codes "\n"

abbrev pub move_text : Route → List ℕ
move_text m = number m.giver ++ number m.taker ++ number m.number

-- the wave of this number
abbrev pub wave_line : ℕ → List Route → List ℕ
wave_line k wave = codes "wave" ++ number k ++ flat_map move_text wave ++ codes "\n"

-- the waves, the first being of this number
abbrev pub wave_lines : ℕ → List (List Route) → List ℕ
wave_lines k [] = []
wave_lines k (wave ∷ waves) = wave_line k wave ++ wave_lines (k + 1) waves

abbrev pub forced_line : Option Forced → List ℕ
forced_line None = []
forced_line (Some f) =
    codes "forced" ++ number f.set ++ (if f.gives then codes " gives" else codes " takes")
    ++ number f.load ++ codes " limit" ++ number f.limit ++ codes "\n"

abbrev pub plan_text : List ℕ → List (List Route) → Option Forced → List ℕ
plan_text ideals plan forced =
    ideal_line ideals ++ waves_line (length plan) ++ wave_lines 1 plan ++ forced_line forced
    ++ codes "end\n"

-- The text is that of the ideals, of a right plan of as few waves as can be, and of the set that
-- forces their number.
pub record IsPlanText (config : Configuration) (counts : List SetCount) (text : List ℕ)
    : Type 0 where
  pub plan : List (List Route)
  pub forced : Option Forced
  pub least : IsLeastPlan config (routes_for config counts) plan
  pub forces : IsForcedIn config (routes_for config counts) (length plan) forced
  pub text_is : text ≡ plan_text (ideals_for config counts) plan forced
