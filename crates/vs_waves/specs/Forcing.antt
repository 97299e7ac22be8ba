-- Which set forces a number of waves.
use Rattle.std.specs.Prelude.{ℕ, Bool, ◌≡◌, ◌+◌, ◌-◌, ◌*◌, ◌<◌, ◌≤◌, nat_lt, if◌then◌else◌, List}
use Rattle.vs_balance.specs.declared.route.Route.{Route}
use Rattle.vs_balance.specs.Moves.{given, taken}
use Rattle.vs_waves.specs.declared.forcing_set.Forced.{Forced}

-- what a set gives or takes in all
abbrev pub load : ℕ → List Route → ℕ
load set routes = given set routes + taken set routes

abbrev pub gives : ℕ → List Route → Bool
gives set routes = nat_lt 0 (given set routes)

-- what it may give or take in one wave
abbrev pub limit_of : ℕ → ℕ → ℕ → List Route → ℕ
limit_of max_sending max_receiving set routes =
    if gives set routes then max_sending else max_receiving

-- a set whose load doesn't fit into one wave less
abbrev pub Forces : ℕ → ℕ → ℕ → ℕ → List Route → Type 0
Forces waves max_sending max_receiving set routes =
    (0 < waves) × ((waves - 1) * limit_of max_sending max_receiving set routes < load set routes)

-- no set forces this number of waves
abbrev pub FreeBelow : ℕ → ℕ → ℕ → ℕ → List Route → Type 0
FreeBelow waves max_sending max_receiving end routes =
    (set : ℕ) → 1 ≤ set → set < end
    → load set routes ≤ (waves - 1) * limit_of max_sending max_receiving set routes

-- the lowest set that forces this number of waves
pub record IsForced (waves sets max_sending max_receiving : ℕ) (routes : List Route) (f : Forced)
    : Type 0 where
  pub among : f.set ≤ sets
  pub forces : Forces waves max_sending max_receiving f.set routes
  pub lowest : FreeBelow waves max_sending max_receiving f.set routes
  pub side : f.gives ≡ gives f.set routes
  pub load : f.load ≡ load f.set routes
  pub limit : f.limit ≡ limit_of max_sending max_receiving f.set routes

-- some set forces this number of waves
abbrev pub HasForced : ℕ → ℕ → ℕ → ℕ → List Route → Type 0
HasForced waves sets max_sending max_receiving routes =
    (set : ℕ) × (1 ≤ set) × (set ≤ sets) × Forces waves max_sending max_receiving set routes

-- as many waves as the loads of the sets below `end` need
pub record AreLeastWaves (waves end max_sending max_receiving : ℕ) (routes : List Route)
    : Type 0 where
  pub enough : (set : ℕ) → 1 ≤ set → set < end
      → load set routes ≤ waves * limit_of max_sending max_receiving set routes
  pub forced : 0 < waves → (set : ℕ) × (1 ≤ set) × (set < end)
      × Forces waves max_sending max_receiving set routes
