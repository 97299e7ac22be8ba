-- Plans of moves in waves.
use Rattle.std.specs.Prelude.{ℕ, Bool, ◌≡◌, ◌≢◌, ◌<◌, ◌≤◌, ◌&&◌, ◌==◌, if◌then◌else◌, List, map}
use Rattle.std.specs.List.{sum_by, list_any, All, AllPairs}
use Rattle.vs_base.specs.Listed.{Listed}
use Rattle.vs_balance.specs.declared.route.Route.{Route}
use Rattle.vs_balance.specs.Moves.{moved, given, taken, IsBefore}

-- the moves of each wave
abbrev pub plan_of : List (Listed Route) → List (List Route)
plan_of waves = map (λ wave. wave.items) waves

-- what these moves move from one set to another
abbrev pub between : ℕ → ℕ → List Route → ℕ
between giver taker moves =
    sum_by (λ m. if m.giver == giver && m.taker == taker then m.number else 0) moves

-- and what all waves of a plan move
abbrev pub between_in_all : ℕ → ℕ → List (List Route) → ℕ
between_in_all giver taker plan = sum_by (λ wave. between giver taker wave) plan

-- whether there is a route between two sets
abbrev pub has_route : ℕ → ℕ → List Route → Bool
has_route giver taker routes = list_any (λ r. r.giver == giver && r.taker == taker) routes

-- in order of giver and then of taker, with no pair twice
abbrev pub IsListed : List Route → Type 0
IsListed moves = All (λ m. 0 < m.number) moves × AllPairs IsBefore moves

-- a wave in which no set gives or takes more than it may
pub record IsWave (max_sending max_receiving : ℕ) (moves : List Route) : Type 0 where
  pub listed : IsListed moves
  pub sending : (set : ℕ) → given set moves ≤ max_sending
  pub receiving : (set : ℕ) → taken set moves ≤ max_receiving

-- A right plan: each of its waves is one, and over all of them each pair's numbers sum to its route,
-- or to 0 where the pair has none.
pub record IsRightPlan (max_sending max_receiving : ℕ) (routes : List Route)
    (plan : List (List Route)) : Type 0 where
  pub waves : All (IsWave max_sending max_receiving) plan
  pub sums : (giver taker : ℕ) →
      between_in_all giver taker plan ≡ between giver taker routes

-- routes that can be planned
pub record CanPlan (sets max_sending max_receiving : ℕ) (routes : List Route) : Type 0 where
  pub sending : 0 < max_sending
  pub receiving : 0 < max_receiving
  pub some_sets : (1 ≤ sets) × (sets ≤ 32)
  pub named : All (λ r. (r.giver ≤ sets) × (r.taker ≤ sets)) routes
  pub listed : IsListed routes
  pub one_way : All (λ a. All (λ b. a.giver ≢ b.taker) routes) routes
  pub few : moved routes ≤ 30000
