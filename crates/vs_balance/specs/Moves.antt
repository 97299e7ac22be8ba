-- Lists of moves of buckets from set to set, and what they leave.
use Rattle.std.specs.Prelude.{ℕ, ◌≡◌, ◌≢◌, ◌+◌, ◌-◌, ◌<◌, ◌≤◌, ◌⊎◌, min, false, ◌==◌, if◌then◌else◌, List, map, length, slice_index, EachIndex}
use Rattle.std.specs.List.{sum, sum_by, enumerate_from, All, AllZip, AllPairs}
use Rattle.vs_balance.specs.declared.view.SetView.{SetView}
use Rattle.vs_balance.specs.declared.route.Route.{Route}
use Rattle.vs_balance.specs.Ideal.{KeepsBuckets}
use Rattle.vs_balance.specs.Routes.{excesses, lacks}

-- A move is written as a route: so many buckets from one set to another. How many buckets moves
-- move in all, from this set, and to it:
abbrev pub moved : List Route → ℕ
moved moves = sum_by (λ m. m.number) moves

abbrev pub given : ℕ → List Route → ℕ
given set moves = sum_by (λ m. if m.giver == set then m.number else 0) moves

abbrev pub taken : ℕ → List Route → ℕ
taken set moves = sum_by (λ m. if m.taker == set then m.number else 0) moves

-- the counts that they leave: with the buckets that come to a set, and without those that go
abbrev pub counts_after : List SetView → List Route → List ℕ
counts_after views moves =
    map (λ (set, view). view.count + taken set moves - given set moves) (enumerate_from 1 views)

-- no unlocked set lacks more than the limit
abbrev pub IsWithinLimit : ℕ → List SetView → List ℕ → Type 0
IsWithinLimit limit views ideals =
    AllZip (λ view ideal. view.locked ≡ false → ideal - view.count ≤ limit) views ideals

-- in order of giver, and then of taker
abbrev pub IsBefore : Route → Route → Type 0
IsBefore a b = (a.giver < b.giver) ⊎ (a.giver ≡ b.giver) × (a.taker < b.taker)

-- what is right of routes
pub record AreRoutes (views : List SetView) (ideals : List ℕ) (limit : ℕ) (routes : List Route)
    : Type 0 where
  pub positive : All (λ r. 0 < r.number) routes
  pub ordered : AllPairs IsBefore routes
  pub between_sets : All (λ r. (r.giver ≤ length views) × (r.taker ≤ length views)) routes
  -- no set gives and takes, and none more than it may
  pub one_way : All (λ a. All (λ b. a.giver ≢ b.taker) routes) routes
  pub within_excess : EachIndex views
      (λ i. given (i + 1) routes ≤ slice_index (excesses views ideals) i)
  pub within_lack : EachIndex views
      (λ i. taken (i + 1) routes ≤ slice_index (lacks limit views ideals) i)
  -- they move all that can be given and taken
  pub most : moved routes ≡ min (sum (excesses views ideals)) (sum (lacks limit views ideals))
  -- where the limit binds nowhere they leave the ideals, and no moves that do so move fewer buckets
  pub reached : KeepsBuckets views ideals → IsWithinLimit limit views ideals
      → counts_after views routes ≡ ideals
  pub fewest : (moves : List Route) → counts_after views moves ≡ ideals → moved routes ≤ moved moves
