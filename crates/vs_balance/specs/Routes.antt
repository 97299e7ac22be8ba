-- Which sets give buckets to which.
use Rattle.std.specs.Prelude.{ℕ, ◌+◌, ◌-◌, min, max, nat_lt, if◌then◌else◌, List, [], ◌∷◌, map}
use Rattle.std.specs.List.{flat_map, zip}
use Rattle.vs_balance.specs.declared.view.SetView.{SetView}
use Rattle.vs_balance.specs.declared.route.Route.{Route}

-- what a set gives: what it has above its ideal
abbrev pub excess_of : SetView → ℕ → ℕ
excess_of view ideal = if view.locked then 0 else view.count - ideal

-- what a set may take: what it has below its ideal, and not more than the limit
abbrev pub lack_of : ℕ → SetView → ℕ → ℕ
lack_of limit view ideal = if view.locked then 0 else min (ideal - view.count) limit

abbrev pub excesses : List SetView → List ℕ → List ℕ
excesses views ideals = map (λ (view, ideal). excess_of view ideal) (zip views ideals)

abbrev pub lacks : ℕ → List SetView → List ℕ → List ℕ
lacks limit views ideals = map (λ (view, ideal). lack_of limit view ideal) (zip views ideals)

-- a set's stretch of a line
pub record Stretch : Type 0 where
  pub set : ℕ
  pub from : ℕ
  pub to : ℕ

-- these numbers laid end to end on a line, from this place on, the first by this set
abbrev pub end_to_end : ℕ → ℕ → List ℕ → List Stretch
end_to_end set from [] = []
end_to_end set from (number ∷ numbers) =
    record { set = set; from = from; to = from + number }
    ∷ end_to_end (set + 1) (from + number) numbers

abbrev pub overlap : Stretch → Stretch → ℕ
overlap a b = min a.to b.to - max a.from b.from

-- a route of this many buckets, where that is above 0
abbrev pub route_of : ℕ → ℕ → ℕ → List Route
route_of giver taker number =
    if nat_lt 0 number
    then record { giver = giver; taker = taker; number = number } ∷ []
    else []

-- A giver and a taker have a route of as many buckets as their stretches overlap. The routes stand
-- in order of giver, and then of taker.
abbrev pub routes_between : List Stretch → List Stretch → List Route
routes_between givers takers =
    flat_map (λ a. flat_map (λ b. route_of a.set b.set (overlap a b)) takers) givers

-- The sets in order lay what they give end to end on a line from 0, and what they may take on
-- another.
unfoldable pub routes_of : List SetView → List ℕ → ℕ → List Route
routes_of views ideals limit =
    let givers = end_to_end 1 0 (excesses views ideals) in
    let takers = end_to_end 1 0 (lacks limit views ideals) in
    routes_between givers takers
