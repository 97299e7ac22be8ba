-- Stretches laid end to end on two lines, and their overlaps.
use Rattle.std.proofs.Common.{◌≡◌, ℕ, ◌+◌, ◌-◌, ◌≤◌, min, max, List, [], ◌∷◌, ◌++◌, refl, ◌∙◌, arith, append_assoc}
use Rattle.std.specs.List.{flat_map}
use Rattle.std.proofs.lemmas.List.{append-nil}
use Rattle.vs_balance.specs.declared.route.Route.{Route}
use Rattle.vs_balance.specs.Routes.{Stretch, end_to_end, overlap, route_of, routes_between}

-- the routes of one giver
abbrev row : Stretch → List Stretch → List Route
row a takers = flat_map (λ (b : Stretch). route_of a.set b.set (overlap a b)) takers

-- two lines that begin at the same place
abbrev pub routes_from : ℕ → ℕ → List ℕ → ℕ → List ℕ → List Route
routes_from place giver gives taker takes = routes_between (end_to_end giver place gives) (end_to_end taker place takes)

-- a giver has no route to takers that begin at its end or later
row-past : (a : Stretch) (taker from : ℕ) (takes : List ℕ) → a.to ≤ from → row a (end_to_end taker from takes) ≡ []
row-past a taker from [] past = refl
row-past a taker from (number ∷ takes) past =
    let none : min a.to (from + number) - max a.from from ≡ 0 = omega arith in
    rw none (row-past a (taker + 1) (from + number) takes (omega arith))

-- where a giver begins doesn't matter to takers that begin later
row-clip : (set from from' to taker at : ℕ) (takes : List ℕ) → from ≤ at → from' ≤ at →
    row (record { set = set; from = from; to = to }) (end_to_end taker at takes) ≡ row (record { set = set; from = from'; to = to }) (end_to_end taker at takes)
row-clip set from from' to taker at [] a b = refl
row-clip set from from' to taker at (number ∷ takes) a b =
    let same : max from at ≡ max from' at = omega arith in
    let rest = row-clip set from from' to (taker + 1) (at + number) takes (omega arith) (omega arith) in
    rw (same, rest) refl

-- a taker has no route from givers that begin at its end or later
between-past : (giver from : ℕ) (gives : List ℕ) (b : Stretch) (takers : List Stretch) → b.to ≤ from → routes_between (end_to_end giver from gives) (b ∷ takers) ≡ routes_between (end_to_end giver from gives) takers
between-past giver from [] b takers past = refl
between-past giver from (number ∷ gives) b takers past =
    let none : min (from + number) b.to - max from b.from ≡ 0 = omega arith in
    let rest = between-past (giver + 1) (from + number) gives b takers (omega arith) in
    rw (none, rest) refl

-- where a taker begins doesn't matter to givers that begin later
between-clip : (giver at : ℕ) (gives : List ℕ) (set from from' to : ℕ) (takers : List Stretch) → from ≤ at → from' ≤ at →
    routes_between (end_to_end giver at gives) (record { set = set; from = from; to = to } ∷ takers) ≡ routes_between (end_to_end giver at gives) (record { set = set; from = from'; to = to } ∷ takers)
between-clip giver at [] set from from' to takers a b = refl
between-clip giver at (number ∷ gives) set from from' to takers a b =
    let same : max at from ≡ max at from' = omega arith in
    let rest = between-clip (giver + 1) (at + number) gives set from from' to takers (omega arith) (omega arith) in
    rw (same, rest) refl

pub between-no_takers : (giver at : ℕ) (gives : List ℕ) → routes_between (end_to_end giver at gives) [] ≡ []
between-no_takers giver at [] = refl
between-no_takers giver at (number ∷ gives) = between-no_takers (giver + 1) (at + number) gives

-- what is left where the giver's stretch ends first
pub routes_from-giver : (place giver a : ℕ) (gives : List ℕ) (taker b : ℕ) (takes : List ℕ) → a ≤ b →
    routes_from place giver (a ∷ gives) taker (b ∷ takes) ≡ route_of giver taker a ++ routes_from (place + a) (giver + 1) gives taker ((b - a) ∷ takes)
routes_from-giver place giver a gives taker b takes first =
    let here : min (place + a) (place + b) - max place place ≡ a = omega arith in
    let none = row-past (record { set = giver; from = place; to = place + a }) (taker + 1) (place + b) takes (omega arith) in
    let ends : place + a + (b - a) ≡ place + b = omega arith in
    let rest = between-clip (giver + 1) (place + a) gives taker place (place + a) (place + b) (end_to_end (taker + 1) (place + b) takes) (omega arith) (omega arith) in
    rw (here, none, ends, rest, append-nil) refl

-- and where the taker's does
pub routes_from-taker : (place giver a : ℕ) (gives : List ℕ) (taker b : ℕ) (takes : List ℕ) → b ≤ a →
    routes_from place giver (a ∷ gives) taker (b ∷ takes) ≡ route_of giver taker b ++ routes_from (place + b) giver ((a - b) ∷ gives) (taker + 1) takes
routes_from-taker place giver a gives taker b takes first =
    let here : min (place + a) (place + b) - max place place ≡ b = omega arith in
    let ends : place + b + (a - b) ≡ place + a = omega arith in
    let clip = row-clip giver place (place + b) (place + a) (taker + 1) (place + b) takes (omega arith) (omega arith) in
    let rest = between-past (giver + 1) (place + a) gives (record { set = taker; from = place; to = place + b }) (end_to_end (taker + 1) (place + b) takes) (omega arith) in
    rw (here, clip, ends, rest) (append_assoc (route_of giver taker b) (row (record { set = giver; from = place + b; to = place + a }) (end_to_end (taker + 1) (place + b) takes)) (routes_between (end_to_end (giver + 1) (place + a) gives) (end_to_end (taker + 1) (place + b) takes)))

-- an empty stretch at the end of a line is no more than no stretch
pub routes_from-spent_giver : (place giver taker : ℕ) (takes : List ℕ) → routes_from place giver (0 ∷ []) taker takes ≡ []
routes_from-spent_giver place giver taker takes =
    rw (row-past (record { set = giver; from = place; to = place + 0 }) taker place takes (omega arith)) refl

pub routes_from-spent_taker : (place giver : ℕ) (gives : List ℕ) (taker : ℕ) → routes_from place giver gives taker (0 ∷ []) ≡ []
routes_from-spent_taker place giver gives taker =
    between-past giver place gives (record { set = taker; from = place; to = place + 0 }) [] (omega arith) ∙ between-no_takers giver place gives
