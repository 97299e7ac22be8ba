-- The walk along the two lines, set by set.
use Rattle.std.proofs.Common.{◌≡◌, ℕ, ◌+◌, ◌-◌, ◌<◌, ◌≤◌, List, [], ◌∷◌, ◌++◌, map, length, get_or, drop, ap, sym, ◌∙◌, arith, inl, inr, append_assoc}
use Rattle.std.specs.List.{zip}
use Rattle.std.proofs.lemmas.List.{append-nil, drop_more, drop_all, get_or_past, get_or-map, length-map}
use Rattle.std.proofs.lemmas.List.Sums.{sum_by-append}
use Rattle.std.proofs.lemmas.Slice.Zip.{length-zip, get_or-zip}
use Rattle.std.proofs.lemmas.Bool.{cases_lt}
use Rattle.vs_balance.specs.declared.view.SetView.{SetView}
use Rattle.vs_balance.specs.declared.route.Route.{Route}
use Rattle.vs_balance.specs.Routes.{excess_of, lack_of, route_of}
use Rattle.vs_balance.specs.Moves.{moved}
use Rattle.vs_balance.proofs.Lines.{routes_from, routes_from-giver, routes_from-taker, routes_from-spent_giver, routes_from-spent_taker, between-no_takers}
use Rattle.vs_balance.proofs.Walk.{moved-more}

-- ---- what is read of the line at an index

abbrev pub giving : SetView × ℕ → ℕ
giving p = excess_of p.0 p.1

abbrev pub taking : ℕ → SetView × ℕ → ℕ
taking limit p = lack_of limit p.0 p.1

pub at_index : (f : SetView × ℕ → ℕ) (views : List SetView) (ideals : List ℕ) (i : ℕ) (d : SetView) → length views ≡ length ideals → i < length views → get_or (map f (zip views ideals)) i 0 ≡ f (get_or views i d, get_or ideals i 0)
at_index f views ideals i d same inside =
    let long = length-zip views ideals in
    get_or-map f (zip views ideals) i (d, 0) 0 (omega arith) ∙ ap f (get_or-zip views ideals i (d, 0) inside (omega arith))

pub past_index : (f : SetView × ℕ → ℕ) (views : List SetView) (ideals : List ℕ) (i : ℕ) → length views ≤ i → get_or (map f (zip views ideals)) i 0 ≡ 0
past_index f views ideals i past =
    get_or_past (map f (zip views ideals)) i 0 (omega (arith, length-map (zip views ideals) f, length-zip views ideals))

-- ---- the next set of a line

pub next_giver : (gives : List ℕ) (i place giver taker : ℕ) (takes : List ℕ) → routes_from place giver (get_or gives i 0 ∷ drop (i + 1) gives) taker takes ≡ routes_from place giver (drop i gives) taker takes
next_giver gives i place giver taker takes = elim (cases_lt i (length gives)) [
  | inl inside ↦ ap (λ (xs : List ℕ). routes_from place giver xs taker takes) (sym (drop_more gives i 0 inside))
  | inr past ↦
      let none : get_or gives i 0 ≡ 0 = get_or_past gives i 0 past in
      let rest : drop (i + 1) gives ≡ [] = drop_all (i + 1) gives (omega arith) in
      let all : drop i gives ≡ [] = drop_all i gives past in
      rw (none, rest, all) (routes_from-spent_giver place giver taker takes)
]

pub next_taker : (takes : List ℕ) (j place giver : ℕ) (gives : List ℕ) (taker : ℕ) → routes_from place giver gives taker (get_or takes j 0 ∷ drop (j + 1) takes) ≡ routes_from place giver gives taker (drop j takes)
next_taker takes j place giver gives taker = elim (cases_lt j (length takes)) [
  | inl inside ↦ ap (λ (xs : List ℕ). routes_from place giver gives taker xs) (sym (drop_more takes j 0 inside))
  | inr past ↦
      let none : get_or takes j 0 ≡ 0 = get_or_past takes j 0 past in
      let rest : drop (j + 1) takes ≡ [] = drop_all (j + 1) takes (omega arith) in
      let all : drop j takes ≡ [] = drop_all j takes past in
      rw (none, rest, all) (routes_from-spent_taker place giver gives taker ∙ sym (between-no_takers giver place gives))
]

-- ---- one step of the walk

moved-push : (items : List Route) (giver taker number : ℕ) → moved (items ++ route_of giver taker number) ≡ moved items + number
moved-push items giver taker number =
    let one : moved (route_of giver taker number ++ []) ≡ number + 0 = moved-more giver taker number [] in
    sum_by-append (λ (r : Route). r.number) items (route_of giver taker number) ∙ omega (arith, rw append-nil at one)

-- The routes in all, where these are found, the walk is at giver i and taker j, counted from 0, and a and b are left of
-- their stretches.
pub walked : List Route → List ℕ → List ℕ → ℕ → ℕ → ℕ → ℕ → List Route
walked items gives takes i j a b = items ++ routes_from (moved items) (i + 1) (a ∷ drop (i + 1) gives) (j + 1) (b ∷ drop (j + 1) takes)

pub walked-start : (gives takes : List ℕ) → walked [] gives takes 0 0 (get_or gives 0 0) (get_or takes 0 0) ≡ routes_from 0 1 gives 1 takes
unfolding walked
walked-start gives takes =
    next_giver gives 0 0 1 1 (get_or takes 0 0 ∷ drop 1 takes) ∙ next_taker takes 0 0 1 gives 1

pub walked-giver : (items : List Route) (gives takes : List ℕ) (i j a b n : ℕ) → a ≤ b → n ≡ a →
    walked (items ++ route_of (i + 1) (j + 1) n) gives takes (i + 1) j (get_or gives (i + 1) 0) (b - n) ≡ walked items gives takes i j a b
unfolding walked
walked-giver items gives takes i j a b n first is =
    let place : moved (items ++ route_of (i + 1) (j + 1) n) ≡ moved items + n = moved-push items (i + 1) (j + 1) n in
    let next = next_giver gives (i + 1) (moved items + a) (i + 1 + 1) (j + 1) ((b - a) ∷ drop (j + 1) takes) in
    let step = routes_from-giver (moved items) (i + 1) a (drop (i + 1) gives) (j + 1) b (drop (j + 1) takes) first in
    let at = λ (place number : ℕ). (items ++ route_of (i + 1) (j + 1) number) ++ routes_from place (i + 1 + 1) (get_or gives (i + 1) 0 ∷ drop (i + 1 + 1) gives) (j + 1) ((b - number) ∷ drop (j + 1) takes) in
    ap (λ (place : ℕ). at place n) place
    ∙ ap (λ (number : ℕ). at (moved items + number) number) is
    ∙ ap (λ (rest : List Route). (items ++ route_of (i + 1) (j + 1) a) ++ rest) next
    ∙ append_assoc items (route_of (i + 1) (j + 1) a) (routes_from (moved items + a) (i + 1 + 1) (drop (i + 1) gives) (j + 1) ((b - a) ∷ drop (j + 1) takes))
    ∙ ap (λ (rest : List Route). items ++ rest) (sym step)

pub walked-taker : (items : List Route) (gives takes : List ℕ) (i j a b n : ℕ) → b ≤ a → n ≡ b →
    walked (items ++ route_of (i + 1) (j + 1) n) gives takes i (j + 1) (a - n) (get_or takes (j + 1) 0) ≡ walked items gives takes i j a b
unfolding walked
walked-taker items gives takes i j a b n first is =
    let place : moved (items ++ route_of (i + 1) (j + 1) n) ≡ moved items + n = moved-push items (i + 1) (j + 1) n in
    let next = next_taker takes (j + 1) (moved items + b) (i + 1) ((a - b) ∷ drop (i + 1) gives) (j + 1 + 1) in
    let step = routes_from-taker (moved items) (i + 1) a (drop (i + 1) gives) (j + 1) b (drop (j + 1) takes) first in
    let at = λ (place number : ℕ). (items ++ route_of (i + 1) (j + 1) number) ++ routes_from place (i + 1) ((a - number) ∷ drop (i + 1) gives) (j + 1 + 1) (get_or takes (j + 1) 0 ∷ drop (j + 1 + 1) takes) in
    ap (λ (place : ℕ). at place n) place
    ∙ ap (λ (number : ℕ). at (moved items + number) number) is
    ∙ ap (λ (rest : List Route). (items ++ route_of (i + 1) (j + 1) b) ++ rest) next
    ∙ append_assoc items (route_of (i + 1) (j + 1) b) (routes_from (moved items + b) (i + 1) ((a - b) ∷ drop (i + 1) gives) (j + 1 + 1) (drop (j + 1) takes))
    ∙ ap (λ (rest : List Route). items ++ rest) (sym step)

pub walked-no_givers : (items : List Route) (gives takes : List ℕ) (i j b : ℕ) → length gives ≤ i → walked items gives takes i j 0 b ≡ items
unfolding walked
walked-no_givers items gives takes i j b past =
    let rest : drop (i + 1) gives ≡ [] = drop_all (i + 1) gives (omega arith) in
    ap (λ (xs : List ℕ). items ++ routes_from (moved items) (i + 1) (0 ∷ xs) (j + 1) (b ∷ drop (j + 1) takes)) rest
    ∙ ap (λ (rs : List Route). items ++ rs) (routes_from-spent_giver (moved items) (i + 1) (j + 1) (b ∷ drop (j + 1) takes))
    ∙ append-nil items

pub walked-no_takers : (items : List Route) (gives takes : List ℕ) (i j a : ℕ) → length takes ≤ j → walked items gives takes i j a 0 ≡ items
unfolding walked
walked-no_takers items gives takes i j a past =
    let rest : drop (j + 1) takes ≡ [] = drop_all (j + 1) takes (omega arith) in
    ap (λ (xs : List ℕ). items ++ routes_from (moved items) (i + 1) (a ∷ drop (i + 1) gives) (j + 1) (0 ∷ xs)) rest
    ∙ ap (λ (rs : List Route). items ++ rs) (routes_from-spent_taker (moved items) (i + 1) (a ∷ drop (i + 1) gives) (j + 1))
    ∙ append-nil items
