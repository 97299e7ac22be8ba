-- What is right of the routes, and that no moves that leave the ideals move fewer buckets.
use Rattle.std.proofs.Common.{◌≡◌, ℕ, ◌+◌, ◌-◌, ◌<◌, ◌≤◌, min, Bool, true, false, cond, eqb, leb, List, [], ◌∷◌, length, get_or, sum, zero, suc, refl, ap, sym, ◌∙◌, subst, arith}
use Rattle.std.specs.Prelude.{◌≢◌, EachIndex, slice_index}
use Rattle.std.specs.List.{sum_by, zip, enumerate_from, All, AllZip}
use Rattle.std.proofs.lemmas.List.{length-map, get_or-map}
use Rattle.std.proofs.lemmas.List.FromFn.{length-enumerate_from, get_or-enumerate_from}
use Rattle.std.proofs.lemmas.List.Sums.{sum_by-cons, get_or-le-sum_by, sum_by-le-sum_by}
use Rattle.std.proofs.lemmas.Grind.{same_number_lists}
use Rattle.std.proofs.lemmas.Slice.Zip.{length-zip}
use Rattle.std.proofs.lemmas.Bool.{eq-eqb}
use Rattle.std.proofs.lemmas.Bool.Decides.{nat_tests}
use Rattle.vs_balance.specs.declared.view.SetView.{SetView}
use Rattle.vs_balance.specs.declared.route.Route.{Route}
use Rattle.vs_balance.specs.Member.{unlocked_count}
use Rattle.vs_balance.specs.Ideal.{unlocked_ideals, KeepsBuckets}
use Rattle.vs_balance.specs.Routes.{excess_of, lack_of, excesses, lacks, routes_of}
use Rattle.vs_balance.specs.Moves.{moved, given, taken, counts_after, IsWithinLimit, AreRoutes}
use Rattle.vs_balance.proofs.Lines.{routes_from}
use Rattle.vs_balance.proofs.Steps.{giving, taking, at_index}
use Rattle.vs_balance.proofs.Walk.{Between, routes_from-Between}

abbrev nothing : SetView
nothing = record { count = 0; pinned = 0; weight = 0; locked = false }

-- ---- one set

gives_or_takes : (limit : ℕ) (view : SetView) (ideal : ℕ) → 0 < excess_of view ideal → 0 < lack_of limit view ideal → ⊥
gives_or_takes limit view ideal gives takes = by_locked view.locked gives takes
  where
    by_locked : (locked : Bool) → 0 < cond locked 0 (view.count - ideal) → 0 < cond locked 0 (min (ideal - view.count) limit) → ⊥
    by_locked true gives takes = omega arith
    by_locked false gives takes = omega arith

-- with no limit that binds, what a set is to have and gives is what it has and takes
balanced : (limit : ℕ) (view : SetView) (ideal : ℕ) → (view.locked ≡ false → ideal - view.count ≤ limit) → excess_of view ideal + cond view.locked 0 ideal ≡ lack_of limit view ideal + unlocked_count view
balanced limit view ideal within = by_locked view.locked within
  where
    by_locked : (locked : Bool) → (locked ≡ false → ideal - view.count ≤ limit) → cond locked 0 (view.count - ideal) + cond locked 0 ideal ≡ cond locked 0 (min (ideal - view.count) limit) + cond locked 0 view.count
    by_locked true within = refl
    by_locked false within = omega (arith, within refl)

-- moves that leave a set its ideal take its excess from it
excess_given : (view : SetView) (ideal come go : ℕ) → view.count + come - go ≡ ideal → excess_of view ideal ≤ go
excess_given view ideal come go leaves = by_locked view.locked
  where
    by_locked : (locked : Bool) → cond locked 0 (view.count - ideal) ≤ go
    by_locked true = omega arith
    by_locked false = omega arith

ideal_left : (limit : ℕ) (view : SetView) (ideal : ℕ) → (view.locked ≡ true → ideal ≡ view.count) → (view.locked ≡ false → ideal - view.count ≤ limit) → view.count + lack_of limit view ideal - excess_of view ideal ≡ ideal
ideal_left limit view ideal kept within = by_locked view.locked kept within
  where
    by_locked : (locked : Bool) → (locked ≡ true → ideal ≡ view.count) → (locked ≡ false → ideal - view.count ≤ limit) → view.count + cond locked 0 (min (ideal - view.count) limit) - cond locked 0 (view.count - ideal) ≡ ideal
    by_locked true kept within = omega (arith, kept refl)
    by_locked false kept within = omega (arith, within refl)

-- ---- all sets

all_balanced : (limit : ℕ) (views : List SetView) (ideals : List ℕ) → IsWithinLimit limit views ideals → sum (excesses views ideals) + unlocked_ideals views ideals ≡ sum (lacks limit views ideals) + sum_by unlocked_count views
all_balanced limit [] [] within = refl
all_balanced limit [] (ideal ∷ ideals) within = absurd within
all_balanced limit (view ∷ views) [] within = absurd within
all_balanced limit (view ∷ views) (ideal ∷ ideals) within =
    let here = balanced limit view ideal within.0 in
    let rest = all_balanced limit views ideals within.1 in
    let a : sum (excess_of view ideal ∷ excesses views ideals) ≡ excess_of view ideal + sum (excesses views ideals) = sum_by-cons (λ n. n) (excess_of view ideal) (excesses views ideals) in
    let b : unlocked_ideals (view ∷ views) (ideal ∷ ideals) ≡ cond view.locked 0 ideal + unlocked_ideals views ideals = sum_by-cons (λ (p : SetView × ℕ). cond p.0.locked 0 p.1) (view, ideal) (zip views ideals) in
    let c : sum (lack_of limit view ideal ∷ lacks limit views ideals) ≡ lack_of limit view ideal + sum (lacks limit views ideals) = sum_by-cons (λ n. n) (lack_of limit view ideal) (lacks limit views ideals) in
    let d : sum_by unlocked_count (view ∷ views) ≡ unlocked_count view + sum_by unlocked_count views = sum_by-cons _ view views in
    rw (a, b, c, d) (omega (arith, here, rest))

AllZip-at : (R : SetView → ℕ → Type 0) (views : List SetView) (ideals : List ℕ) (k : ℕ) (d : SetView) → AllZip R views ideals → k < length views → R (get_or views k d) (get_or ideals k 0)
AllZip-at R [] ideals k d all inside = absurd (omega arith)
AllZip-at R (view ∷ views) [] k d all inside = absurd all
AllZip-at R (view ∷ views) (ideal ∷ ideals) zero d all inside = all.0
AllZip-at R (view ∷ views) (ideal ∷ ideals) (suc k) d all inside = AllZip-at R views ideals k d all.1 (omega arith)

-- what moves leave at a set
counts_after-at : (views : List SetView) (moves : List Route) (k : ℕ) (d : SetView) → k < length views → get_or (counts_after views moves) k 0 ≡ (get_or views k d).count + taken (1 + k) moves - given (1 + k) moves
counts_after-at views moves k d inside =
    let left : ℕ × SetView → ℕ = λ p. p.1.count + taken p.0 moves - given p.0 moves in
    get_or-map left (enumerate_from 1 views) k (0, d) 0 (omega (arith, length-enumerate_from 1 views)) ∙ ap left (get_or-enumerate_from 1 views k (0, d) inside)

length-counts_after : (views : List SetView) (moves : List Route) → length (counts_after views moves) ≡ length views
length-counts_after views moves =
    length-map (enumerate_from 1 views) (λ (p : ℕ × SetView). p.1.count + taken p.0 moves - given p.0 moves) ∙ length-enumerate_from 1 views

-- ---- moves that take its excess from each set move all excess

-- what moves take from this set and later ones
abbrev given_from : ℕ → List Route → ℕ
given_from set moves = sum_by (λ (m : Route). cond (leb set m.giver) m.number 0) moves

from_here : (set giver number : ℕ) → cond (eqb giver set) number 0 + cond (leb (set + 1) giver) number 0 ≤ cond (leb set giver) number 0
from_here set giver number = grind (arith, nat_tests)

given_and_later : (set : ℕ) (moves : List Route) → given set moves + given_from (set + 1) moves ≤ given_from set moves
given_and_later set [] = omega arith
given_and_later set (m ∷ moves) =
    let here = from_here set m.giver m.number in
    let rest = given_and_later set moves in
    let a : given set (m ∷ moves) ≡ cond (eqb m.giver set) m.number 0 + given set moves = sum_by-cons (λ (m : Route). cond (eqb m.giver set) m.number 0) m moves in
    let b : given_from (set + 1) (m ∷ moves) ≡ cond (leb (set + 1) m.giver) m.number 0 + given_from (set + 1) moves = sum_by-cons (λ (m : Route). cond (leb (set + 1) m.giver) m.number 0) m moves in
    let c : given_from set (m ∷ moves) ≡ cond (leb set m.giver) m.number 0 + given_from set moves = sum_by-cons (λ (m : Route). cond (leb set m.giver) m.number 0) m moves in
    rw (a, b, c) (omega (arith, here, rest))

all_excess : (set : ℕ) (views : List SetView) (ideals : List ℕ) (moves : List Route) → ((k : ℕ) → k < length views → excess_of (get_or views k nothing) (get_or ideals k 0) ≤ given (set + k) moves) → sum (excesses views ideals) ≤ given_from set moves
all_excess set [] ideals moves each = omega arith
all_excess set (view ∷ views) [] moves each = omega arith
all_excess set (view ∷ views) (ideal ∷ ideals) moves each =
    let place : set + 0 ≡ set = omega arith in
    let here : excess_of view ideal ≤ given set moves = subst (λ (s : ℕ). excess_of view ideal ≤ given s moves) place (each 0 (omega arith)) in
    let later : (k : ℕ) → k < length views → excess_of (get_or views k nothing) (get_or ideals k 0) ≤ given (set + 1 + k) moves =
    λ k inside. let next : set + suc k ≡ set + 1 + k = omega arith in subst (λ (s : ℕ). excess_of (get_or views k nothing) (get_or ideals k 0) ≤ given s moves) next (each (suc k) (omega arith))
    in
    let rest = all_excess (set + 1) views ideals moves later in
    let a : sum (excess_of view ideal ∷ excesses views ideals) ≡ excess_of view ideal + sum (excesses views ideals) = sum_by-cons (λ n. n) (excess_of view ideal) (excesses views ideals) in
    rw a (omega (arith, here, rest, given_and_later set moves))

given_from-le : (set : ℕ) (moves : List Route) → given_from set moves ≤ moved moves
given_from-le set moves = sum_by-le-sum_by (λ (m : Route). cond (leb set m.giver) m.number 0) (λ (m : Route). m.number) moves (λ m. at_most (leb set m.giver) m.number)
  where
    at_most : (b : Bool) (n : ℕ) → cond b n 0 ≤ n
    at_most true n = omega arith
    at_most false n = omega arith

-- ---- the routes

module _ (views : List SetView) (ideals : List ℕ) (limit : ℕ) (routes : List Route) (same : length views ≡ length ideals) (between : Between 1 (excesses views ideals) 1 (lacks limit views ideals) routes) where
  excess_at : (k : ℕ) → k < length views → get_or (excesses views ideals) k 0 ≡ excess_of (get_or views k nothing) (get_or ideals k 0)
  excess_at k inside = at_index giving views ideals k nothing same inside

  lack_at : (k : ℕ) → k < length views → get_or (lacks limit views ideals) k 0 ≡ lack_of limit (get_or views k nothing) (get_or ideals k 0)
  lack_at k inside = at_index (taking limit) views ideals k nothing same inside

  long : (length (excesses views ideals) ≡ length views) × (length (lacks limit views ideals) ≡ length views)
  long = (
    omega (arith, length-map (zip views ideals) giving, length-zip views ideals),
    omega (arith, length-map (zip views ideals) (taking limit), length-zip views ideals),
  )

  gives_something : (k : ℕ) (d : Route) → k < length routes → 0 < given (get_or routes k d).giver routes
  gives_something k d inside =
      let r = get_or routes k d in
      let part = get_or-le-sum_by (λ (m : Route). cond (eqb m.giver r.giver) m.number 0) routes k d inside in
      let own : cond (eqb r.giver r.giver) r.number 0 ≡ r.number = ap (λ (b : Bool). cond b r.number 0) (eq-eqb r.giver r.giver refl) in
      omega (arith, part, own, between.positive k d inside)

  takes_something : (k : ℕ) (d : Route) → k < length routes → 0 < taken (get_or routes k d).taker routes
  takes_something k d inside =
      let r = get_or routes k d in
      let part = get_or-le-sum_by (λ (m : Route). cond (eqb m.taker r.taker) m.number 0) routes k d inside in
      let own : cond (eqb r.taker r.taker) r.number 0 ≡ r.number = ap (λ (b : Bool). cond b r.number 0) (eq-eqb r.taker r.taker refl) in
      omega (arith, part, own, between.positive k d inside)

  one_way : All (λ (a : Route). All (λ (b : Route). a.giver ≢ b.taker) routes) routes
  one_way k d inside k' d' inside' both =
      let a = get_or routes k d in
      let b = get_or routes k' d' in
      let range = between.givers k d inside in
      let i = a.giver - 1 in
      let giver : 1 + i ≡ a.giver = omega (arith, range) in
      let taker : 1 + i ≡ b.taker = giver ∙ both in
      let there : i < length views = omega (arith, range, long.0) in
      let gives : 0 < given (1 + i) routes = subst (λ (set : ℕ). 0 < given set routes) (sym giver) (gives_something k d inside) in
      let takes : 0 < taken (1 + i) routes = subst (λ (set : ℕ). 0 < taken set routes) (sym taker) (takes_something k' d' inside') in
      gives_or_takes limit (get_or views i nothing) (get_or ideals i 0)
      (omega (arith, gives, between.given_most i, excess_at i there))
      (omega (arith, takes, between.taken_most i, lack_at i there))

  within_excess : EachIndex views (λ i. given (i + 1) routes ≤ slice_index (excesses views ideals) i)
  within_excess i inside =
      let place : 1 + i ≡ i + 1 = omega arith in
      subst (λ (set : ℕ). given set routes ≤ slice_index (excesses views ideals) i) place (between.given_most i)

  within_lack : EachIndex views (λ i. taken (i + 1) routes ≤ slice_index (lacks limit views ideals) i)
  within_lack i inside =
      let place : 1 + i ≡ i + 1 = omega arith in
      subst (λ (set : ℕ). taken set routes ≤ slice_index (lacks limit views ideals) i) place (between.taken_most i)

  fewest : (moves : List Route) → counts_after views moves ≡ ideals → moved routes ≤ moved moves
  fewest moves leaves =
      let each : (k : ℕ) → k < length views → excess_of (get_or views k nothing) (get_or ideals k 0) ≤ given (1 + k) moves =
      λ k inside.
      let left : (get_or views k nothing).count + taken (1 + k) moves - given (1 + k) moves ≡ get_or ideals k 0 =
      sym (counts_after-at views moves k nothing inside) ∙ ap (λ (xs : List ℕ). get_or xs k 0) leaves
      in
      excess_given (get_or views k nothing) (get_or ideals k 0) (taken (1 + k) moves) (given (1 + k) moves) left
      in
      omega (arith, between.all, all_excess 1 views ideals moves each, given_from-le 1 moves)

  reached : KeepsBuckets views ideals → IsWithinLimit limit views ideals → counts_after views routes ≡ ideals
  reached kept within =
      let equal : sum (excesses views ideals) ≡ sum (lacks limit views ideals) = omega (arith, all_balanced limit views ideals within, kept.unlocked) in
      let size = length-counts_after views routes in
      same_number_lists (counts_after views routes) ideals (size ∙ same) (λ k inside.
      let there : k < length views = omega (arith, size, inside) in
      let gives : given (1 + k) routes ≡ excess_of (get_or views k nothing) (get_or ideals k 0) = between.given_all (omega arith) k ∙ excess_at k there in
      let takes : taken (1 + k) routes ≡ lack_of limit (get_or views k nothing) (get_or ideals k 0) = between.taken_all (omega arith) k ∙ lack_at k there in
      let left = ideal_left limit (get_or views k nothing) (get_or ideals k 0)
      (AllZip-at (λ view ideal. view.locked ≡ true → ideal ≡ view.count) views ideals k nothing kept.locked there)
      (AllZip-at (λ view ideal. view.locked ≡ false → ideal - view.count ≤ limit) views ideals k nothing within there)
      in
      counts_after-at views routes k nothing there ∙ omega (arith, gives, takes, left))

pub AreRoutes-routes_of : (views : List SetView) (ideals : List ℕ) (limit : ℕ) → length views ≡ length ideals → AreRoutes views ideals limit (routes_of views ideals limit)
unfolding routes_of
AreRoutes-routes_of views ideals limit same =
    let between = routes_from-Between 0 1 (excesses views ideals) 1 (lacks limit views ideals) in
    let routes = routes_from 0 1 (excesses views ideals) 1 (lacks limit views ideals) in
    let sizes = long views ideals limit routes same between in
    record {
      positive = between.positive;
      ordered = between.ordered;
      between_sets = λ k d inside. (omega (arith, between.givers k d inside, sizes.0), omega (arith, between.takers k d inside, sizes.1));
      one_way = one_way views ideals limit routes same between;
      within_excess = within_excess views ideals limit routes same between;
      within_lack = within_lack views ideals limit routes same between;
      most = between.all;
      reached = reached views ideals limit routes same between;
      fewest = fewest views ideals limit routes same between;
    }
