-- What is right of the routes between two lines.
use Rattle.std.proofs.Common.{◌≡◌, ℕ, ◌+◌, ◌-◌, ◌<◌, ◌≤◌, min, Bool, true, false, cond, eqb, List, [], ◌∷◌, ◌++◌, length, get_or, sum, zero, suc, refl, ap, sym, ◌∙◌, subst, arith, inl, inr}
use Rattle.std.specs.Prelude.{◌⊎◌, ◌≢◌}
use Rattle.std.specs.List.{All, AllPairs}
use Rattle.std.proofs.lemmas.List.{get_or_past}
use Rattle.std.proofs.lemmas.List.Sums.{sum_by-cons, get_or-le-sum_by}
use Rattle.std.proofs.lemmas.List.Elements.{All-nil, All-cons, All-weaker, All-head, All-tail}
use Rattle.std.proofs.lemmas.Bool.{lt-ltb, cases_lt, cases_eq, eq-eqb, ne_eqb}
use Rattle.vs_balance.specs.declared.route.Route.{Route}
use Rattle.vs_balance.specs.Routes.{route_of}
use Rattle.vs_balance.specs.Moves.{moved, given, taken, IsBefore}
use Rattle.vs_balance.proofs.Lines.{routes_from, routes_from-giver, routes_from-taker, between-no_takers}

-- ---- from step to step of the two lines

module _ (P : ℕ → List ℕ → ℕ → List ℕ → List Route → Type 0)
    (no_givers : (giver taker : ℕ) (takes : List ℕ) → P giver [] taker takes [])
    (no_takers : (giver : ℕ) (gives : List ℕ) (taker : ℕ) → P giver gives taker [] [])
    (giver_ends : (giver a : ℕ) (gives : List ℕ) (taker b : ℕ) (takes : List ℕ) (routes : List Route) → a ≤ b → P (giver + 1) gives taker ((b - a) ∷ takes) routes → P giver (a ∷ gives) taker (b ∷ takes) (route_of giver taker a ++ routes))
    (taker_ends : (giver a : ℕ) (gives : List ℕ) (taker b : ℕ) (takes : List ℕ) (routes : List Route) → b ≤ a → P giver ((a - b) ∷ gives) (taker + 1) takes routes → P giver (a ∷ gives) taker (b ∷ takes) (route_of giver taker b ++ routes)) where
  along : (steps place giver : ℕ) (gives : List ℕ) (taker : ℕ) (takes : List ℕ) → length gives + length takes ≤ steps → P giver gives taker takes (routes_from place giver gives taker takes)
  along steps place giver [] taker takes few = no_givers giver taker takes
  along steps place giver (a ∷ gives) taker [] few = subst (P giver (a ∷ gives) taker []) (sym (between-no_takers giver place (a ∷ gives))) (no_takers giver (a ∷ gives) taker)
  along zero place giver (a ∷ gives) taker (b ∷ takes) few = absurd (omega arith)
  along (suc steps) place giver (a ∷ gives) taker (b ∷ takes) few = elim (cases_lt b a) [
    | inl less ↦
        subst (P giver (a ∷ gives) taker (b ∷ takes)) (sym (routes_from-taker place giver a gives taker b takes (omega arith)))
        (taker_ends giver a gives taker b takes _ (omega arith) (along steps (place + b) giver ((a - b) ∷ gives) (taker + 1) takes (omega arith)))
    | inr within ↦
        subst (P giver (a ∷ gives) taker (b ∷ takes)) (sym (routes_from-giver place giver a gives taker b takes within))
        (giver_ends giver a gives taker b takes _ within (along steps (place + a) (giver + 1) gives taker ((b - a) ∷ takes) (omega arith)))
  ]

-- ---- one route more

abbrev route : ℕ → ℕ → ℕ → Route
route giver taker number = record { giver = giver; taker = taker; number = number }

route_of-cases : (giver taker number : ℕ) → ((number ≡ 0) × (route_of giver taker number ≡ [])) ⊎ ((0 < number) × (route_of giver taker number ≡ route giver taker number ∷ []))
route_of-cases giver taker zero = inl (refl, refl)
route_of-cases giver taker (suc n) = inr (omega arith, ap (λ (b : Bool). cond b (route giver taker (suc n) ∷ []) []) (lt-ltb 0 (suc n) (omega arith)))

cond-none : (b : Bool) (n : ℕ) → n ≡ 0 → cond b n 0 ≡ 0
cond-none true n is = is
cond-none false n is = refl

pub moved-more : (giver taker number : ℕ) (routes : List Route) → moved (route_of giver taker number ++ routes) ≡ number + moved routes
moved-more giver taker number routes = elim (route_of-cases giver taker number) [
  | inl none ↦ rw none.1 (omega (arith, none.0))
  | inr some ↦ rw some.1 (sum_by-cons (λ (r : Route). r.number) (route giver taker number) routes)
]

pub given-more : (set giver taker number : ℕ) (routes : List Route) → given set (route_of giver taker number ++ routes) ≡ cond (eqb giver set) number 0 + given set routes
given-more set giver taker number routes = elim (route_of-cases giver taker number) [
  | inl none ↦ rw none.1 (omega (arith, cond-none (eqb giver set) number none.0))
  | inr some ↦ rw some.1 (sum_by-cons (λ (r : Route). cond (eqb r.giver set) r.number 0) (route giver taker number) routes)
]

pub taken-more : (set giver taker number : ℕ) (routes : List Route) → taken set (route_of giver taker number ++ routes) ≡ cond (eqb taker set) number 0 + taken set routes
taken-more set giver taker number routes = elim (route_of-cases giver taker number) [
  | inl none ↦ rw none.1 (omega (arith, cond-none (eqb taker set) number none.0))
  | inr some ↦ rw some.1 (sum_by-cons (λ (r : Route). cond (eqb r.taker set) r.number 0) (route giver taker number) routes)
]

All-more : (P : Route → Type 0) (giver taker number : ℕ) (routes : List Route) → (0 < number → P (route giver taker number)) → All P routes → All P (route_of giver taker number ++ routes)
All-more P giver taker number routes here rest = elim (route_of-cases giver taker number) [
  | inl none ↦ rw none.1 rest
  | inr some ↦ rw some.1 (All-cons P (route giver taker number) routes (here some.0) rest)
]

AllPairs-cons : (R : Route → Route → Type 0) (x : Route) (xs : List Route) → All (R x) xs → AllPairs R xs → AllPairs R (x ∷ xs)
AllPairs-cons R x xs first rest zero zero d less inside = absurd (omega arith)
AllPairs-cons R x xs first rest zero (suc j) d less inside = first j d (omega arith)
AllPairs-cons R x xs first rest (suc i) zero d less inside = absurd (omega arith)
AllPairs-cons R x xs first rest (suc i) (suc j) d less inside = rest i j d (omega arith) (omega arith)

AllPairs-more : (R : Route → Route → Type 0) (giver taker number : ℕ) (routes : List Route) → All (R (route giver taker number)) routes → AllPairs R routes → AllPairs R (route_of giver taker number ++ routes)
AllPairs-more R giver taker number routes first rest = elim (route_of-cases giver taker number) [
  | inl none ↦ rw none.1 rest
  | inr some ↦ rw some.1 (AllPairs-cons R (route giver taker number) routes first rest)
]

-- ---- what holds at each step

-- the routes of a line of givers from this set on, and one of takers
pub record Between (giver : ℕ) (gives : List ℕ) (taker : ℕ) (takes : List ℕ) (routes : List Route) : Type 0 where
  pub positive : All (λ r. 0 < r.number) routes
  pub givers : All (λ r. (giver ≤ r.giver) × (r.giver < giver + length gives)) routes
  pub takers : All (λ r. (taker ≤ r.taker) × (r.taker < taker + length takes)) routes
  pub ordered : AllPairs IsBefore routes
  pub all : moved routes ≡ min (sum gives) (sum takes)
  pub given_most : (k : ℕ) → given (giver + k) routes ≤ get_or gives k 0
  pub taken_most : (k : ℕ) → taken (taker + k) routes ≤ get_or takes k 0
  pub given_all : sum gives ≤ sum takes → (k : ℕ) → given (giver + k) routes ≡ get_or gives k 0
  pub taken_all : sum takes ≤ sum gives → (k : ℕ) → taken (taker + k) routes ≡ get_or takes k 0

-- a set below all givers gives nothing
given-none : (set : ℕ) (routes : List Route) → All (λ (r : Route). set < r.giver) routes → given set routes ≡ 0
given-none set [] later = refl
given-none set (r ∷ routes) later =
    let P : Route → Type 0 = λ r. set < r.giver in
    let here : eqb r.giver set ≡ false = ne_eqb r.giver set (λ same. omega (arith, All-head P r routes later)) in
    let first : cond (eqb r.giver set) r.number 0 ≡ 0 = ap (λ (b : Bool). cond b r.number 0) here in
    sum_by-cons (λ (r : Route). cond (eqb r.giver set) r.number 0) r routes ∙ omega (arith, first, given-none set routes (All-tail P r routes later))

taken-none : (set : ℕ) (routes : List Route) → All (λ (r : Route). set < r.taker) routes → taken set routes ≡ 0
taken-none set [] later = refl
taken-none set (r ∷ routes) later =
    let P : Route → Type 0 = λ r. set < r.taker in
    let here : eqb r.taker set ≡ false = ne_eqb r.taker set (λ same. omega (arith, All-head P r routes later)) in
    let first : cond (eqb r.taker set) r.number 0 ≡ 0 = ap (λ (b : Bool). cond b r.number 0) here in
    sum_by-cons (λ (r : Route). cond (eqb r.taker set) r.number 0) r routes ∙ omega (arith, first, taken-none set routes (All-tail P r routes later))

same-cond : (a n : ℕ) → cond (eqb a a) n 0 ≡ n
same-cond a n = ap (λ (b : Bool). cond b n 0) (eq-eqb a a refl)

other-cond : (a b n : ℕ) → a ≢ b → cond (eqb a b) n 0 ≡ 0
other-cond a b n differs = ap (λ (t : Bool). cond t n 0) (ne_eqb a b differs)

-- one step's number at the first set of a line, and at a later one
given-first : (set giver taker number : ℕ) (routes : List Route) → giver ≡ set → given set (route_of giver taker number ++ routes) ≡ number + given set routes
given-first set giver taker number routes same =
    given-more set giver taker number routes ∙ ap (λ (n : ℕ). n + given set routes) (ap (λ (a : ℕ). cond (eqb a set) number 0) same ∙ same-cond set number)

given-later : (set giver taker number : ℕ) (routes : List Route) → giver ≢ set → given set (route_of giver taker number ++ routes) ≡ given set routes
given-later set giver taker number routes differs = omega (arith, given-more set giver taker number routes, other-cond giver set number differs)

taken-first : (set giver taker number : ℕ) (routes : List Route) → taker ≡ set → taken set (route_of giver taker number ++ routes) ≡ number + taken set routes
taken-first set giver taker number routes same =
    taken-more set giver taker number routes ∙ ap (λ (n : ℕ). n + taken set routes) (ap (λ (a : ℕ). cond (eqb a set) number 0) same ∙ same-cond set number)

taken-later : (set giver taker number : ℕ) (routes : List Route) → taker ≢ set → taken set (route_of giver taker number ++ routes) ≡ taken set routes
taken-later set giver taker number routes differs = omega (arith, taken-more set giver taker number routes, other-cond taker set number differs)

sum-cons : (x : ℕ) (xs : List ℕ) → sum (x ∷ xs) ≡ x + sum xs
sum-cons x xs = sum_by-cons (λ n. n) x xs

none-given : (giver : ℕ) (gives : List ℕ) (taker : ℕ) (takes : List ℕ) → min (sum gives) (sum takes) ≡ 0 → Between giver gives taker takes []
none-given giver gives taker takes none = record {
  positive = All-nil (λ r. 0 < r.number);
  givers = All-nil (λ r. (giver ≤ r.giver) × (r.giver < giver + length gives));
  takers = All-nil (λ r. (taker ≤ r.taker) × (r.taker < taker + length takes));
  ordered = λ i j d less inside. absurd (omega arith);
  all = sym none;
  given_most = λ k. omega arith;
  taken_most = λ k. omega arith;
  given_all = λ few k. omega (arith, none, at_most gives k);
  taken_all = λ few k. omega (arith, none, at_most takes k);
}
  where
    at_most : (xs : List ℕ) (k : ℕ) → get_or xs k 0 ≤ sum xs
    at_most xs k = elim (cases_lt k (length xs)) [
      | inl inside ↦ get_or-le-sum_by (λ n. n) xs k 0 inside
      | inr past ↦ omega (arith, get_or_past xs k 0 past)
    ]

abbrev InGivers : ℕ → List ℕ → Route → Type 0
InGivers giver gives r = (giver ≤ r.giver) × (r.giver < giver + length gives)

abbrev InTakers : ℕ → List ℕ → Route → Type 0
InTakers taker takes r = (taker ≤ r.taker) × (r.taker < taker + length takes)

giver_ends : (giver a : ℕ) (gives : List ℕ) (taker b : ℕ) (takes : List ℕ) (routes : List Route) → a ≤ b → Between (giver + 1) gives taker ((b - a) ∷ takes) routes → Between giver (a ∷ gives) taker (b ∷ takes) (route_of giver taker a ++ routes)
giver_ends giver a gives taker b takes routes first rest = record {
  positive = All-more (λ r. 0 < r.number) giver taker a routes (λ some. some) rest.positive;
  givers = All-more (InGivers giver (a ∷ gives)) giver taker a routes (λ some. (omega arith, omega arith)) (All-weaker (InGivers (giver + 1) gives) (InGivers giver (a ∷ gives)) (λ r in'. (omega arith, omega arith)) routes rest.givers);
  takers = All-more (InTakers taker (b ∷ takes)) giver taker a routes (λ some. (omega arith, omega arith)) rest.takers;
  ordered = AllPairs-more IsBefore giver taker a routes (All-weaker (InGivers (giver + 1) gives) (IsBefore (route giver taker a)) (λ r in'. inl (omega arith)) routes rest.givers) rest.ordered;
  all = omega (arith, moved-more giver taker a routes, rest.all, sum-cons a gives, sum-cons b takes, sum-cons (b - a) takes);
  given_most = given_most;
  taken_most = taken_most;
  given_all = λ few. given_all (omega (arith, few, sum-cons a gives, sum-cons b takes, sum-cons (b - a) takes));
  taken_all = λ few. taken_all (omega (arith, few, sum-cons a gives, sum-cons b takes, sum-cons (b - a) takes));
}
  where
    here : given (giver + 0) (route_of giver taker a ++ routes) ≡ a
    here =
        given-first (giver + 0) giver taker a routes (omega arith)
        ∙ omega (arith, given-none (giver + 0) routes (All-weaker (InGivers (giver + 1) gives) (λ r. giver + 0 < r.giver) (λ r in'. omega arith) routes rest.givers))

    later : (k : ℕ) → given (giver + suc k) (route_of giver taker a ++ routes) ≡ given (giver + 1 + k) routes
    later k = given-later (giver + suc k) giver taker a routes (λ same. omega arith) ∙ ap (λ (set : ℕ). given set routes) (omega arith)

    here_taken : taken (taker + 0) (route_of giver taker a ++ routes) ≡ a + taken (taker + 0) routes
    here_taken = taken-first (taker + 0) giver taker a routes (omega arith)

    later_taken : (k : ℕ) → taken (taker + suc k) (route_of giver taker a ++ routes) ≡ taken (taker + suc k) routes
    later_taken k = taken-later (taker + suc k) giver taker a routes (λ same. omega arith)

    given_most : (k : ℕ) → given (giver + k) (route_of giver taker a ++ routes) ≤ get_or (a ∷ gives) k 0
    given_most zero = omega (arith, here)
    given_most (suc k) = omega (arith, later k, rest.given_most k)

    taken_most : (k : ℕ) → taken (taker + k) (route_of giver taker a ++ routes) ≤ get_or (b ∷ takes) k 0
    taken_most zero = omega (arith, here_taken, rest.taken_most 0, first)
    taken_most (suc k) = omega (arith, later_taken k, rest.taken_most (suc k))

    given_all : sum gives ≤ sum ((b - a) ∷ takes) → (k : ℕ) → given (giver + k) (route_of giver taker a ++ routes) ≡ get_or (a ∷ gives) k 0
    given_all few zero = here
    given_all few (suc k) = later k ∙ rest.given_all few k

    taken_all : sum ((b - a) ∷ takes) ≤ sum gives → (k : ℕ) → taken (taker + k) (route_of giver taker a ++ routes) ≡ get_or (b ∷ takes) k 0
    taken_all few zero = omega (arith, here_taken, rest.taken_all few 0, first)
    taken_all few (suc k) = later_taken k ∙ rest.taken_all few (suc k)

taker_ends : (giver a : ℕ) (gives : List ℕ) (taker b : ℕ) (takes : List ℕ) (routes : List Route) → b ≤ a → Between giver ((a - b) ∷ gives) (taker + 1) takes routes → Between giver (a ∷ gives) taker (b ∷ takes) (route_of giver taker b ++ routes)
taker_ends giver a gives taker b takes routes first rest = record {
  positive = All-more (λ r. 0 < r.number) giver taker b routes (λ some. some) rest.positive;
  givers = All-more (InGivers giver (a ∷ gives)) giver taker b routes (λ some. (omega arith, omega arith)) rest.givers;
  takers = All-more (InTakers taker (b ∷ takes)) giver taker b routes (λ some. (omega arith, omega arith)) (All-weaker (InTakers (taker + 1) takes) (InTakers taker (b ∷ takes)) (λ r in'. (omega arith, omega arith)) routes rest.takers);
  ordered = AllPairs-more IsBefore giver taker b routes before rest.ordered;
  all = omega (arith, moved-more giver taker b routes, rest.all, sum-cons a gives, sum-cons b takes, sum-cons (a - b) gives);
  given_most = given_most;
  taken_most = taken_most;
  given_all = λ few. given_all (omega (arith, few, sum-cons a gives, sum-cons b takes, sum-cons (a - b) gives));
  taken_all = λ few. taken_all (omega (arith, few, sum-cons a gives, sum-cons b takes, sum-cons (a - b) gives));
}
  where
    before : All (IsBefore (route giver taker b)) routes
    before k d inside =
        let r = get_or routes k d in
        let above = rest.givers k d inside in
        let after = rest.takers k d inside in
        elim (cases_eq giver r.giver) [ inl same ↦ inr (same, omega arith) | inr differs ↦ inl (omega (arith, above, differs)) ]

    here : given (giver + 0) (route_of giver taker b ++ routes) ≡ b + given (giver + 0) routes
    here = given-first (giver + 0) giver taker b routes (omega arith)

    later : (k : ℕ) → given (giver + suc k) (route_of giver taker b ++ routes) ≡ given (giver + suc k) routes
    later k = given-later (giver + suc k) giver taker b routes (λ same. omega arith)

    here_taken : taken (taker + 0) (route_of giver taker b ++ routes) ≡ b
    here_taken =
        taken-first (taker + 0) giver taker b routes (omega arith)
        ∙ omega (arith, taken-none (taker + 0) routes (All-weaker (InTakers (taker + 1) takes) (λ r. taker + 0 < r.taker) (λ r in'. omega arith) routes rest.takers))

    later_taken : (k : ℕ) → taken (taker + suc k) (route_of giver taker b ++ routes) ≡ taken (taker + 1 + k) routes
    later_taken k = taken-later (taker + suc k) giver taker b routes (λ same. omega arith) ∙ ap (λ (set : ℕ). taken set routes) (omega arith)

    given_most : (k : ℕ) → given (giver + k) (route_of giver taker b ++ routes) ≤ get_or (a ∷ gives) k 0
    given_most zero = omega (arith, here, rest.given_most 0, first)
    given_most (suc k) = omega (arith, later k, rest.given_most (suc k))

    taken_most : (k : ℕ) → taken (taker + k) (route_of giver taker b ++ routes) ≤ get_or (b ∷ takes) k 0
    taken_most zero = omega (arith, here_taken)
    taken_most (suc k) = omega (arith, later_taken k, rest.taken_most k)

    given_all : sum ((a - b) ∷ gives) ≤ sum takes → (k : ℕ) → given (giver + k) (route_of giver taker b ++ routes) ≡ get_or (a ∷ gives) k 0
    given_all few zero = omega (arith, here, rest.given_all few 0, first)
    given_all few (suc k) = later k ∙ rest.given_all few (suc k)

    taken_all : sum takes ≤ sum ((a - b) ∷ gives) → (k : ℕ) → taken (taker + k) (route_of giver taker b ++ routes) ≡ get_or (b ∷ takes) k 0
    taken_all few zero = here_taken
    taken_all few (suc k) = later_taken k ∙ rest.taken_all few k

pub routes_from-Between : (place giver : ℕ) (gives : List ℕ) (taker : ℕ) (takes : List ℕ) → Between giver gives taker takes (routes_from place giver gives taker takes)
routes_from-Between place giver gives taker takes =
    along Between
    (λ giver taker takes. none-given giver [] taker takes (omega arith))
    (λ giver gives taker. none-given giver gives taker [] (omega arith))
    giver_ends taker_ends
    (length gives + length takes) place giver gives taker takes (omega arith)
