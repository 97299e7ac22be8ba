-- A plan that is made wave by wave.
use Rattle.std.proofs.Common.{◌≡◌, ℕ, ◌+◌, ◌-◌, ◌*◌, ◌<◌, ◌≤◌, Bool, true, false, cond, eqb, List, [], ◌∷◌, ◌++◌, map, length, get_or, take, refl, ap, sym, ◌∙◌, arith, inl, inr}
use Rattle.std.specs.Prelude.{◌≢◌, ◌&&◌}
use Rattle.std.specs.List.{sum_by, All, AllPairs, flat_map}
use Rattle.std.proofs.lemmas.List.{take_more, append-nil, append_assoc}
use Rattle.std.proofs.lemmas.List.Sums.{sum_by_push, sum_by-cons}
use Rattle.std.proofs.lemmas.List.Elements.{All-nil, All-push, All-map, All-weaker}
use Rattle.std.proofs.lemmas.Bool.{cases_lt, lt-ltb, le-ltb, eq-eqb}
use Rattle.vs_balance.specs.declared.route.Route.{Route}
use Rattle.vs_balance.specs.Moves.{given, taken, moved, IsBefore}
use Rattle.vs_waves.specs.declared.flow.Flow.{Flow}
use Rattle.vs_waves.specs.Plan.{between, IsWave, IsRightPlan, CanPlan}
use Rattle.vs_waves.specs.Forcing.{HasForced, AreLeastWaves}
use Rattle.vs_waves.specs.Flows.{near_rest, far_rest, all_rest, bare, after_wave, flow_of, move_of, Fits, NothingNow, IsEnough, IsLaid, HasSetNos}
use Rattle.vs_waves.proofs.OneMore.{sum_by-map}
use Rattle.vs_waves.proofs.Parts.{sum_by-add, sum_by-all_le}
use Rattle.vs_waves.proofs.OneWave.{map-map}
use Rattle.vs_waves.proofs.WaveMoves.{ends, passing-moves, IsWave-moves}
use Rattle.vs_waves.proofs.Bound.{sides_within, given-none, taken-none}

-- what is left between two sets
unfoldable pub rest_between : ℕ → ℕ → List Flow → ℕ
rest_between giver taker flows = sum_by (λ f. cond (eqb f.near giver && eqb f.far taker) f.rest 0) flows

unfoldable pub now_between : ℕ → ℕ → List Flow → ℕ
now_between giver taker flows = sum_by (λ f. cond (eqb f.near giver && eqb f.far taker) f.now 0) flows

-- a plan of so many waves less than are enough
pub record IsPartial (left max_sending max_receiving : ℕ) (routes : List Route) (flows : List Flow) (plan : List (List Route)) : Type 0 where
  pub fits : Fits flows
  pub nothing : NothingNow flows
  pub enough : IsEnough left max_sending max_receiving flows
  pub ends : map ends flows ≡ map ends (map flow_of routes)
  pub waves : All (IsWave max_sending max_receiving) plan
  pub sums : (giver taker : ℕ) → sum_by (λ wave. between giver taker wave) plan + rest_between giver taker flows ≡ between giver taker routes

-- ---- at first

module _ (sets max_sending max_receiving waves : ℕ) (routes : List Route) (can : CanPlan sets max_sending max_receiving routes)
    (least : AreLeastWaves waves (sets + 1) max_sending max_receiving routes) (numbered : All HasSetNos routes) where
  near_rest-first : (s : ℕ) → near_rest s (map flow_of routes) ≡ given s routes
  unfolding near_rest
  near_rest-first s = sum_by-map (λ (f : Flow). cond (eqb f.near s) f.rest 0) flow_of routes

  far_rest-first : (s : ℕ) → far_rest s (map flow_of routes) ≡ taken s routes
  unfolding far_rest
  far_rest-first s = sum_by-map (λ (f : Flow). cond (eqb f.far s) f.rest 0) flow_of routes

  all_rest-first : all_rest (map flow_of routes) ≡ moved routes
  unfolding all_rest
  all_rest-first = sum_by-map (λ (f : Flow). f.rest) flow_of routes

  loads_first : (s : ℕ) → (given s routes ≤ waves * max_sending) × (taken s routes ≤ waves * max_receiving)
  loads_first s = elim (cases_lt 0 s) [
    | inl some ↦ elim (cases_lt s (sets + 1)) [
      | inl among ↦ sides_within max_sending max_receiving routes can.one_way s waves (least.enough s some among)
      | inr past ↦ (
        omega (arith, given-none s routes (All-weaker (λ (r : Route). (r.giver ≤ sets) × (r.taker ≤ sets)) (λ r. r.giver ≢ s) (λ r h e. omega (arith, h.0, e, past)) routes can.named)),
        omega (arith, taken-none s routes (All-weaker (λ (r : Route). (r.giver ≤ sets) × (r.taker ≤ sets)) (λ r. r.taker ≢ s) (λ r h e. omega (arith, h.1, e, past)) routes can.named)),
      )
    ]
    | inr none ↦ (
      omega (arith, given-none s routes (All-weaker HasSetNos (λ r. r.giver ≢ s) (λ r h e. omega (arith, h.0.0, e, none)) routes numbered)),
      omega (arith, taken-none s routes (All-weaker HasSetNos (λ r. r.taker ≢ s) (λ r h e. omega (arith, h.1.0, e, none)) routes numbered)),
    )
  ]

  rest_between-first : (giver taker : ℕ) → rest_between giver taker (map flow_of routes) ≡ between giver taker routes
  unfolding rest_between
  rest_between-first giver taker = sum_by-map (λ (f : Flow). cond (eqb f.near giver && eqb f.far taker) f.rest 0) flow_of routes

  pub IsPartial-first : IsPartial waves max_sending max_receiving routes (map flow_of routes) []
  IsPartial-first = record {
    fits = record {
      near = All-map (λ (f : Flow). (1 ≤ f.near) × (f.near < 33)) flow_of routes (All-weaker HasSetNos (λ r. (1 ≤ r.giver) × (r.giver < 33)) (λ r h. (h.0.0, omega (arith, h.0.1))) routes numbered);
      far = All-map (λ (f : Flow). (1 ≤ f.far) × (f.far < 33)) flow_of routes (All-weaker HasSetNos (λ r. (1 ≤ r.taker) × (r.taker < 33)) (λ r h. (h.1.0, omega (arith, h.1.1))) routes numbered);
      within = All-map (λ (f : Flow). f.now ≤ f.rest) flow_of routes (λ k d inside. omega arith);
      few = omega (arith, all_rest-first, can.few);
    };
    nothing = All-map (λ (f : Flow). f.now ≡ 0) flow_of routes (λ k d inside. refl);
    enough = record {
      near = λ s. omega (arith, near_rest-first s, (loads_first s).0);
      far = λ s. omega (arith, far_rest-first s, (loads_first s).1);
    };
    ends = refl;
    waves = All-nil (IsWave max_sending max_receiving);
    sums = λ giver taker. omega (arith, rest_between-first giver taker);
  }

  -- where there is a route, some set forces the number
  pub HasForced-first : routes ≢ [] → HasForced waves sets max_sending max_receiving routes
  HasForced-first some = elim (cases_lt 0 waves) [
    | inl more ↦ let f = least.forced more in (f.0, f.1, omega (arith, f.2), f.3)
    | inr none ↦ absurd (no_moves routes some can.listed.0 (λ s. omega (arith, (loads_first s).0, zero_waves none)))
  ]
    where
      zero_waves : waves ≤ 0 → waves * max_sending ≡ 0
      zero_waves none = let e : waves ≡ 0 = omega arith in rw e (omega arith)

      no_moves : (xs : List Route) → xs ≢ [] → All (λ (r : Route). 0 < r.number) xs → ((s : ℕ) → given s xs ≤ 0) → ⊥
      no_moves [] some positive given_none = some refl
      no_moves (r ∷ xs) some positive given_none =
          let number : 0 < r.number = positive 0 r (omega arith) in
          let here : cond (eqb r.giver r.giver) r.number 0 ≡ r.number = ap (λ (b : Bool). cond b r.number 0) (eq-eqb r.giver r.giver refl) in
          omega (arith, number, here, given_none r.giver, sum_by-cons (λ (x : Route). cond (eqb x.giver r.giver) x.number 0) r xs)

-- ---- one wave more

rest_between-same : (giver taker : ℕ) (old new : List Flow) → map bare new ≡ map bare old → rest_between giver taker new ≡ rest_between giver taker old
unfolding rest_between
rest_between-same giver taker old new routes =
    let f : Flow → ℕ = λ x. cond (eqb x.near giver && eqb x.far taker) x.rest 0 in
    sym (sum_by-map f bare new) ∙ ap (sum_by f) routes ∙ sum_by-map f bare old

rest_between-after_wave : (giver taker : ℕ) (flows : List Flow) → Fits flows → rest_between giver taker (map after_wave flows) + now_between giver taker flows ≡ rest_between giver taker flows
unfolding rest_between now_between
rest_between-after_wave giver taker flows fits =
    let p : Flow → Bool = λ f. eqb f.near giver && eqb f.far taker in
    let less = sum_by-all_le (λ f. cond (p f) (f.rest - f.now) 0 + cond (p f) f.now 0) (λ f. cond (p f) f.rest 0) flows
    (All-weaker (λ (f : Flow). f.now ≤ f.rest) (λ f. cond (p f) (f.rest - f.now) 0 + cond (p f) f.now 0 ≤ cond (p f) f.rest 0) (λ f within. omega (arith, parted (p f) f.now f.rest within)) flows fits.within) in
    let more = sum_by-all_le (λ f. cond (p f) f.rest 0) (λ f. cond (p f) (f.rest - f.now) 0 + cond (p f) f.now 0) flows
    (All-weaker (λ (f : Flow). f.now ≤ f.rest) (λ f. cond (p f) f.rest 0 ≤ cond (p f) (f.rest - f.now) 0 + cond (p f) f.now 0) (λ f within. omega (arith, parted (p f) f.now f.rest within)) flows fits.within) in
    omega (arith, sum_by-map (λ f. cond (p f) f.rest 0) after_wave flows, sum_by-add (λ f. cond (p f) (f.rest - f.now) 0) (λ f. cond (p f) f.now 0) flows, less, more)
  where
    parted : (b : Bool) (now rest : ℕ) → now ≤ rest → cond b (rest - now) 0 + cond b now 0 ≡ cond b rest 0
    parted true now rest within = omega arith
    parted false now rest within = refl

now_between-moves : (giver taker : ℕ) (flows : List Flow) → between giver taker (flat_map move_of flows) ≡ now_between giver taker flows
unfolding now_between
now_between-moves giver taker flows = passing-moves (λ a b. eqb a giver && eqb b taker) flows

ends-bare : (flows : List Flow) → map ends (map bare flows) ≡ map ends flows
ends-bare flows = map-map ends bare flows

ends-after_wave : (flows : List Flow) → map ends (map after_wave flows) ≡ map ends flows
ends-after_wave flows = map-map ends after_wave flows

Fits-after_wave : (flows : List Flow) → Fits flows → Fits (map after_wave flows)
unfolding all_rest
Fits-after_wave flows fits = record {
  near = All-map (λ (f : Flow). (1 ≤ f.near) × (f.near < 33)) after_wave flows fits.near;
  far = All-map (λ (f : Flow). (1 ≤ f.far) × (f.far < 33)) after_wave flows fits.far;
  within = All-map (λ (f : Flow). f.now ≤ f.rest) after_wave flows (λ k d inside. omega arith);
  few = omega (arith, sum_by-map (λ (f : Flow). f.rest) after_wave flows, sum_by-all_le (λ (f : Flow). f.rest - f.now) (λ (f : Flow). f.rest) flows (λ k d inside. omega arith), fits.few);
}

module _ (left max_sending max_receiving : ℕ) (routes : List Route) (ordered : AllPairs IsBefore routes) (flows : List Flow) (plan : List (List Route))
    (partial : IsPartial (left + 1) max_sending max_receiving routes flows plan)
    (laid : List Flow) (is : IsLaid left max_sending max_receiving flows laid) where
  ends_laid : map ends laid ≡ map ends (map flow_of routes)
  ends_laid = sym (ends-bare laid) ∙ ap (map ends) is.routes ∙ ends-bare flows ∙ partial.ends

  pub IsPartial-more : IsPartial left max_sending max_receiving routes (map after_wave laid) (plan ++ flat_map move_of laid ∷ [])
  IsPartial-more = record {
    fits = Fits-after_wave laid is.fits;
    nothing = All-map (λ (f : Flow). f.now ≡ 0) after_wave laid (λ k d inside. refl);
    enough = is.enough;
    ends = ends-after_wave laid ∙ ends_laid;
    waves = All-push (IsWave max_sending max_receiving) plan (flat_map move_of laid) partial.waves (IsWave-moves laid routes ends_laid max_sending max_receiving ordered is.near_most is.far_most);
    sums = λ giver taker. omega (arith, partial.sums giver taker, sum_by_push (λ wave. between giver taker wave) plan (flat_map move_of laid), now_between-moves giver taker laid, rest_between-after_wave giver taker laid is.fits, rest_between-same giver taker flows laid is.routes);
  }

-- ---- at the end

rest_between-within : (giver taker : ℕ) (flows : List Flow) → rest_between giver taker flows ≤ near_rest giver flows
unfolding rest_between near_rest
rest_between-within giver taker flows =
    sum_by-all_le (λ (f : Flow). cond (eqb f.near giver && eqb f.far taker) f.rest 0) (λ (f : Flow). cond (eqb f.near giver) f.rest 0) flows (λ k d inside. both_within (eqb (get_or flows k d).near giver) (eqb (get_or flows k d).far taker) (get_or flows k d).rest)
  where
    both_within : (a b : Bool) (n : ℕ) → cond (a && b) n 0 ≤ cond a n 0
    both_within true true n = omega arith
    both_within true false n = omega arith
    both_within false b n = omega arith

pub right_at_end : (left max_sending max_receiving : ℕ) (routes : List Route) (flows : List Flow) (plan : List (List Route)) → left ≤ 0
    → IsPartial left max_sending max_receiving routes flows plan → IsRightPlan max_sending max_receiving routes plan
right_at_end left max_sending max_receiving routes flows plan none partial =
    let zero_left : left * max_sending ≡ 0 = (let e : left ≡ 0 = omega arith in rw e (omega arith)) in
    record {
      waves = partial.waves;
      sums = λ giver taker. omega (arith, partial.sums giver taker, rest_between-within giver taker flows, partial.enough.near giver, zero_left);
    }

-- ---- the moves that are read so far

pub move_of-some : (f : Flow) → 0 < f.now → move_of f ≡ record { giver = f.near; taker = f.far; number = f.now } ∷ []
move_of-some f some = ap (λ (b : Bool). cond b (record { giver = f.near; taker = f.far; number = f.now } ∷ []) []) (lt-ltb 0 f.now some)

pub move_of-none : (f : Flow) → f.now ≤ 0 → move_of f ≡ []
move_of-none f none = ap (λ (b : Bool). cond b (record { giver = f.near; taker = f.far; number = f.now } ∷ []) []) (le-ltb 0 f.now none)

flat_map-push : (xs : List Flow) (x : Flow) → flat_map move_of (xs ++ x ∷ []) ≡ flat_map move_of xs ++ move_of x
flat_map-push [] x = append-nil (move_of x)
flat_map-push (y ∷ xs) x = ap (λ (ms : List Route). move_of y ++ ms) (flat_map-push xs x) ∙ sym (append_assoc (move_of y) (flat_map move_of xs) (move_of x))

pub moves_more : (flows : List Flow) (i : ℕ) (d : Flow) → i < length flows → flat_map move_of (take (i + 1) flows) ≡ flat_map move_of (take i flows) ++ move_of (get_or flows i d)
moves_more flows i d inside = ap (λ (fs : List Flow). flat_map move_of fs) (take_more flows i d inside) ∙ flat_map-push (take i flows) (get_or flows i d)
