-- A wave laid out from both sides, and what is left after it.
use Rattle.std.proofs.Common.{◌≡◌, ℕ, ◌+◌, ◌-◌, ◌*◌, ◌<◌, ◌≤◌, Bool, true, false, cond, eqb, List, [], ◌∷◌, map, get_or, refl, ap, sym, ◌∙◌, arith, inl, inr}
use Rattle.std.specs.List.{All}
use Rattle.std.proofs.Math.Nat.{mul-le-mul_left}
use Rattle.std.proofs.lemmas.List.{get_or_past}
use Rattle.std.proofs.lemmas.List.Elements.{All-map, All-weaker}
use Rattle.std.proofs.lemmas.Bool.{cases_lt, ne_eqb}
use Rattle.vs_waves.specs.declared.flow.Flow.{Flow}
use Rattle.vs_waves.specs.Flows.{near_now, far_now, near_rest, far_rest, all_rest, bare, mirrored, after_wave, Fits, FarWithin, HasShare, IsFilled, AreLows, NothingNow, IsEnough, IsLaid}
use Rattle.vs_waves.proofs.OneMore.{sum_by-map, near_rest-same, far_rest-same}
use Rattle.vs_waves.proofs.Parts.{sum_by-add, sum_by-all_le, sum_by-zero}

-- ---- the other side

pub near_now-mirrored : (s : ℕ) (flows : List Flow) → near_now s (map mirrored flows) ≡ far_now s flows
unfolding near_now far_now
near_now-mirrored s flows = sum_by-map (λ (f : Flow). cond (eqb f.near s) f.now 0) mirrored flows

pub far_now-mirrored : (s : ℕ) (flows : List Flow) → far_now s (map mirrored flows) ≡ near_now s flows
unfolding near_now far_now
far_now-mirrored s flows = sum_by-map (λ (f : Flow). cond (eqb f.far s) f.now 0) mirrored flows

pub near_rest-mirrored : (s : ℕ) (flows : List Flow) → near_rest s (map mirrored flows) ≡ far_rest s flows
unfolding near_rest far_rest
near_rest-mirrored s flows = sum_by-map (λ (f : Flow). cond (eqb f.near s) f.rest 0) mirrored flows

pub far_rest-mirrored : (s : ℕ) (flows : List Flow) → far_rest s (map mirrored flows) ≡ near_rest s flows
unfolding near_rest far_rest
far_rest-mirrored s flows = sum_by-map (λ (f : Flow). cond (eqb f.far s) f.rest 0) mirrored flows

all_rest-mirrored : (flows : List Flow) → all_rest (map mirrored flows) ≡ all_rest flows
unfolding all_rest
all_rest-mirrored flows = sum_by-map (λ (f : Flow). f.rest) mirrored flows

pub map-map : {X Y Z : Type 0} (f : Y → Z) (g : X → Y) (xs : List X) → map f (map g xs) ≡ map (λ x. f (g x)) xs
map-map f g [] = refl
map-map {Z = Z} f g (x ∷ xs) = ap (λ (ys : List Z). f (g x) ∷ ys) (map-map f g xs)

bare-mirrored : (flows : List Flow) → map bare (map mirrored flows) ≡ map mirrored (map bare flows)
bare-mirrored flows = map-map bare mirrored flows ∙ sym (map-map mirrored bare flows)

mirrored-mirrored : (flows : List Flow) → map mirrored (map mirrored flows) ≡ flows
mirrored-mirrored [] = refl
mirrored-mirrored (f ∷ flows) = ap (λ (fs : List Flow). f ∷ fs) (mirrored-mirrored flows)

pub Fits-mirrored : (flows : List Flow) → Fits flows → Fits (map mirrored flows)
Fits-mirrored flows fits = record {
  near = All-map (λ (f : Flow). (1 ≤ f.near) × (f.near < 33)) mirrored flows fits.far;
  far = All-map (λ (f : Flow). (1 ≤ f.far) × (f.far < 33)) mirrored flows fits.near;
  within = All-map (λ (f : Flow). f.now ≤ f.rest) mirrored flows fits.within;
  few = omega (arith, all_rest-mirrored flows, fits.few);
}

-- ---- nothing yet

pub near_now-none : (s : ℕ) (flows : List Flow) → NothingNow flows → near_now s flows ≡ 0
unfolding near_now
near_now-none s flows none =
    let within = sum_by-all_le (λ (f : Flow). cond (eqb f.near s) f.now 0) (λ (f : Flow). 0) flows (All-weaker (λ (f : Flow). f.now ≡ 0) (λ (f : Flow). cond (eqb f.near s) f.now 0 ≤ 0) (λ f is. zero_at (eqb f.near s) f.now is) flows none) in
    omega (arith, within, sum_by-zero flows)
  where
    zero_at : (b : Bool) (n : ℕ) → n ≡ 0 → cond b n 0 ≤ 0
    zero_at true n is = omega arith
    zero_at false n is = omega arith

pub far_now-none : (s : ℕ) (flows : List Flow) → NothingNow flows → far_now s flows ≡ 0
far_now-none s flows none = sym (near_now-mirrored s flows) ∙ near_now-none s (map mirrored flows) (All-map (λ (f : Flow). f.now ≡ 0) mirrored flows none)

-- a number above those of the sets
near_rest-past : (s : ℕ) (flows : List Flow) → 33 ≤ s → Fits flows → near_rest s flows ≡ 0
unfolding near_rest
near_rest-past s flows past fits =
    let within = sum_by-all_le (λ (f : Flow). cond (eqb f.near s) f.rest 0) (λ (f : Flow). 0) flows (All-weaker (λ (f : Flow). (1 ≤ f.near) × (f.near < 33)) (λ (f : Flow). cond (eqb f.near s) f.rest 0 ≤ 0) (λ f h. omega (arith, ap (λ (b : Bool). cond b f.rest 0) (ne_eqb f.near s (λ e. omega (arith, h.1, past, e))))) flows fits.near) in
    omega (arith, within, sum_by-zero flows)

-- ---- the next wave

near_rest-after_wave : (s : ℕ) (flows : List Flow) → Fits flows → near_rest s (map after_wave flows) + near_now s flows ≤ near_rest s flows
unfolding near_rest near_now
near_rest-after_wave s flows fits =
    let each : All (λ (f : Flow). cond (eqb f.near s) (f.rest - f.now) 0 + cond (eqb f.near s) f.now 0 ≤ cond (eqb f.near s) f.rest 0) flows =
    All-weaker (λ (f : Flow). f.now ≤ f.rest) (λ (f : Flow). cond (eqb f.near s) (f.rest - f.now) 0 + cond (eqb f.near s) f.now 0 ≤ cond (eqb f.near s) f.rest 0) (λ f within. parted (eqb f.near s) f.now f.rest within) flows fits.within in
    omega (
      arith,
      sum_by-map (λ (f : Flow). cond (eqb f.near s) f.rest 0) after_wave flows,
      sum_by-add (λ (f : Flow). cond (eqb f.near s) (f.rest - f.now) 0) (λ (f : Flow). cond (eqb f.near s) f.now 0) flows,
      sum_by-all_le (λ (f : Flow). cond (eqb f.near s) (f.rest - f.now) 0 + cond (eqb f.near s) f.now 0) (λ (f : Flow). cond (eqb f.near s) f.rest 0) flows each,
    )
  where
    parted : (b : Bool) (now rest : ℕ) → now ≤ rest → cond b (rest - now) 0 + cond b now 0 ≤ cond b rest 0
    parted true now rest within = omega arith
    parted false now rest within = omega arith

far_rest-after_wave : (s : ℕ) (flows : List Flow) → Fits flows → far_rest s (map after_wave flows) + far_now s flows ≤ far_rest s flows
far_rest-after_wave s flows fits =
    let both : map mirrored (map after_wave flows) ≡ map after_wave (map mirrored flows) = map-map mirrored after_wave flows ∙ sym (map-map after_wave mirrored flows) in
    omega (arith, near_rest-after_wave s (map mirrored flows) (Fits-mirrored flows fits), near_rest-mirrored s (map after_wave flows), ap (near_rest s) both, near_now-mirrored s flows, near_rest-mirrored s flows)

-- ---- least numbers are a share

share_of : (left limit rest low : ℕ) → low ≡ rest - left * limit → rest ≤ (left + 1) * limit → (left + 1) * low ≤ rest
share_of left limit rest low is enough = elim (cases_lt (left * limit) rest) [
  | inl more ↦
      let within : left * low ≤ left * limit = mul-le-mul_left left (omega arith) in
      omega (arith, within)
  | inr all ↦
      let none : low ≡ 0 = omega arith in
      rw none (omega arith)
]

module _ (left limit : ℕ) (flows : List Flow) (lows : List ℕ) (are : AreLows left limit flows lows)
    (enough : (s : ℕ) → near_rest s flows ≤ (left + 1) * limit) where
  lows_share : (s : ℕ) → (left + 1) * get_or lows s 0 ≤ near_rest s flows
  lows_share s = elim (cases_lt s 33) [
    | inl inside ↦ share_of left limit (near_rest s flows) (get_or lows s 0) (are.each s inside) (enough s)
    | inr past ↦
        let none : get_or lows s 0 ≡ 0 = get_or_past lows s 0 (omega (arith, are.count)) in
        rw none (omega arith)
  ]

  lows_within : (s : ℕ) → get_or lows s 0 ≤ limit
  lows_within s = elim (cases_lt s 33) [
    | inl inside ↦ omega (arith, are.each s inside, enough s)
    | inr past ↦ omega (arith, get_or_past lows s 0 (omega (arith, are.count)))
  ]

-- ---- both sides

module _ (left near_limit far_limit : ℕ) (flows once twice : List Flow) (near_lows far_lows : List ℕ)
    (fits : Fits flows) (nothing : NothingNow flows) (enough : IsEnough (left + 1) near_limit far_limit flows)
    (are_near : AreLows left near_limit flows near_lows) where
  pub far_first : FarWithin far_limit flows
  far_first s = omega (arith, far_now-none s flows nothing)

  pub share_first : HasShare near_lows far_limit flows
  share_first = (
    left + 1,
    record {
      some = omega arith;
      near = lows_share left near_limit flows near_lows are_near enough.near;
      far = enough.far;
    },
  )

  module _ (filled : IsFilled near_lows far_limit 33 flows once) where
    pub fits_next : Fits (map mirrored once)
    fits_next = Fits-mirrored once filled.fits

    pub few_next : all_rest (map mirrored once) ≤ 30000
    few_next = fits_next.few

    pub far_next : FarWithin near_limit (map mirrored once)
    far_next s = omega (arith, far_now-mirrored s once, filled.most s, near_now-none s flows nothing, lows_within left near_limit flows near_lows are_near enough.near s)

    near_enough : (s : ℕ) → near_rest s (map mirrored once) ≤ (left + 1) * far_limit
    near_enough s = omega (arith, near_rest-mirrored s once, far_rest-same flows once filled.routes s, enough.far s)

    far_enough : (s : ℕ) → far_rest s (map mirrored once) ≤ (left + 1) * near_limit
    far_enough s = omega (arith, far_rest-mirrored s once, near_rest-same flows once filled.routes s, enough.near s)

    module _ (are_far : AreLows left far_limit (map mirrored once) far_lows) where
      pub share_next : HasShare far_lows near_limit (map mirrored once)
      share_next = (
        left + 1,
        record {
          some = omega arith;
          near = lows_share left far_limit (map mirrored once) far_lows are_far near_enough;
          far = far_enough;
        },
      )

      module _ (filled_far : IsFilled far_lows near_limit 33 (map mirrored once) twice) where
        routes_back : map bare (map mirrored twice) ≡ map bare flows
        routes_back =
            bare-mirrored twice ∙ ap (map mirrored) (filled_far.routes ∙ bare-mirrored once) ∙ mirrored-mirrored (map bare once) ∙ filled.routes

        fits_back : Fits (map mirrored twice)
        fits_back = Fits-mirrored twice filled_far.fits

        near_kept : (s : ℕ) → near_now s once ≤ near_now s (map mirrored twice)
        near_kept s = omega (arith, filled_far.far_kept s, far_now-mirrored s once, near_now-mirrored s twice)

        near_left : (s : ℕ) → near_rest s (map after_wave (map mirrored twice)) ≤ left * near_limit
        near_left s = elim (cases_lt s 33) [
          | inl inside ↦ omega (arith, near_rest-after_wave s (map mirrored twice) fits_back, near_rest-same flows (map mirrored twice) routes_back s, near_kept s, filled.least s inside, are_near.each s inside)
          | inr past ↦ omega (arith, near_rest-after_wave s (map mirrored twice) fits_back, near_rest-past s (map mirrored twice) past fits_back)
        ]

        far_past : (s : ℕ) → 33 ≤ s → far_rest s (map mirrored twice) ≡ 0
        far_past s past = far_rest-mirrored s twice ∙ near_rest-past s twice past filled_far.fits

        far_left : (s : ℕ) → far_rest s (map after_wave (map mirrored twice)) ≤ left * far_limit
        far_left s = elim (cases_lt s 33) [
          | inl inside ↦ omega (arith, far_rest-after_wave s (map mirrored twice) fits_back, far_now-mirrored s twice, filled_far.least s inside, are_far.each s inside, far_rest-same flows (map mirrored twice) routes_back s, near_rest-mirrored s once, far_rest-same flows once filled.routes s)
          | inr past ↦ omega (arith, far_rest-after_wave s (map mirrored twice) fits_back, far_past s past)
        ]

        pub laid : IsLaid left near_limit far_limit flows (map mirrored twice)
        laid = record {
          routes = routes_back;
          fits = fits_back;
          near_most = λ s. omega (arith, near_now-mirrored s twice, filled_far.far_most s);
          far_most = λ s. omega (arith, far_now-mirrored s twice, filled_far.most s, near_now-mirrored s once, filled.far_most s, lows_within left far_limit (map mirrored once) far_lows are_far near_enough s);
          enough = record { near = near_left; far = far_left };
        }
