-- The numbers of a sharing, one weight after another, and their sum.
use Rattle.std.proofs.Common.{inl, inr, ◌≡◌, ℕ, ◌+◌, ◌-◌, ◌*◌, ◌/◌, ◌%◌, ◌<◌, ◌≤◌, min, Bool, true, List, [], ◌∷◌, ◌++◌, map, take, length, refl, ap, sym, ◌∙◌, arith, append_assoc, sum, zero, suc}
use Rattle.std.specs.Prelude.{◌&&◌, nat_lt, if◌then◌else◌, ◌⊎◌}
use Rattle.std.specs.List.{sum_by, count_by, enumerate_from}
use Rattle.std.proofs.lemmas.List.{take_at, length_push}
use Rattle.std.proofs.lemmas.List.Sums.{sum_by-cons, sum_by_push}
use Rattle.std.proofs.lemmas.Bool.Decides.{nat_tests}
use Rattle.std.proofs.lemmas.Bool.{lt-ltb, le-ltb, cases_lt}
use Rattle.std.proofs.Math.Nat.{div-add-mod, mul-zero, zero-div, zero-mod, mul-le-mul_left, le_of_mul-le-mul_left, lt_of_mul-lt-mul_left}
use Rattle.vs_balance.specs.Sharing.{rounded_up, is_broken, surplus, number_with, numbers_of}

abbrev pub one_if : Bool → ℕ
one_if b = if b then 1 else 0

-- the numbers in a row, from so many left on
abbrev pub numbers_from : ℕ → ℕ → ℕ → List ℕ → List ℕ
numbers_from buckets total left [] = []
numbers_from buckets total left (weight ∷ weights) =
    number_with buckets total left weight ∷ numbers_from buckets total (left - one_if (is_broken buckets total weight)) weights

rounding : (total whole rest x : ℕ) → total * whole + rest ≡ x → rest < total → (x ≤ total * (whole + min 1 rest)) × (total * (whole + min 1 rest) ≤ x + total * one_if (nat_lt 0 rest))
rounding total whole zero x is less = (omega arith, omega arith)
rounding total whole (suc rest) x is less =
    let tested : nat_lt 0 (suc rest) ≡ true = lt-ltb 0 (suc rest) (omega arith) in
    let one : min 1 (suc rest) ≡ 1 = omega arith in
    rw (tested, one) (omega arith, omega arith)

module _ (buckets total : ℕ) (positive : 0 < total) where
  -- a share rounded up is at least the share, and less than one above it
  rounded_up_bounds : (weight : ℕ) → (buckets * weight ≤ total * rounded_up buckets total weight) × (total * rounded_up buckets total weight ≤ buckets * weight + total * one_if (is_broken buckets total weight))
  rounded_up_bounds weight = rounding total (buckets * weight / total) (buckets * weight % total) (buckets * weight) (div-add-mod (buckets * weight) total) (omega arith)

  rounded_up_sum : (weights : List ℕ) → (buckets * sum weights ≤ total * sum_by (rounded_up buckets total) weights) × (total * sum_by (rounded_up buckets total) weights ≤ buckets * sum weights + total * count_by (is_broken buckets total) weights)
  rounded_up_sum [] = (omega arith, omega arith)
  rounded_up_sum (weight ∷ weights) =
      let here = rounded_up_bounds weight in
      let rest = rounded_up_sum weights in
      let ups : sum_by (rounded_up buckets total) (weight ∷ weights) ≡ rounded_up buckets total weight + sum_by (rounded_up buckets total) weights = sum_by-cons _ weight weights in
      let all : sum (weight ∷ weights) ≡ weight + sum weights = sum_by-cons _ weight weights in
      let broken : count_by (is_broken buckets total) (weight ∷ weights) ≡ one_if (is_broken buckets total weight) + count_by (is_broken buckets total) weights = sum_by-cons _ weight weights in
      rw (ups, all, broken) (omega arith, omega arith)

one_back : (whole rest left count : ℕ) → (whole + min 1 rest - one_if (nat_lt 0 rest && nat_lt 0 left)) + min left (one_if (nat_lt 0 rest) + count) ≡ whole + min 1 rest + min (left - one_if (nat_lt 0 rest)) count
one_back whole rest left count = grind (arith, nat_tests)

-- what is given back is the smaller of what is left and the broken shares
given_back : (buckets total left : ℕ) (weights : List ℕ) → sum (numbers_from buckets total left weights) + min left (count_by (is_broken buckets total) weights) ≡ sum_by (rounded_up buckets total) weights
given_back buckets total left [] = omega arith
given_back buckets total left (weight ∷ weights) =
    let rest = given_back buckets total (left - one_if (is_broken buckets total weight)) weights in
    let ups : sum_by (rounded_up buckets total) (weight ∷ weights) ≡ rounded_up buckets total weight + sum_by (rounded_up buckets total) weights = sum_by-cons _ weight weights in
    let broken : count_by (is_broken buckets total) (weight ∷ weights) ≡ one_if (is_broken buckets total weight) + count_by (is_broken buckets total) weights = sum_by-cons _ weight weights in
    let numbers : sum (numbers_from buckets total left (weight ∷ weights)) ≡ number_with buckets total left weight + sum (numbers_from buckets total (left - one_if (is_broken buckets total weight)) weights) = sum_by-cons (λ x. x) (number_with buckets total left weight) (numbers_from buckets total (left - one_if (is_broken buckets total weight)) weights) in
    let here = one_back (buckets * weight / total) (buckets * weight % total) left (count_by (is_broken buckets total) weights) in
    rw (ups, broken, numbers) (omega (arith, here, rest))

-- the numbers are those of the definition
numbers_on : (buckets total all_surplus : ℕ) (before weights all : List ℕ) → all ≡ before ++ weights →
    map (λ (p : ℕ × ℕ). rounded_up buckets total p.1 - one_if (is_broken buckets total p.1 && nat_lt (count_by (is_broken buckets total) (take p.0 all)) all_surplus)) (enumerate_from (length before) weights)
    ≡ numbers_from buckets total (all_surplus - count_by (is_broken buckets total) before) weights
numbers_on buckets total all_surplus before [] all is = refl
numbers_on buckets total all_surplus before (weight ∷ weights) all is =
    let broken = is_broken buckets total in
    let front : take (length before) all ≡ before = ap (take (length before)) is ∙ take_at before (weight ∷ weights) (length before) refl in
    let tested : nat_lt (count_by broken before) all_surplus ≡ nat_lt 0 (all_surplus - count_by broken before) = grind (arith, nat_tests) in
    let longer : length (before ++ weight ∷ []) ≡ length before + 1 = length_push before weight in
    let counted : count_by broken (before ++ weight ∷ []) ≡ count_by broken before + one_if (broken weight) = sum_by_push _ before weight in
    let fewer : all_surplus - count_by broken (before ++ weight ∷ []) ≡ all_surplus - count_by broken before - one_if (broken weight) = omega arith in
    let rest = numbers_on buckets total all_surplus (before ++ weight ∷ []) weights all (is ∙ sym (append_assoc before (weight ∷ []) weights)) in
    let rest' = rw (longer, fewer) at rest in
    rw (front, tested) (ap (λ (xs : List ℕ). number_with buckets total (all_surplus - count_by broken before) weight ∷ xs) rest')

pub numbers_in_a_row : (buckets : ℕ) (weights : List ℕ) → numbers_of buckets weights ≡ numbers_from buckets (sum weights) (surplus buckets weights) weights
unfolding numbers_of
numbers_in_a_row buckets weights =
    let all : surplus buckets weights - 0 ≡ surplus buckets weights = omega arith in
    rw all at (numbers_on buckets (sum weights) (surplus buckets weights) [] weights weights refl)

pub sum_by-map : {X Y : Type 0} (f : Y → ℕ) (g : X → Y) (xs : List X) → sum_by f (map g xs) ≡ sum_by (λ x. f (g x)) xs
sum_by-map f g [] = refl
sum_by-map f g (x ∷ xs) = sum_by-cons f (g x) (map g xs) ∙ ap (λ n. f (g x) + n) (sum_by-map f g xs) ∙ sym (sum_by-cons (λ y. f (g y)) x xs)

-- the shares rounded up are enough
pub rounded_up_enough : (buckets : ℕ) (weights : List ℕ) → 0 < sum weights → buckets ≤ sum_by (rounded_up buckets (sum weights)) weights
rounded_up_enough buckets weights positive = le_of_mul-le-mul_left {k = sum weights} (omega (arith, (rounded_up_sum buckets (sum weights) positive weights).0)) positive

-- they sum to what is shared out
pub sum-numbers_of : (buckets : ℕ) (weights : List ℕ) → 0 < sum weights → sum (numbers_of buckets weights) ≡ buckets
sum-numbers_of buckets weights positive =
    let bounds = rounded_up_sum buckets (sum weights) positive weights in
    let ups = sum_by (rounded_up buckets (sum weights)) weights in
    let broken = count_by (is_broken buckets (sum weights)) weights in
    let low = rounded_up_enough buckets weights positive in
    let high : ups ≤ buckets + broken = le_of_mul-le-mul_left {k = sum weights} (omega (arith, bounds.1)) positive in
    let back = given_back buckets (sum weights) (surplus buckets weights) weights in
    ap sum (numbers_in_a_row buckets weights) ∙ omega (arith, back, low, high)

-- no weight has no share
pub number-weightless : (buckets total left : ℕ) → number_with buckets total left 0 ≡ 0
number-weightless buckets total left = rw (mul-zero buckets, zero-div total, zero-mod total) refl

-- a share of what is shared out is no more than that
pub rounded_up-le : (buckets total weight : ℕ) → 0 < total → weight ≤ total → rounded_up buckets total weight ≤ buckets
rounded_up-le buckets total weight positive part =
    within (buckets * weight / total) (buckets * weight % total) (div-add-mod (buckets * weight) total)
  where
    within : (whole rest : ℕ) → total * whole + rest ≡ buckets * weight → whole + min 1 rest ≤ buckets
    within whole zero is =
        let product : buckets * weight ≤ buckets * total = mul-le-mul_left buckets part in
        let least : whole ≤ buckets = le_of_mul-le-mul_left {k = total} (omega arith) positive in
        omega arith
    within whole (suc rest) is =
        let product : buckets * weight ≤ buckets * total = mul-le-mul_left buckets part in
        let least : whole < buckets = lt_of_mul-lt-mul_left total (omega arith) in
        omega arith

pub number-le : (buckets total left weight : ℕ) → 0 < total → weight ≤ total → number_with buckets total left weight ≤ buckets
number-le buckets total left weight positive part = omega (arith, rounded_up-le buckets total weight positive part)

-- a number is the share rounded up, or rounded down
pub number-rounded : (buckets total left weight : ℕ) → (number_with buckets total left weight ≡ rounded_up buckets total weight) ⊎ (number_with buckets total left weight ≡ buckets * weight / total)
number-rounded buckets total left weight = by_rest (buckets * weight / total) (buckets * weight % total)
  where
    by_rest : (whole rest : ℕ) → (whole + min 1 rest - one_if (nat_lt 0 rest && nat_lt 0 left) ≡ whole + min 1 rest) ⊎ (whole + min 1 rest - one_if (nat_lt 0 rest && nat_lt 0 left) ≡ whole)
    by_rest whole zero = inl (omega arith)
    by_rest whole (suc rest) = elim (cases_lt 0 left) [
      | inl some ↦ inr (rw (lt-ltb 0 (suc rest) (omega arith), lt-ltb 0 left some) (omega arith))
      | inr spent ↦ inl (rw (lt-ltb 0 (suc rest) (omega arith), le-ltb 0 left spent) (omega arith))
    ]
