-- A number of buckets, shared out in whole numbers in proportion to weights.
use Rattle.std.specs.Prelude.{ℕ, Bool, ◌-◌, ◌*◌, ◌%◌, ◌&&◌, nat_lt, if◌then◌else◌, List, map, take}
use Rattle.std.specs.List.{sum, sum_by, count_by, enumerate_from}
use Rattle.std.specs.Int.{div_ceil}

-- A share is `buckets * weight / total`, where `total` is the sum of the weights. Where that is 0,
-- so is each weight and each share.

-- the share, rounded up
abbrev pub rounded_up : ℕ → ℕ → ℕ → ℕ
rounded_up buckets total weight = div_ceil (buckets * weight) total

-- whether the share isn't a whole number
abbrev pub is_broken : ℕ → ℕ → ℕ → Bool
is_broken buckets total weight = nat_lt 0 (buckets * weight % total)

-- by how much the shares, each rounded up, exceed the buckets
abbrev pub surplus : ℕ → List ℕ → ℕ
surplus buckets weights = sum_by (rounded_up buckets (sum weights)) weights - buckets

-- The number of the weight at place i: its share rounded up, less one where its share is broken
-- and the broken shares before it are fewer than the surplus.
abbrev pub number_at : ℕ → List ℕ → ℕ → ℕ → ℕ
number_at buckets weights i weight =
    let total = sum weights in
    let before = count_by (is_broken buckets total) (take i weights) in
    let gives_back = is_broken buckets total weight && nat_lt before (surplus buckets weights) in
    rounded_up buckets total weight - (if gives_back then 1 else 0)

-- the number of a weight where so many of the surplus are left to be given back
abbrev pub number_with : ℕ → ℕ → ℕ → ℕ → ℕ
number_with buckets total left weight =
    let gives_back = is_broken buckets total weight && nat_lt 0 left in
    rounded_up buckets total weight - (if gives_back then 1 else 0)

-- the numbers of all weights
unfoldable pub numbers_of : ℕ → List ℕ → List ℕ
numbers_of buckets weights =
    map (λ (i, weight). number_at buckets weights i weight) (enumerate_from 0 weights)
