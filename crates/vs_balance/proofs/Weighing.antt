-- The sets that stay always have some weight, and what is shared out covers their pinned buckets.
use Rattle.std.proofs.Common.{◌≡◌, ℕ, ◌+◌, ◌-◌, ◌<◌, ◌≤◌, Bool, true, false, cond, List, [], ◌∷◌, map, length, get_or, refl, ap, sym, ◌∙◌, arith, sum, zero, suc, inl, inr, subst}
use Rattle.std.specs.Prelude.{◌&&◌, not, nat_lt, if◌then◌else◌}
use Rattle.std.specs.List.{sum_by, count_by, All}
use Rattle.std.proofs.lemmas.List.Sums.{sum_by-cons, sum_by-le-sum_by, get_or-le-sum_by, sum-map}
use Rattle.std.proofs.lemmas.List.Elements.{All-nil, All-cons, All-head, All-tail}
use Rattle.std.proofs.lemmas.List.{length-map}
use Rattle.std.proofs.lemmas.Bool.{lt-ltb}
use Rattle.vs_balance.specs.declared.view.SetView.{SetView}
use Rattle.vs_balance.specs.declared.member.Member.{Member}
use Rattle.vs_balance.specs.Sharing.{is_broken, surplus, number_with}
use Rattle.vs_balance.specs.Member.{stays, weight_of, weights_of, unlocked_count, kept_count, shared_count, leave, next, repeated, CanShare}
use Rattle.vs_balance.proofs.Shares.{one_if, numbers_from, numbers_in_a_row, number-weightless, sum-numbers_of, sum_by-map}
use Rattle.vs_balance.proofs.Leaving.{left_from, next_in_a_row, next-in_a_row, leave_cases, next-repeated, stands_after_length}

abbrev pub IsPinnedWithin : Member → Type 0
IsPinnedWithin m = m.view.pinned ≤ m.view.count

-- what a set adds to what is shared out
abbrev pub buckets_of : Member → ℕ
buckets_of m = unlocked_count m.view - kept_count m

abbrev pub pinned_staying : Member → ℕ
pinned_staying m = if stays m then m.view.pinned else 0

kept_within : (m : Member) → IsPinnedWithin m → kept_count m ≤ unlocked_count m.view
kept_within m pinned = by_cases m.view.locked m.left
  where
    by_cases : (locked left : Bool) → cond (not locked && left) m.view.pinned 0 ≤ cond locked 0 m.view.count
    by_cases true left = omega arith
    by_cases false true = pinned
    by_cases false false = omega arith

staying_within : (m : Member) → IsPinnedWithin m → pinned_staying m ≤ buckets_of m
staying_within m pinned = by_cases m.view.locked m.left
  where
    by_cases : (locked left : Bool) → cond (not locked && not left) m.view.pinned 0 ≤ cond locked 0 m.view.count - cond (not locked && left) m.view.pinned 0
    by_cases true left = omega arith
    by_cases false true = omega arith
    by_cases false false = omega (arith, pinned)

shared_sums : (members : List Member) → All IsPinnedWithin members → sum_by buckets_of members + sum_by kept_count members ≡ sum_by (λ m. unlocked_count m.view) members
shared_sums [] pinned = omega arith
shared_sums (m ∷ members) pinned =
    let here = kept_within m (All-head IsPinnedWithin m members pinned) in
    let rest = shared_sums members (All-tail IsPinnedWithin m members pinned) in
    let a : sum_by buckets_of (m ∷ members) ≡ buckets_of m + sum_by buckets_of members = sum_by-cons _ m members in
    let b : sum_by kept_count (m ∷ members) ≡ kept_count m + sum_by kept_count members = sum_by-cons _ m members in
    let c : sum_by (λ x. unlocked_count x.view) (m ∷ members) ≡ unlocked_count m.view + sum_by (λ x. unlocked_count x.view) members = sum_by-cons _ m members in
    rw (a, b, c) (omega (arith, here, rest))

-- what is shared out, as a sum over the sets
pub shared_count-sum : (members : List Member) → All IsPinnedWithin members → shared_count members ≡ sum_by buckets_of members
shared_count-sum members pinned = omega (arith, shared_sums members pinned)

pub kept_below : (members : List Member) → All IsPinnedWithin members → sum_by kept_count members ≤ sum_by (λ m. unlocked_count m.view) members
kept_below members pinned = omega (arith, shared_sums members pinned)

staying_below : (members : List Member) → All IsPinnedWithin members → sum_by pinned_staying members ≤ sum_by buckets_of members
staying_below [] pinned = omega arith
staying_below (m ∷ members) pinned =
    let here = staying_within m (All-head IsPinnedWithin m members pinned) in
    let rest = staying_below members (All-tail IsPinnedWithin m members pinned) in
    let a : sum_by buckets_of (m ∷ members) ≡ buckets_of m + sum_by buckets_of members = sum_by-cons _ m members in
    let b : sum_by pinned_staying (m ∷ members) ≡ pinned_staying m + sum_by pinned_staying members = sum_by-cons _ m members in
    rw (a, b) (omega (arith, here, rest))

-- Where all weight would leave, the pinned counts of the sets that stay would exceed what is shared out.

abbrev heavy : ℕ → Bool
heavy weight = nat_lt 0 weight

heavy_leaves : (m : Member) (n : ℕ) → (weight_of m ≡ 0 → n ≡ 0) → weight_of (leave m n) ≡ 0 → n + one_if (heavy (weight_of m)) ≤ pinned_staying m
heavy_leaves m n light gone = elim (leave_cases m n) [
  | inl same ↦
      let none : weight_of m ≡ 0 = sym (ap weight_of same) ∙ gone in
      rw none (omega (arith, light none))
  | inr left ↦
      let stayed : pinned_staying m ≡ m.view.pinned = ap (λ (b : Bool). cond b m.view.pinned 0) left.0 in
      let once : one_if (heavy (weight_of m)) ≤ 1 = elim (heavy (weight_of m)) as (λ b. one_if b ≤ 1) [ true ↦ omega arith | false ↦ omega arith ] in
      rw stayed (omega (arith, left.2, once))
]

all_leave : (buckets total left : ℕ) (members : List Member) → sum (weights_of (left_from buckets total left members)) ≡ 0 → sum (numbers_from buckets total left (weights_of members)) + count_by heavy (weights_of members) ≤ sum_by pinned_staying members
all_leave buckets total left [] gone = omega arith
all_leave buckets total left (m ∷ members) gone =
    let n = number_with buckets total left (weight_of m) in
    let after = left - one_if (is_broken buckets total (weight_of m)) in
    let rest = left_from buckets total after members in
    let weights : sum (weight_of (leave m n) ∷ weights_of rest) ≡ weight_of (leave m n) + sum (weights_of rest) = sum_by-cons (λ x. x) (weight_of (leave m n)) (weights_of rest) in
    let light : weight_of m ≡ 0 → n ≡ 0 = λ none. ap (number_with buckets total left) none ∙ number-weightless buckets total left in
    let here = heavy_leaves m n light (omega (arith, weights, gone)) in
    let others = all_leave buckets total after members (omega (arith, weights, gone)) in
    let a : sum (n ∷ numbers_from buckets total after (weights_of members)) ≡ n + sum (numbers_from buckets total after (weights_of members)) = sum_by-cons (λ x. x) n (numbers_from buckets total after (weights_of members)) in
    let b : count_by heavy (weight_of m ∷ weights_of members) ≡ one_if (heavy (weight_of m)) + count_by heavy (weights_of members) = sum_by-cons _ (weight_of m) (weights_of members) in
    let c : sum_by pinned_staying (m ∷ members) ≡ pinned_staying m + sum_by pinned_staying members = sum_by-cons _ m members in
    rw (a, b, c) (omega (arith, here, others))

none_heavy : (weights : List ℕ) → count_by heavy weights ≡ 0 → sum weights ≡ 0
none_heavy [] none = refl
none_heavy (weight ∷ weights) none =
    let a : count_by heavy (weight ∷ weights) ≡ one_if (heavy weight) + count_by heavy weights = sum_by-cons _ weight weights in
    let b : sum (weight ∷ weights) ≡ weight + sum weights = sum_by-cons _ weight weights in
    let rest : sum weights ≡ 0 = none_heavy weights (omega (arith, a, none)) in
    let here : weight ≡ 0 = light weight (omega (arith, a, none)) in
    b ∙ omega (arith, here, rest)
  where
    light : (w : ℕ) → one_if (heavy w) ≡ 0 → w ≡ 0
    light zero is = refl
    light (suc w) is = absurd (omega (arith, sym is ∙ ap one_if (lt-ltb 0 (suc w) (omega arith))))

pub weighted_next : (members : List Member) → All IsPinnedWithin members → 0 < sum (weights_of members) → 0 < sum (weights_of (next members))
weighted_next members pinned weighted = positive (sum (weights_of (next members))) refl
  where
    positive : (w : ℕ) → sum (weights_of (next members)) ≡ w → 0 < w
    positive (suc w) is = omega arith
    positive zero is =
        let buckets = shared_count members in
        let weights = weights_of members in
        let gone : sum (weights_of (next_in_a_row members)) ≡ 0 = sym (ap (λ (ms : List Member). sum (weights_of ms)) (next-in_a_row members)) ∙ is in
        let left = all_leave buckets (sum weights) (surplus buckets weights) members gone in
        let all : sum (numbers_from buckets (sum weights) (surplus buckets weights) weights) ≡ buckets = sym (ap sum (numbers_in_a_row buckets weights)) ∙ sum-numbers_of buckets weights weighted in
        let few = staying_below members pinned in
        let same = shared_count-sum members pinned in
        let none : sum weights ≡ 0 = none_heavy weights (omega (arith, left, all, few, same)) in
        absurd (omega (arith, none, weighted))

-- ---- a sharing leaves the views as they were

pub views_left : (buckets total left : ℕ) (members : List Member) → map (λ (m : Member). m.view) (left_from buckets total left members) ≡ map (λ (m : Member). m.view) members
views_left buckets total left [] = refl
views_left buckets total left (m ∷ members) = ap (λ (views : List SetView). m.view ∷ views) (views_left buckets total (left - one_if (is_broken buckets total (weight_of m))) members)

pub views_next : (members : List Member) → map (λ (m : Member). m.view) (next members) ≡ map (λ (m : Member). m.view) members
views_next members = ap (map (λ (m : Member). m.view)) (next-in_a_row members) ∙ views_left (shared_count members) (sum (weights_of members)) (surplus (shared_count members) (weights_of members)) members

pinned_left : (buckets total left : ℕ) (members : List Member) → All IsPinnedWithin members → All IsPinnedWithin (left_from buckets total left members)
pinned_left buckets total left [] pinned = All-nil IsPinnedWithin
pinned_left buckets total left (m ∷ members) pinned =
    All-cons IsPinnedWithin _ _ (All-head IsPinnedWithin m members pinned) (pinned_left buckets total (left - one_if (is_broken buckets total (weight_of m))) members (All-tail IsPinnedWithin m members pinned))

-- what is shared out is no more than all buckets
buckets_within : (m : Member) → buckets_of m ≤ m.view.count
buckets_within m = by_cases m.view.locked m.left
  where
    by_cases : (locked left : Bool) → cond locked 0 m.view.count - cond (not locked && left) m.view.pinned 0 ≤ m.view.count
    by_cases true left = omega arith
    by_cases false left = omega arith

pub buckets_below : (members : List Member) → sum_by buckets_of members ≤ sum_by (λ m. m.view.count) members
buckets_below members = sum_by-le-sum_by buckets_of (λ m. m.view.count) members buckets_within

-- a set's weight is a part of all weights
pub weight-part : (members : List Member) (i : ℕ) (d : Member) → i < length members → weight_of (get_or members i d) ≤ sum (weights_of members)
weight-part members i d inside = omega (arith, get_or-le-sum_by weight_of members i d inside, sum-map weight_of members)

-- what sharing needs stays
counts_left : (buckets total left : ℕ) (members : List Member) → sum_by (λ m. m.view.count) (left_from buckets total left members) ≡ sum_by (λ m. m.view.count) members
counts_left buckets total left members =
    sym (sum_by-map (λ (v : SetView). v.count) (λ (m : Member). m.view) (left_from buckets total left members))
    ∙ ap (sum_by (λ (v : SetView). v.count)) (views_left buckets total left members)
    ∙ sum_by-map (λ (v : SetView). v.count) (λ (m : Member). m.view) members

pub length-next : (members : List Member) → length (next members) ≡ length members
length-next members =
    sym (length-map (next members) (λ (m : Member). m.view)) ∙ ap length (views_next members) ∙ length-map members (λ (m : Member). m.view)

pub CanShare-next : (members : List Member) → CanShare members → CanShare (next members)
CanShare-next members can =
    let buckets = shared_count members in
    let total = sum (weights_of members) in
    let back = surplus buckets (weights_of members) in
    let counts = counts_left buckets total back members in
    record {
      pinned = subst (All IsPinnedWithin) (sym (next-in_a_row members)) (pinned_left buckets total back members can.pinned);
      counts = rw next-in_a_row (omega (arith, counts, can.counts));
      sets = rw length-next can.sets;
      weighted = weighted_next members can.pinned can.weighted;
    }

-- where the leaving ends isn't changed by a step on the way
pub ending-next : (members : List Member) → repeated (length (next members)) (next members) ≡ repeated (length members) members
ending-next members =
    ap (λ (n : ℕ). repeated n (next members)) (length-next members) ∙ sym (next-repeated (length members) members) ∙ stands_after_length members
