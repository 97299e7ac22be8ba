-- What is right of the ideal counts.
use Rattle.std.proofs.Common.{◌≡◌, ℕ, ◌+◌, ◌-◌, ◌*◌, ◌/◌, ◌<◌, ◌≤◌, ◌^◌, Bool, true, false, cond, List, [], ◌∷◌, map, length, eqb, refl, ap, sym, ◌∙◌, subst, arith, sum, zero, suc, inl, inr}
use Rattle.std.specs.Prelude.{◌&&◌, ◌||◌, not, nat_lt, ◌⊎◌}
use Rattle.std.specs.List.{sum_by, zip, list_any, All, AllZip}
use Rattle.std.proofs.lemmas.List.{length-map}
use Rattle.std.proofs.lemmas.List.Sums.{sum_by-cons}
use Rattle.std.proofs.lemmas.List.Elements.{All-head, All-tail, All-map}
use Rattle.std.proofs.lemmas.Bool.{ltb-true, ltb-false, or_cases, false≢true, true≢false, ne_eqb}
use Rattle.vs_balance.specs.declared.view.SetView.{SetView}
use Rattle.vs_balance.specs.declared.member.Member.{Member}
use Rattle.vs_balance.specs.Sharing.{is_broken, surplus, number_with, rounded_up}
use Rattle.vs_balance.specs.Member.{stays, weight_of, weights_of, unlocked_count, kept_count, shared_count, leave, next, repeated, ideal_in, ideals_in, CanShare}
use Rattle.vs_balance.specs.Ideal.{counts_of, joined, settled, unlocked_weight, has_weight, ideal_of, unlocked_ideals, KeepsBuckets, AreIdeals}
use Rattle.vs_balance.proofs.Shares.{one_if, numbers_from, numbers_in_a_row, number-weightless, number-rounded, sum-numbers_of, sum_by-map}
use Rattle.vs_balance.proofs.Leaving.{left_from, next-in_a_row, stands_after_length, first_standing}
use Rattle.vs_balance.proofs.Weighing.{IsPinnedWithin, kept_below, views_next, CanShare-next}
use Rattle.vs_balance.proofs.Rows.{ideals_from, ideals_in_a_row, ideals-in_a_row}

abbrev join : SetView → Member
join view = record { view = view; left = false }

abbrev view_of : Member → SetView
view_of m = m.view

-- ---- whether there is weight

weight_of-join : (view : SetView) → (has_weight view ≡ true → 0 < weight_of (join view)) × (has_weight view ≡ false → weight_of (join view) ≡ 0)
weight_of-join view = by_locked view.locked
  where
    by_locked : (locked : Bool) → ((not locked && nat_lt 0 view.weight) ≡ true → 0 < cond (not locked && true) view.weight 0) × ((not locked && nat_lt 0 view.weight) ≡ false → cond (not locked && true) view.weight 0 ≡ 0)
    by_locked true = (λ is. absurd (false≢true is), λ is. refl)
    by_locked false = (λ is. ltb-true 0 view.weight is, λ is. omega (arith, ltb-false 0 view.weight is))

unlocked_weight-cons : (view : SetView) (views : List SetView) → unlocked_weight (view ∷ views) ≡ weight_of (join view) + unlocked_weight views
unlocked_weight-cons view views = sum_by-cons (λ x. x) (weight_of (join view)) (weights_of (joined views))

pub weighted_where_any : (views : List SetView) → list_any has_weight views ≡ true → 0 < unlocked_weight views
weighted_where_any [] is = absurd (false≢true is)
weighted_where_any (view ∷ views) is = elim (or_cases (has_weight view) (list_any has_weight views) is) [
  | inl here ↦ omega (arith, unlocked_weight-cons view views, (weight_of-join view).0 here)
  | inr later ↦ omega (arith, unlocked_weight-cons view views, weighted_where_any views later)
]

neither : (a b : Bool) → (a || b) ≡ false → (a ≡ false) × (b ≡ false)
neither true b is = absurd (true≢false is)
neither false b is = (refl, is)

pub weightless_where_none : (views : List SetView) → list_any has_weight views ≡ false → unlocked_weight views ≡ 0
weightless_where_none [] is = refl
weightless_where_none (view ∷ views) is =
    let parts = neither (has_weight view) (list_any has_weight views) is in
    omega (arith, unlocked_weight-cons view views, (weight_of-join view).1 parts.0, weightless_where_none views parts.1)

-- ---- the sets that have left, at the end

pub CanShare-joined : (views : List SetView) → length views ≤ 32 → All (λ (v : SetView). v.pinned ≤ v.count) views → sum_by (λ (v : SetView). v.count) views < 2 ^ 32 → 0 < unlocked_weight views → CanShare (joined views)
CanShare-joined views sets pinned counts weighted = record {
  pinned = All-map IsPinnedWithin join views pinned;
  counts = omega (arith, sum_by-map (λ (m : Member). m.view.count) join views, counts);
  sets = omega (arith, length-map views join, sets);
  weighted = weighted;
}

CanShare-repeated : (n : ℕ) (members : List Member) → CanShare members → CanShare (repeated n members)
CanShare-repeated zero members can = can
CanShare-repeated (suc n) members can = CanShare-repeated n (next members) (CanShare-next members can)

views-repeated : (n : ℕ) (members : List Member) → map view_of (repeated n members) ≡ map view_of members
views-repeated zero members = refl
views-repeated (suc n) members = views-repeated n (next members) ∙ views_next members

views-joined : (views : List SetView) → map view_of (joined views) ≡ views
views-joined [] = refl
views-joined (view ∷ views) = ap (λ (rest : List SetView). view ∷ rest) (views-joined views)

views-settled : (views : List SetView) → map view_of (settled views) ≡ views
unfolding settled
views-settled views = views-repeated (length views) (joined views) ∙ views-joined views

-- as many times as there are sets
pub settled-joined : (views : List SetView) → settled views ≡ repeated (length (joined views)) (joined views)
unfolding settled
settled-joined views = ap (λ (n : ℕ). repeated n (joined views)) (sym (length-map views join))

pub settled_stands : (views : List SetView) → next (settled views) ≡ settled views
settled_stands views = rw settled-joined (stands_after_length (joined views))

settled_first : (views : List SetView) (n : ℕ) → next (repeated n (joined views)) ≡ repeated n (joined views) → repeated n (joined views) ≡ settled views
settled_first views n stands =
    first_standing (length (joined views)) n (joined views) stands (stands_after_length (joined views)) ∙ sym (settled-joined views)

-- ---- the ideals of a row of sets

-- where a set takes no part its number is 0
unlocked_ideal : (m : Member) (n : ℕ) → (stays m ≡ false → n ≡ 0) → cond m.view.locked 0 (ideal_in m n) ≡ kept_count m + n
unlocked_ideal m n none = by_cases m.view.locked m.left none
  where
    by_cases : (locked left : Bool) → ((not locked && not left) ≡ false → n ≡ 0) → cond locked 0 (cond locked m.view.count (cond left m.view.pinned n)) ≡ cond (not locked && left) m.view.pinned 0 + n
    by_cases true left none = omega (arith, none refl)
    by_cases false true none = omega (arith, none refl)
    by_cases false false none = omega arith

pinned_ideal : (m : Member) (n : ℕ) → IsPinnedWithin m → leave m n ≡ m → m.view.pinned ≤ ideal_in m n
pinned_ideal m n pinned stands = by_cases m.view.locked m.left (ap (λ (x : Member). x.left) stands)
  where
    by_cases : (locked left : Bool) → (left || ((not locked && not left) && nat_lt n m.view.pinned)) ≡ left → m.view.pinned ≤ cond locked m.view.count (cond left m.view.pinned n)
    by_cases true left is = pinned
    by_cases false true is = omega arith
    by_cases false false is = ltb-false n m.view.pinned is

locked_ideal : (m : Member) (n : ℕ) → m.view.locked ≡ true → ideal_in m n ≡ m.view.count
locked_ideal m n is = ap (λ (b : Bool). cond b m.view.count (cond m.left m.view.pinned n)) is

shared_ideal : (m : Member) (n : ℕ) → stays m ≡ true → ideal_in m n ≡ n
shared_ideal m n is = by_cases m.view.locked m.left is
  where
    by_cases : (locked left : Bool) → (not locked && not left) ≡ true → cond locked m.view.count (cond left m.view.pinned n) ≡ n
    by_cases true left is = absurd (false≢true is)
    by_cases false true is = absurd (false≢true is)
    by_cases false false is = refl

module _ (buckets total : ℕ) where
  number-leaver : (left : ℕ) (m : Member) → stays m ≡ false → number_with buckets total left (weight_of m) ≡ 0
  number-leaver left m is = ap (λ (b : Bool). number_with buckets total left (cond b m.view.weight 0)) is ∙ number-weightless buckets total left

  unlocked-ideals_from : (left : ℕ) (members : List Member) → unlocked_ideals (map view_of members) (ideals_from buckets total left members) ≡ sum_by kept_count members + sum (numbers_from buckets total left (weights_of members))
  unlocked-ideals_from left [] = omega arith
  unlocked-ideals_from left (m ∷ members) =
      let n = number_with buckets total left (weight_of m) in
      let after = left - one_if (is_broken buckets total (weight_of m)) in
      let here = unlocked_ideal m n (number-leaver left m) in
      let rest = unlocked-ideals_from after members in
      let a : unlocked_ideals (view_of m ∷ map view_of members) (ideal_in m n ∷ ideals_from buckets total after members) ≡ cond m.view.locked 0 (ideal_in m n) + unlocked_ideals (map view_of members) (ideals_from buckets total after members) =
      sum_by-cons (λ (p : SetView × ℕ). cond p.0.locked 0 p.1) (view_of m, ideal_in m n) (zip (map view_of members) (ideals_from buckets total after members))
      in
      let b : sum_by kept_count (m ∷ members) ≡ kept_count m + sum_by kept_count members = sum_by-cons _ m members in
      let c : sum (n ∷ numbers_from buckets total after (weights_of members)) ≡ n + sum (numbers_from buckets total after (weights_of members)) = sum_by-cons (λ x. x) n (numbers_from buckets total after (weights_of members)) in
      rw (a, b, c) (omega (arith, here, rest))

  pinned-ideals_from : (left : ℕ) (members : List Member) → All IsPinnedWithin members → left_from buckets total left members ≡ members → AllZip (λ (view : SetView) (ideal : ℕ). view.pinned ≤ ideal) (map view_of members) (ideals_from buckets total left members)
  pinned-ideals_from left [] pinned stands = tt
  pinned-ideals_from left (m ∷ members) pinned stands =
      let n = number_with buckets total left (weight_of m) in
      let after = left - one_if (is_broken buckets total (weight_of m)) in
      let first : leave m n ≡ m = (cc) in
      let others : left_from buckets total after members ≡ members = (cc) in
      (pinned_ideal m n (All-head IsPinnedWithin m members pinned) first, pinned-ideals_from after members (All-tail IsPinnedWithin m members pinned) others)

  locked-ideals_from : (left : ℕ) (members : List Member) → AllZip (λ (view : SetView) (ideal : ℕ). view.locked ≡ true → ideal ≡ view.count) (map view_of members) (ideals_from buckets total left members)
  locked-ideals_from left [] = tt
  locked-ideals_from left (m ∷ members) =
      (locked_ideal m (number_with buckets total left (weight_of m)), locked-ideals_from (left - one_if (is_broken buckets total (weight_of m))) members)

  shares-ideals_from : (left : ℕ) (members : List Member) → AllZip (λ (m : Member) (ideal : ℕ). stays m ≡ true → (ideal ≡ rounded_up buckets total (weight_of m)) ⊎ (ideal ≡ buckets * weight_of m / total)) members (ideals_from buckets total left members)
  shares-ideals_from left [] = tt
  shares-ideals_from left (m ∷ members) =
      let n = number_with buckets total left (weight_of m) in (
        λ is. elim (number-rounded buckets total left (weight_of m)) [ inl up ↦ inl (shared_ideal m n is ∙ up) | inr down ↦ inr (shared_ideal m n is ∙ down) ],
        shares-ideals_from (left - one_if (is_broken buckets total (weight_of m))) members,
      )

pub ideal_of-weighted : (views : List SetView) → 0 < unlocked_weight views → ideal_of views ≡ ideals_in (settled views)
unfolding ideal_of
ideal_of-weighted views weighted =
    let some : eqb (unlocked_weight views) 0 ≡ false = ne_eqb (unlocked_weight views) 0 (λ none. omega arith) in
    ap (λ (b : Bool). cond b (counts_of views) (ideals_in (settled views))) some

pub ideal_of-weightless : (views : List SetView) → unlocked_weight views ≡ 0 → ideal_of views ≡ counts_of views
unfolding ideal_of
ideal_of-weightless views none = ap (λ (w : ℕ). cond (eqb w 0) (counts_of views) (ideals_in (settled views))) none

-- of sets of which none leaves
module _ (members : List Member) (can : CanShare members) where
  unlocked-row : unlocked_ideals (map view_of members) (ideals_in_a_row members) ≡ sum_by unlocked_count (map view_of members)
  unlocked-row =
      let buckets = shared_count members in
      let weights = weights_of members in
      let all = unlocked-ideals_from buckets (sum weights) (surplus buckets weights) members in
      let numbered : sum (numbers_from buckets (sum weights) (surplus buckets weights) weights) ≡ buckets = sym (ap sum (numbers_in_a_row buckets weights)) ∙ sum-numbers_of buckets weights can.weighted in
      let kept = kept_below members can.pinned in
      let counts = sum_by-map unlocked_count view_of members in
      omega (arith, all, numbered, kept, counts)

  KeepsBuckets-row : KeepsBuckets (map view_of members) (ideals_in_a_row members)
  KeepsBuckets-row = record {
    unlocked = unlocked-row;
    locked = locked-ideals_from (shared_count members) (sum (weights_of members)) (surplus (shared_count members) (weights_of members)) members;
  }

  pinned-row : next members ≡ members → AllZip (λ (view : SetView) (ideal : ℕ). view.pinned ≤ ideal) (map view_of members) (ideals_in_a_row members)
  pinned-row stands =
      let buckets = shared_count members in
      let weights = weights_of members in
      pinned-ideals_from buckets (sum weights) (surplus buckets weights) members can.pinned (sym (next-in_a_row members) ∙ stands)

CanShare-settled : (views : List SetView) → CanShare (joined views) → CanShare (settled views)
unfolding settled
CanShare-settled views can = CanShare-repeated (length views) (joined views) can

pub AreIdeals-weighted : (views : List SetView) → CanShare (joined views) → AreIdeals views (ideal_of views)
AreIdeals-weighted views joins =
    let members = settled views in
    let buckets = shared_count members in
    let weights = weights_of members in
    let can = CanShare-settled views joins in
    let seen = views-settled views in
    let in_a_row : AreIdeals views (ideals_in_a_row members) = record {
      kept = subst (λ (vs : List SetView). KeepsBuckets vs (ideals_in_a_row members)) seen (KeepsBuckets-row members can);
      pinned = subst (λ (vs : List SetView). AllZip (λ (view : SetView) (ideal : ℕ). view.pinned ≤ ideal) vs (ideals_in_a_row members)) seen (pinned-row members can (settled_stands views));
      weighted = λ some. can.weighted;
      shares = λ some. shares-ideals_from buckets (sum weights) (surplus buckets weights) members;
      weightless = λ none. absurd (omega (arith, none, joins.weighted));
      stands = settled_stands views;
      first = settled_first views;
    }
    in
    subst (AreIdeals views) (sym (ideal_of-weighted views joins.weighted ∙ ideals-in_a_row members)) in_a_row

unlocked-counts : (views : List SetView) → unlocked_ideals views (counts_of views) ≡ sum_by unlocked_count views
unlocked-counts [] = refl
unlocked-counts (view ∷ views) =
    let a : unlocked_ideals (view ∷ views) (view.count ∷ counts_of views) ≡ unlocked_count view + unlocked_ideals views (counts_of views) = sum_by-cons (λ (p : SetView × ℕ). cond p.0.locked 0 p.1) (view, view.count) (zip views (counts_of views)) in
    let b : sum_by unlocked_count (view ∷ views) ≡ unlocked_count view + sum_by unlocked_count views = sum_by-cons _ view views in
    rw (a, b) (ap (λ n. unlocked_count view + n) (unlocked-counts views))

locked-counts : (views : List SetView) → AllZip (λ (view : SetView) (ideal : ℕ). view.locked ≡ true → ideal ≡ view.count) views (counts_of views)
locked-counts [] = tt
locked-counts (view ∷ views) = (λ is. refl, locked-counts views)

pinned-counts : (views : List SetView) → All (λ (v : SetView). v.pinned ≤ v.count) views → AllZip (λ (view : SetView) (ideal : ℕ). view.pinned ≤ ideal) views (counts_of views)
pinned-counts [] pinned = tt
pinned-counts (view ∷ views) pinned =
    let P : SetView → Type 0 = λ v. v.pinned ≤ v.count in
    (All-head P view views pinned, pinned-counts views (All-tail P view views pinned))

pub AreIdeals-weightless : (views : List SetView) → All (λ (v : SetView). v.pinned ≤ v.count) views → unlocked_weight views ≡ 0 → AreIdeals views (counts_of views)
AreIdeals-weightless views pinned none = record {
  kept = record { unlocked = unlocked-counts views; locked = locked-counts views };
  pinned = pinned-counts views pinned;
  weighted = λ some. absurd (some none);
  shares = λ some. absurd (some none);
  weightless = λ is. refl;
  stands = settled_stands views;
  first = settled_first views;
}
