-- What is planned for counts that a cluster may have.
use Rattle.std.proofs.Common.{◌≡◌, ℕ, suc, ◌-◌, ◌≤◌, Option, Some, None, List, [], ◌∷◌, length, inl, inr, refl, sym, subst, arith, ap, ◌∙◌}
use Rattle.std.specs.Prelude.{◌⊎◌, ◌≢◌, ◌↔◌, IsSome, IfSome}
use Rattle.std.specs.List.{sum_by, All, AllZip}
use Rattle.std.proofs.lemmas.List.{length-map}
use Rattle.std.proofs.lemmas.List.Elements.{All-nil, All-cons, All-head, All-tail}
use Rattle.std.proofs.lemmas.List.Sums.{sum_by-cons}
use Rattle.std.proofs.Math.Nat.{le-mul_of_pos_right}
use Rattle.vs_base.specs.Listed.{Listed}
use Rattle.vs_balance.specs.declared.route.Route.{Route}
use Rattle.vs_balance.specs.declared.view.SetView.{SetView}
use Rattle.vs_config.specs.declared.config.SetConfig.{SetConfig}
use Rattle.vs_config.specs.Configuration.{Configuration}
use Rattle.vs_waves.specs.declared.forcing_set.Forced.{Forced}
use Rattle.vs_waves.specs.Forcing.{limit_of, HasForced, IsForced}
use Rattle.vs_waves.specs.Plan.{IsRightPlan, IsWave, CanPlan, plan_of}
use Rattle.vs_waves.proofs.Forces.{given_within, taken_within, limit_positive}
use Rattle.vs_plan.specs.declared.counts.SetCount.{SetCount}
use Rattle.vs_plan.specs.Planning.{view_of, views_of, IsForcedIn}
use Rattle.vs_plan.specs.Reading.{total, AreCounts}

-- ---- the views

pub views_length : (sets : List SetConfig) (counts : List SetCount) → length counts ≡ length sets → length (views_of sets counts) ≡ length sets
views_length [] counts same = refl
views_length (s ∷ sets) [] same = absurd (omega (arith, same))
views_length (s ∷ sets) (c ∷ counts) same = ap suc (views_length sets counts (omega (arith, same)))

pub views_total : (sets : List SetConfig) (counts : List SetCount) → sum_by (λ (v : SetView). v.count) (views_of sets counts) ≤ total counts
views_total [] counts = omega arith
views_total (s ∷ sets) [] = omega arith
views_total (s ∷ sets) (c ∷ counts) =
    omega (
      arith,
      sum_by-cons (λ (v : SetView). v.count) (view_of s c) (views_of sets counts),
      sum_by-cons (λ (c : SetCount). c.count) c counts,
      views_total sets counts,
    )

abbrev IsPinnedWithin : SetView → Type 0
IsPinnedWithin v = v.pinned ≤ v.count

pub views_pinned : (sets : List SetConfig) (counts : List SetCount) → All (λ (c : SetCount). c.pinned ≤ c.count) counts → All (λ (v : SetView). v.pinned ≤ v.count) (views_of sets counts)
views_pinned [] counts pinned = All-nil IsPinnedWithin
views_pinned (s ∷ sets) [] pinned = All-nil IsPinnedWithin
views_pinned (s ∷ sets) (c ∷ counts) pinned = All-cons IsPinnedWithin (view_of s c) (views_of sets counts) (All-head (λ (c : SetCount). c.pinned ≤ c.count) c counts pinned) (views_pinned sets counts (All-tail (λ (c : SetCount). c.pinned ≤ c.count) c counts pinned))

pub same_length : {A B : Type 0} (R : A → B → Type 0) (xs : List A) (ys : List B) → AllZip R xs ys → length xs ≡ length ys
same_length R [] [] all = refl
same_length R [] (y ∷ ys) all = absurd all
same_length R (x ∷ xs) [] all = absurd all
same_length R (x ∷ xs) (y ∷ ys) all = ap suc (same_length R xs ys all.1)

module _ (views : List SetView) (sets : List SetConfig) (counts : List SetCount) (is : views ≡ views_of sets counts) (are : AreCounts (length sets) counts) where
  pub as_many : length views ≡ length sets
  as_many = ap length is ∙ views_length sets counts are.one_each

  pub pinned_within : All (λ (v : SetView). v.pinned ≤ v.count) views
  pinned_within = subst (All (λ (v : SetView). v.pinned ≤ v.count)) (sym is) (views_pinned sets counts are.pinned)

  pub in_all : sum_by (λ (v : SetView). v.count) views ≤ 30000
  in_all =
      let few : sum_by (λ (v : SetView). v.count) (views_of sets counts) ≤ 30000 = omega (arith, views_total sets counts, are.few) in
      subst (λ (vs : List SetView). sum_by (λ (v : SetView). v.count) vs ≤ 30000) (sym is) few

-- ---- the number of waves

pub plan_length : (waves : List (Listed Route)) → length (plan_of waves) ≡ length waves
plan_length waves = length-map waves (λ (w : Listed Route). w.items)

module _ (routes : List Route) (sets s r w : ℕ) (can : CanPlan sets s r routes) (least : (plan : List (List Route)) → IsRightPlan s r routes plan → w ≤ length plan) (forced : routes ≢ [] → HasForced w sets s r routes) where
  none_or_forced : (w ≡ 0) ⊎ HasForced w sets s r routes
  none_or_forced = by routes least forced
    where
      by : (routes : List Route) → ((plan : List (List Route)) → IsRightPlan s r routes plan → w ≤ length plan) → (routes ≢ [] → HasForced w sets s r routes) → (w ≡ 0) ⊎ HasForced w sets s r routes
      by [] least forced = inl (omega (arith, least [] (record { waves = All-nil (IsWave s r); sums = λ giver taker. refl })))
      by (x ∷ xs) least forced = inr (forced (λ e. cc e))

  pub few_waves : w ≤ 60000
  few_waves = elim none_or_forced [
    | inl none ↦ omega (arith, none)
    | inr by ↦
        let set = by.0 in
        let forces = by.3 in
        let limit = limit_positive s r set routes can.sending can.receiving in
        omega (
          arith,
          forces.1,
          le-mul_of_pos_right {m = limit_of s r set routes} (w - 1) limit,
          given_within set routes,
          taken_within set routes,
          can.few,
        )
  ]

  pub is_forced : (f : Option Forced) → (IsSome f ↔ HasForced w sets s r routes) → IfSome f (IsForced w sets s r routes)
      → (config : Configuration) → length config.sets ≡ sets → config.max_sending ≡ s → config.max_receiving ≡ r → IsForcedIn config routes w f
  is_forced None some lowest config same a b = elim none_or_forced [ inl none ↦ none | inr by ↦ (let some_is = some.1 by in cc) ]
  is_forced (Some f) some lowest config same a b = rw (same, a, b) lowest
