-- What sets have in a wave, kept beside the flows.
use Rattle.std.proofs.Common.{◌≡◌, ℕ, ◌+◌, ◌-◌, ◌<◌, ◌≤◌, Bool, cond, eqb, List, length, get_or, set, take, replicate, ap, sym, ◌∙◌, arith, inl, inr}
use Rattle.std.proofs.lemmas.List.{get_or-set_same, get_or-set_other, get_or-replicate, get_or_past, length-replicate}
use Rattle.std.proofs.lemmas.List.Sums.{sum_by_more}
use Rattle.std.proofs.lemmas.Bool.{cases_eq, cases_lt, eq-eqb, ne_eqb}
use Rattle.vs_waves.specs.declared.flow.Flow.{Flow}
use Rattle.vs_waves.specs.declared.wave_loads.WaveLoads.{WaveLoads}
use Rattle.vs_waves.specs.Flows.{near_now, far_now, near_rest, all_now, Fits, one_at}
use Rattle.vs_waves.specs.Loads.{AreLoads, IsOneMore}
use Rattle.vs_waves.proofs.Sums.{part_below}
use Rattle.vs_waves.proofs.Parts.{sum_by-all_le}
use Rattle.vs_waves.proofs.OneMore.{nothing, more, less, all_now-few, near_now-more, far_now-more, near_now-less, far_now-less}

-- ---- a table of numbers

pub added_at : (xs : List ℕ) (k n s : ℕ) → k < length xs → get_or (set xs k (get_or xs k 0 + n)) s 0 ≡ get_or xs s 0 + cond (eqb k s) n 0
added_at xs k n s inside = elim (cases_eq s k) [
  | inl e ↦
      let at : get_or (set xs k (get_or xs k 0 + n)) s 0 ≡ get_or xs k 0 + n = ap (λ (j : ℕ). get_or (set xs k (get_or xs k 0 + n)) j 0) e ∙ get_or-set_same xs k (get_or xs k 0 + n) 0 inside in
      omega (arith, at, ap (λ (j : ℕ). get_or xs j 0) e, ap {B = ℕ} (λ (b : Bool). cond b n 0) (eq-eqb k s (sym e)))
  | inr ne ↦
      omega (arith, get_or-set_other xs k s (get_or xs k 0 + n) 0 ne, ap {B = ℕ} (λ (b : Bool). cond b n 0) (ne_eqb k s (λ e. ne (sym e))))
]

pub one_added_at : (xs : List ℕ) (k s : ℕ) → k < length xs → get_or (set xs k (get_or xs k 0 + 1)) s 0 ≡ get_or xs s 0 + one_at s k
one_added_at xs k s inside = added_at xs k 1 s inside

pub one_taken_at : (xs : List ℕ) (k s : ℕ) → k < length xs → 0 < get_or xs k 0 → get_or xs s 0 ≡ get_or (set xs k (get_or xs k 0 - 1)) s 0 + one_at s k
one_taken_at xs k s inside some = elim (cases_eq s k) [
  | inl e ↦
      let at : get_or (set xs k (get_or xs k 0 - 1)) s 0 ≡ get_or xs k 0 - 1 = ap (λ (j : ℕ). get_or (set xs k (get_or xs k 0 - 1)) j 0) e ∙ get_or-set_same xs k (get_or xs k 0 - 1) 0 inside in
      omega (arith, at, some, ap (λ (j : ℕ). get_or xs j 0) e, ap {B = ℕ} (λ (b : Bool). cond b 1 0) (eq-eqb k s (sym e)))
  | inr ne ↦
      omega (arith, get_or-set_other xs k s (get_or xs k 0 - 1) 0 ne, ap {B = ℕ} (λ (b : Bool). cond b 1 0) (ne_eqb k s (λ e. ne (sym e))))
]

pub zeros_at : (n s : ℕ) → ◌≡◌ {A = ℕ} (get_or (replicate n 0) s 0) 0
zeros_at n s = elim (cases_lt s n) [
  | inl inside ↦ get_or-replicate n s 0 0 inside
  | inr past ↦ get_or_past (replicate n 0) s 0 (omega (arith, past, length-replicate {A = ℕ} n 0))
]

-- ---- summed up, flow by flow

pub near_now-next : (s i : ℕ) (flows : List Flow) → i < length flows
    → near_now s (take (i + 1) flows) ≡ near_now s (take i flows) + cond (eqb (get_or flows i nothing).near s) (get_or flows i nothing).now 0
unfolding near_now
near_now-next s i flows inside = sum_by_more (λ (x : Flow). cond (eqb x.near s) x.now 0) flows i nothing inside

pub far_now-next : (s i : ℕ) (flows : List Flow) → i < length flows
    → far_now s (take (i + 1) flows) ≡ far_now s (take i flows) + cond (eqb (get_or flows i nothing).far s) (get_or flows i nothing).now 0
unfolding far_now
far_now-next s i flows inside = sum_by_more (λ (x : Flow). cond (eqb x.far s) x.now 0) flows i nothing inside

pub near_rest-next : (s i : ℕ) (flows : List Flow) → i < length flows
    → near_rest s (take (i + 1) flows) ≡ near_rest s (take i flows) + cond (eqb (get_or flows i nothing).near s) (get_or flows i nothing).rest 0
unfolding near_rest
near_rest-next s i flows inside = sum_by_more (λ (x : Flow). cond (eqb x.near s) x.rest 0) flows i nothing inside

-- ---- few

pub near_now-few : (s : ℕ) (flows : List Flow) → Fits flows → near_now s flows ≤ 30000
unfolding near_now all_now
near_now-few s flows fits =
    omega (arith, all_now-few flows fits, sum_by-all_le (λ (x : Flow). cond (eqb x.near s) x.now 0) (λ (x : Flow). x.now) flows (λ k d inside. part_below _ _))

pub far_now-few : (s : ℕ) (flows : List Flow) → Fits flows → far_now s flows ≤ 30000
unfolding far_now all_now
far_now-few s flows fits =
    omega (arith, all_now-few flows fits, sum_by-all_le (λ (x : Flow). cond (eqb x.far s) x.now 0) (λ (x : Flow). x.now) flows (λ k d inside. part_below _ _))

-- ---- one flow changed

module _ (flows : List Flow) (i : ℕ) (inside : i < length flows) (old new : WaveLoads) where
  abbrev here : Flow
  here = get_or flows i nothing

  pub AreLoads-more : AreLoads old flows → IsOneMore here.near here.far old new → AreLoads new (set flows i (more here))
  AreLoads-more are one = record {
    near_count = one.near_count ∙ are.near_count;
    far_count = one.far_count ∙ are.far_count;
    near = λ s. omega (arith, one.near s, are.near s, near_now-more flows i inside s);
    far = λ s. omega (arith, one.far s, are.far s, far_now-more flows i inside s);
  }

  pub AreLoads-no_more : AreLoads old (set flows i (more here)) → IsOneMore here.near here.far new old → AreLoads new flows
  AreLoads-no_more are one = record {
    near_count = sym one.near_count ∙ are.near_count;
    far_count = sym one.far_count ∙ are.far_count;
    near = λ s. omega (arith, one.near s, are.near s, near_now-more flows i inside s);
    far = λ s. omega (arith, one.far s, are.far s, far_now-more flows i inside s);
  }

  pub AreLoads-less : 0 < here.now → AreLoads old flows → IsOneMore here.near here.far new old → AreLoads new (set flows i (less here))
  AreLoads-less some are one = record {
    near_count = sym one.near_count ∙ are.near_count;
    far_count = sym one.far_count ∙ are.far_count;
    near = λ s. omega (arith, one.near s, are.near s, near_now-less flows i inside s some);
    far = λ s. omega (arith, one.far s, are.far s, far_now-less flows i inside s some);
  }

  pub AreLoads-no_less : 0 < here.now → AreLoads old (set flows i (less here)) → IsOneMore here.near here.far old new → AreLoads new flows
  AreLoads-no_less some are one = record {
    near_count = one.near_count ∙ are.near_count;
    far_count = one.far_count ∙ are.far_count;
    near = λ s. omega (arith, one.near s, are.near s, near_now-less flows i inside s some);
    far = λ s. omega (arith, one.far s, are.far s, far_now-less flows i inside s some);
  }
