-- What a search has seen.
use Rattle.std.proofs.Common.{◌≡◌, ℕ, ◌+◌, ◌<◌, ◌≤◌, Bool, true, false, cond, List, length, get_or, set, take, refl, ap, sym, ◌∙◌, subst, arith, inl, inr}
use Rattle.std.specs.Prelude.{◌≢◌}
use Rattle.std.specs.List.{All}
use Rattle.std.proofs.lemmas.List.{get_or-set_same, get_or-set_other, get_or_past, take_all, length-set}
use Rattle.std.proofs.lemmas.List.Sums.{sum_by-set}
use Rattle.std.proofs.lemmas.List.Elements.{All-get_or, All-weaker, All-more, All-same}
use Rattle.std.proofs.lemmas.Bool.{cases_eq, cases_lt, false≢true}
use Rattle.vs_waves.specs.declared.flow.Flow.{Flow}
use Rattle.vs_waves.specs.Flows.{near_now, far_now, is_seen, unseen, LeadsToSeen, IsOpenToSeen, IsNeeded, IsStuck, IsBarred}
use Rattle.vs_waves.proofs.OneMore.{nothing, more, less, one_at-same, one_at-other, near_now-more, far_now-more, near_now-less, far_now-less, All-unset, at_set}

-- each mark lessens the sets that aren't seen
pub unseen-mark : (seen : List Bool) (k : ℕ) → k < length seen → get_or seen k false ≡ false → unseen (set seen k true) + 1 ≡ unseen seen
unfolding unseen
unseen-mark seen k inside not_yet =
    let change = sum_by-set (λ (b : Bool). cond (cond b false true) 1 0) seen k true false inside in
    let counts : Bool → ℕ = λ b. cond (cond b false true) 1 0 in
    let one : counts (get_or seen k false) ≡ counts false = ap counts not_yet in
    omega (arith, change, one)

abbrev Grows : List Bool → List Bool → Type 0
Grows before after = (s : ℕ) → is_seen s before ≡ true → is_seen s after ≡ true

pub seen-mark : (seen : List Bool) (k : ℕ) → k < length seen → is_seen k (set seen k true) ≡ true
seen-mark seen k inside = get_or-set_same seen k true false inside

pub seen-inside : (seen : List Bool) (s : ℕ) → is_seen s seen ≡ true → s < length seen
seen-inside seen s is = elim (cases_lt s (length seen)) [
  | inl inside ↦ inside
  | inr past ↦ absurd (false≢true (sym (get_or_past seen s false past) ∙ is))
]

pub Grows-mark : (seen : List Bool) (k : ℕ) → k < length seen → Grows seen (set seen k true)
Grows-mark seen k inside s is = elim (cases_eq s k) [
  | inl e ↦ subst (λ (n : ℕ). is_seen n (set seen k true) ≡ true) (sym e) (seen-mark seen k inside)
  | inr ne ↦ get_or-set_other seen k s true false ne ∙ is
]

seen-unmark : (seen : List Bool) (k s : ℕ) → s ≢ k → is_seen s (set seen k true) ≡ true → is_seen s seen ≡ true
seen-unmark seen k s ne is = sym (get_or-set_other seen k s true false ne) ∙ is

open-grown : (before after : List Bool) → Grows before after → (flows : List Flow) (e : ℕ) → IsOpenToSeen before flows e → IsOpenToSeen after flows e
unfolding IsOpenToSeen
open-grown before after grows flows e all =
    All-weaker (LeadsToSeen before e) (LeadsToSeen after e) (λ f leads near room. grows f.far (leads near room)) flows all

module _ (lows : List ℕ) where
  needed-grown : (before after : List Bool) → Grows before after → (flows : List Flow) (s : ℕ) (f : Flow) → IsNeeded lows before flows s f → IsNeeded lows after flows s f
  needed-grown before after grows flows s f needed is some =
      let n = needed is some in (n.0, open-grown before after grows flows f.near n.1)

  stuck-grown : (before after : List Bool) → Grows before after → (flows : List Flow) (s : ℕ) → IsStuck lows before flows s → IsStuck lows after flows s
  unfolding IsStuck
  stuck-grown before after grows flows s all =
      All-weaker (IsNeeded lows before flows s) (IsNeeded lows after flows s) (λ f. needed-grown before after grows flows s f) flows all

  -- ---- a search that goes on from one more of a flow
  module _ (flows : List Flow) (i : ℕ) (inside : i < length flows) (after : List Bool) where
    abbrev here : Flow
    here = get_or flows i nothing

    module _ (room : here.now < here.rest) (is_marked : is_seen here.far after ≡ true) where
      open-more : (e : ℕ) → IsOpenToSeen after (set flows i (more here)) e → IsOpenToSeen after flows e
      unfolding IsOpenToSeen
      open-more e all = All-unset flows i inside (LeadsToSeen after e) (more here) (λ near room. is_marked) all

      needed-more : (s : ℕ) (f g : Flow) → g.near ≡ f.near → g.far ≡ f.far → f.now ≤ g.now → IsNeeded lows after (set flows i (more here)) s g → IsNeeded lows after flows s f
      needed-more s f g near far now needed is some =
          let n = needed (far ∙ is) (omega arith) in (
            subst (λ (e : ℕ). near_now e flows ≤ get_or lows e 0) near (omega (arith, n.0, near_now-more flows i inside g.near)),
            subst (IsOpenToSeen after flows) near (open-more g.near n.1),
          )

      pub stuck-more : (s : ℕ) → IsStuck lows after (set flows i (more here)) s → IsStuck lows after flows s
      unfolding IsStuck
      stuck-more s all =
          let last = All-get_or (IsNeeded lows after (set flows i (more here)) s) (set flows i (more here)) i nothing (omega (arith, length-set flows i (more here))) all in
          let at = subst (IsNeeded lows after (set flows i (more here)) s) (at_set flows i inside (more here)) last in
          All-unset flows i inside (IsNeeded lows after flows s) (more here) (needed-more s here (more here) refl refl (omega arith) at)
          (All-weaker (IsNeeded lows after (set flows i (more here)) s) (IsNeeded lows after flows s) (λ f. needed-more s f f refl refl (omega arith)) (set flows i (more here)) all)

    -- ---- and from one less
    module _ (some : 0 < here.now) (needed : near_now here.near flows ≤ get_or lows here.near 0) where
      pub open-less : (e : ℕ) → IsOpenToSeen after (set flows i (less here)) e → IsOpenToSeen after flows e
      unfolding IsOpenToSeen
      open-less e all =
          let last = All-get_or (LeadsToSeen after e) (set flows i (less here)) i nothing (omega (arith, length-set flows i (less here))) all in
          let at = subst (LeadsToSeen after e) (at_set flows i inside (less here)) last in
          All-unset flows i inside (LeadsToSeen after e) (less here) (λ near room. at near (omega arith)) all

      needed-less : (s : ℕ) (f : Flow) → IsNeeded lows after (set flows i (less here)) s f → IsNeeded lows after flows s f
      needed-less s f n is some' =
          let m = n is some' in (
            elim (cases_eq f.near here.near) [
              | inl e ↦ subst (λ (e : ℕ). near_now e flows ≤ get_or lows e 0) (sym e) needed
              | inr ne ↦ omega (arith, m.0, near_now-less flows i inside f.near some, one_at-other f.near here.near ne)
            ],
            open-less f.near m.1,
          )

      pub stuck-less : (s : ℕ) → s ≢ here.far → IsStuck lows after (set flows i (less here)) s → IsStuck lows after flows s
      unfolding IsStuck
      stuck-less s ne all =
          All-unset flows i inside (IsNeeded lows after flows s) (less here) (λ is some'. absurd (ne (sym is)))
          (All-weaker (IsNeeded lows after (set flows i (less here)) s) (IsNeeded lows after flows s) (needed-less s) (set flows i (less here)) all)

  -- ---- what is barred

  module _ (limit : ℕ) (flows : List Flow) (i : ℕ) (inside : i < length flows) (before mid after : List Bool) (barred : IsBarred lows limit before mid flows) where
    pub barred_by_more : (get_or flows i nothing).now < (get_or flows i nothing).rest → (get_or flows i nothing).far < length mid
        → IsBarred lows limit (set mid (get_or flows i nothing).far true) after (set flows i (more (get_or flows i nothing)))
        → limit < far_now (get_or flows i nothing).far (set flows i (more (get_or flows i nothing)))
        → IsStuck lows after (set flows i (more (get_or flows i nothing))) (get_or flows i nothing).far
        → IsBarred lows limit before after flows
    barred_by_more room within search full stuck =
        let f = get_or flows i nothing in
        let marked = seen-mark mid f.far within in
        let later : Grows mid after = λ s is. search.grown s (Grows-mark mid f.far within s is) in
        let is_marked : is_seen f.far after ≡ true = search.grown f.far marked in
        record {
          grown = λ s is. later s (barred.grown s is);
          shut = λ s is. elim (cases_eq s f.far) [
            | inl e ↦ inr (
              subst (λ (n : ℕ). limit ≤ far_now n flows) (sym e) (omega (arith, full, far_now-more flows i inside f.far, one_at-same f.far)),
              subst (IsStuck lows after flows) (sym e) (stuck-more flows i inside after room is_marked f.far stuck),
            )
            | inr ne ↦ elim (search.shut s is) [
              | inl earlier ↦ elim (barred.shut s (seen-unmark mid f.far s ne earlier)) [
                | inl first ↦ inl first
                | inr shut ↦ inr (shut.0, stuck-grown mid after later flows s shut.1)
              ]
              | inr shut ↦ inr (
                omega (arith, shut.0, far_now-more flows i inside s, one_at-other s f.far ne),
                stuck-more flows i inside after room is_marked s shut.1,
              )
            ]
          ];
        }

    pub barred_by_less : 0 < (get_or flows i nothing).now → near_now (get_or flows i nothing).near flows ≤ get_or lows (get_or flows i nothing).near 0
        → is_seen (get_or flows i nothing).far before ≡ true
        → IsBarred lows limit mid after (set flows i (less (get_or flows i nothing)))
        → IsBarred lows limit before after flows
    barred_by_less some needed first search =
        let f = get_or flows i nothing in
        record {
          grown = λ s is. search.grown s (barred.grown s is);
          shut = λ s is. elim (cases_eq s f.far) [
            | inl e ↦ inl (subst (λ (n : ℕ). is_seen n before ≡ true) (sym e) first)
            | inr ne ↦ elim (search.shut s is) [
              | inl earlier ↦ elim (barred.shut s earlier) [
                | inl first ↦ inl first
                | inr shut ↦ inr (shut.0, stuck-grown mid after search.grown flows s shut.1)
              ]
              | inr shut ↦ inr (
                omega (arith, shut.0, far_now-less flows i inside s some),
                stuck-less flows i inside after some needed s ne shut.1,
              )
            ]
          ];
        }

    -- ---- the flows so far
    pub leads_on : (after' : List Bool) (e : ℕ) → Grows mid after' → LeadsToSeen after' e (get_or flows i nothing)
        → All (LeadsToSeen mid e) (take i flows) → All (LeadsToSeen after' e) (take (i + 1) flows)
    leads_on after' e grows last all =
        All-more (LeadsToSeen after' e) flows i nothing inside (All-weaker (LeadsToSeen mid e) (LeadsToSeen after' e) (λ f leads near room. grows f.far (leads near room)) (take i flows) all) last

    pub needed_on : (after' : List Bool) (s : ℕ) → Grows mid after' → IsNeeded lows after' flows s (get_or flows i nothing)
        → All (IsNeeded lows mid flows s) (take i flows) → All (IsNeeded lows after' flows s) (take (i + 1) flows)
    needed_on after' s grows last all =
        All-more (IsNeeded lows after' flows s) flows i nothing inside (All-weaker (IsNeeded lows mid flows s) (IsNeeded lows after' flows s) (λ f. needed-grown mid after' grows flows s f) (take i flows) all) last

pub open_at_end : (seen : List Bool) (flows : List Flow) (e i : ℕ) → length flows ≤ i → All (LeadsToSeen seen e) (take i flows) → IsOpenToSeen seen flows e
unfolding IsOpenToSeen
open_at_end seen flows e i past all = All-same (LeadsToSeen seen e) flows (take i flows) (sym (take_all i flows past)) all

pub stuck_at_end : (lows : List ℕ) (seen : List Bool) (flows : List Flow) (s i : ℕ) → length flows ≤ i → All (IsNeeded lows seen flows s) (take i flows) → IsStuck lows seen flows s
unfolding IsStuck
stuck_at_end lows seen flows s i past all = All-same (IsNeeded lows seen flows s) flows (take i flows) (sym (take_all i flows past)) all
