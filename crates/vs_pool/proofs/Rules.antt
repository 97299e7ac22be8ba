-- Each call of the queue keeps the rule.
use Rattle.std.proofs.Common.{◌≡◌, ◌≢◌, ℕ, zero, suc, ◌+◌, ◌-◌, ◌<◌, ◌≤◌, max, List, [], ◌∷◌, ◌++◌, set, All, sym, refl, ap, ◌∙◌, subst, ⊎_elim, arith}
use Rattle.std.proofs.lemmas.List.Elements.{All-push}
use mathlib.Core.Option.{some, some-injective, some-ne-none}
use lib.ListN.{get_elem?}
use Rattle.crossbeam_queue.specs.Fifo.{Pushes, Pops, Forks, Merges, Learns}
use Rattle.crossbeam_queue.proofs.Lists.{at_set, at_snoc}
use Rattle.vs_words.specs.Rule.{total}
use Rattle.vs_pool.specs.declared.queue.Hand.{Hand}
use Rattle.vs_pool.specs.Rule.{hand, weigh, IdleIsEmpty, AreBelow, IsBalanced}

total_set : (f : Hand → ℕ) (views : List Hand) (id : ℕ) (v w : Hand) → get_elem? views id ≡ some v → total f (set views id w) + f v ≡ total f views + f w
total_set f [] id v w at = absurd (some-ne-none v (sym at))
total_set f (x ∷ xs) zero v w at = let e : f x ≡ f v = ap f (some-injective x v at) in omega arith
total_set f (x ∷ xs) (suc id) v w at = let e = total_set f xs id v w at in omega arith

total_snoc : (f : Hand → ℕ) (views : List Hand) (w : Hand) → total f (views ++ w ∷ []) ≡ total f views + f w
total_snoc f [] w = omega arith
total_snoc f (x ∷ xs) w = let e = total_snoc f xs w in omega arith

pub weigh_append : (h : ℕ → ℕ) (xs ys : List ℕ) → weigh h (xs ++ ys) ≡ weigh h xs + weigh h ys
weigh_append h [] ys = omega arith
weigh_append h (x ∷ xs) ys = let e = weigh_append h xs ys in omega arith

-- a pass with parts takes the place of one
idle_set : (views : List Hand) (port : ℕ) (w : Hand) → (w.parts ≡ 0 → (w.put ≡ []) × (w.taken ≡ [])) → IdleIsEmpty views → IdleIsEmpty (set views port w)
idle_set views port w mine idle j u e = ⊎_elim
    (λ (x : (j ≡ port) × (w ≡ u)). subst (λ (y : Hand). y.parts ≡ 0 → (y.put ≡ []) × (y.taken ≡ [])) x.1 mine)
    (λ (x : (j ≢ port) × (get_elem? views j ≡ some u)). idle j u x.1)
    (at_set views port j w u e)

below_set : (items : List ℕ) (views : List Hand) (port : ℕ) (w : Hand) → (0 < w.parts → All (λ x. x < w.limit) items) → AreBelow items views → AreBelow items (set views port w)
below_set items views port w mine below j u e some_part = ⊎_elim
    (λ (x : (j ≡ port) × (w ≡ u)). subst (λ (y : Hand). 0 < y.parts → All (λ x. x < y.limit) items) x.1 mine some_part)
    (λ (x : (j ≢ port) × (get_elem? views j ≡ some u)). below j u x.1 some_part)
    (at_set views port j w u e)

-- one item fewer
below_rest : (x : ℕ) (items : List ℕ) (limit : ℕ) → All (λ y. y < limit) (x ∷ items) → (x < limit) × All (λ y. y < limit) items
below_rest x items limit all = (all 0 0 (omega arith), λ k d lt. all (suc k) d (omega arith))

all_below : (limit more : ℕ) (items : List ℕ) → limit ≤ more → All (λ y. y < limit) items → All (λ y. y < more) items
all_below limit more items le all k d lt = let h = all k d lt in omega arith

-- where no pass has a part, nothing is weighed
none_left : (f : Hand → ℕ) (views : List Hand) → total (λ v. v.parts) views ≡ 0 → ((j : ℕ) (u : Hand) → get_elem? views j ≡ some u → u.parts ≡ 0 → f u ≡ 0) → total f views ≡ 0
none_left f [] none idle = refl
none_left f (x ∷ xs) none idle =
    let here : f x ≡ 0 = idle 0 x refl (omega arith) in
    let more = none_left f xs (omega arith) (λ j u e. idle (suc j) u e) in omega arith

at_least : (views : List Hand) (port : ℕ) (v : Hand) → get_elem? views port ≡ some v → v.parts ≤ total (λ u. u.parts) views
at_least [] port v at = absurd (some-ne-none v (sym at))
at_least (x ∷ xs) zero v at = let e : x.parts ≡ v.parts = ap (λ (y : Hand). y.parts) (some-injective x v at) in omega arith
at_least (x ∷ xs) (suc port) v at = let e = at_least xs port v at in omega arith

-- the pass with every part has the whole total
only : (f : Hand → ℕ) (views : List Hand) (port : ℕ) (v : Hand) → get_elem? views port ≡ some v → total (λ u. u.parts) views ≡ v.parts
    → ((j : ℕ) (u : Hand) → get_elem? views j ≡ some u → u.parts ≡ 0 → f u ≡ 0) → total f views ≡ f v
only f [] port v at all idle = absurd (some-ne-none v (sym at))
only f (x ∷ xs) zero v at all idle =
    let e : x.parts ≡ v.parts = ap (λ (y : Hand). y.parts) (some-injective x v at) in
    let same : f x ≡ f v = ap f (some-injective x v at) in
    let rest = none_left f xs (omega arith) (λ j u e. idle (suc j) u e) in omega arith
only f (x ∷ xs) (suc port) v at all idle =
    let most = at_least xs port v at in
    let here : f x ≡ 0 = idle 0 x refl (omega arith) in
    let rest = only f xs port v at (omega arith) (λ j u e. idle (suc j) u e) in omega arith

-- beside the pass with every part, no pass has one
others_none : (views : List Hand) (port : ℕ) (v : Hand) (w : Hand) → get_elem? views port ≡ some v → total (λ u. u.parts) views ≡ v.parts → w.parts ≡ 0
    → (j : ℕ) (u : Hand) → j ≢ port → get_elem? views j ≡ some u → u.parts ≡ 0
others_none views port v w at all zero' j u apart there =
    let less = total_set (λ y. y.parts) views port v w at in
    let le = at_least (set views port w) j u (set_else views port j w apart ∙ there) in omega arith
  where
    set_else : (l : List Hand) (i j : ℕ) (a : Hand) → j ≢ i → get_elem? (set l i a) j ≡ get_elem? l j
    set_else [] i j a n = refl
    set_else (x ∷ xs) zero zero a n = absurd (n refl)
    set_else (x ∷ xs) zero (suc j) a n = refl
    set_else (x ∷ xs) (suc i) zero a n = refl
    set_else (x ∷ xs) (suc i) (suc j) a n = set_else xs i j a (λ e. n (ap suc e))

pub puts : (n port : ℕ) (v : Hand) (x : ℕ) → v.parts ≡ 64 → Pushes IsBalanced n port v x (λ w. w ≡ hand v.parts (max v.limit (suc x)) (v.put ++ x ∷ []) v.taken)
puts n port v x every items views room b at =
    let w : Hand = hand v.parts (max v.limit (suc x)) (v.put ++ x ∷ []) v.taken in (
      w,
      record {
        parts = (let s = total_set (λ u. u.parts) views port v w at in let p = b.parts in omega arith);
        weights = (λ h.
            let s = total_set (λ u. weigh h u.put) views port v w at in
            let t = total_set (λ u. weigh h u.taken) views port v w at in
            let p = b.weights h in
            omega (arith, weigh_append h v.put (x ∷ []), weigh_append h items (x ∷ [])));
        idle = idle_set views port w (λ none. absurd (omega arith)) b.idle;
        below = (λ j u e some_part. ⊎_elim
            (λ y. subst (λ (z : Hand). All (λ k. k < z.limit) (items ++ x ∷ [])) y.1
            (All-push (λ k. k < w.limit) items x (all_below v.limit w.limit items (omega arith) (b.below port v at (omega arith))) (omega arith)))
            (λ y. let none = others_none views port v (hand 0 0 [] []) at (b.parts ∙ sym every) refl j u y.0 y.1 in absurd (omega arith))
            (at_set views port j w u e));
      },
      refl,
    )

pub takes : (port : ℕ) (v : Hand) → 0 < v.parts → Pops IsBalanced port v (λ x w. (w ≡ hand v.parts v.limit v.put (v.taken ++ x ∷ [])) × (x < v.limit))
takes port v some_part x items views b at =
    let w : Hand = hand v.parts v.limit v.put (v.taken ++ x ∷ []) in
    let mine = below_rest x items v.limit (b.below port v at some_part) in (
      w,
      record {
        parts = (let s = total_set (λ u. u.parts) views port v w at in let p = b.parts in omega arith);
        weights = (λ h.
            let s = total_set (λ u. weigh h u.put) views port v w at in
            let t = total_set (λ u. weigh h u.taken) views port v w at in
            let p = b.weights h in
            omega (arith, weigh_append h v.taken (x ∷ [])));
        idle = idle_set views port w (λ none. absurd (omega arith)) b.idle;
        below = below_set items views port w (λ _. mine.1) (λ j u e part. (below_rest x items u.limit (b.below j u e part)).1);
      },
      (refl, mine.0),
    )

pub forks : (port : ℕ) (v : Hand) → 1 < v.parts → Forks IsBalanced port v (hand (v.parts - 1) v.limit v.put v.taken) (hand 1 v.limit [] [])
forks port v two items views b at =
    let l : Hand = hand (v.parts - 1) v.limit v.put v.taken in
    let r : Hand = hand 1 v.limit [] [] in
    let vs : List Hand = set views port l in
    let mine = b.below port v at (omega arith) in
    record {
      parts = (let s = total_set (λ u. u.parts) views port v l at in let t = total_snoc (λ u. u.parts) vs r in let p = b.parts in omega arith);
      weights = (λ h.
          let s = total_set (λ u. weigh h u.put) views port v l at in
          let t = total_set (λ u. weigh h u.taken) views port v l at in
          let s' = total_snoc (λ u. weigh h u.put) vs r in
          let t' = total_snoc (λ u. weigh h u.taken) vs r in
          let p = b.weights h in omega arith);
      idle = (λ j u e none. ⊎_elim
          (λ x. idle_set views port l (λ none'. absurd (omega arith)) b.idle j u x none)
          (λ (is : r ≡ u). let p : 1 ≡ u.parts = ap (λ (y : Hand). y.parts) is in absurd (omega arith))
          (at_snoc vs r u j e));
      below = (λ j u e part. ⊎_elim
          (λ x. below_set items views port l (λ _. mine) b.below j u x part)
          (λ (is : r ≡ u). subst (λ (y : Hand). All (λ x. x < y.limit) items) is mine)
          (at_snoc vs r u j e));
    }

pub merges : (port : ℕ) (v : Hand) (other : ℕ) (u : Hand) → 0 < v.parts
    → Merges IsBalanced port v other u (hand (v.parts + u.parts) v.limit (v.put ++ u.put) (v.taken ++ u.taken)) (hand 0 0 [] [])
merges port v other u some_part items views b at two at' =
    let both : Hand = hand (v.parts + u.parts) v.limit (v.put ++ u.put) (v.taken ++ u.taken) in
    let spent : Hand = hand 0 0 [] [] in
    let vs : List Hand = set views port both in
    let mine = b.below port v at some_part in
    record {
      parts = (let s = total_set (λ y. y.parts) views port v both at in let t = total_set (λ y. y.parts) vs other u spent at' in let p = b.parts in omega arith);
      weights = (λ h.
          let s = total_set (λ y. weigh h y.put) views port v both at in
          let t = total_set (λ y. weigh h y.taken) views port v both at in
          let s' = total_set (λ y. weigh h y.put) vs other u spent at' in
          let t' = total_set (λ y. weigh h y.taken) vs other u spent at' in
          let p = b.weights h in
          omega (arith, weigh_append h v.put u.put, weigh_append h v.taken u.taken));
      idle = idle_set vs other spent (λ _. (refl, refl)) (idle_set views port both (λ none. absurd (omega arith)) b.idle);
      below = below_set items vs other spent (λ none. absurd (omega arith)) (below_set items views port both (λ _. mine) b.below);
    }

pub learns : (port : ℕ) (v : Hand) → v.parts ≡ 64 → Learns IsBalanced port v (λ items. (h : ℕ → ℕ) → weigh h v.put ≡ weigh h v.taken + weigh h items)
learns port v all items views b at h =
    let p = only (λ u. weigh h u.put) views port v at (b.parts ∙ sym all) (λ j u e none. ap (weigh h) (b.idle j u e none).0) in
    let t = only (λ u. weigh h u.taken) views port v at (b.parts ∙ sym all) (λ j u e none. ap (weigh h) (b.idle j u e none).1) in
    let k = b.weights h in omega arith
