-- How what lies on the connections, and what the entries cost, changes with one of them.
use Rattle.std.proofs.Common.{inl, inr, ◌≡◌, ℕ, ◌+◌, ◌≤◌, ◌==◌, Bool, true, false, refl, sym, ap, subst, ◌∙◌, arith}
use Rattle.std.specs.Prelude.{◌≢◌, ◌⊎◌, if◌then◌else◌}
use Rattle.std.proofs.lemmas.Bool.{cases_eq, eqb-true}
use Rattle.vs_link.specs.Connection.{Connection}
use Rattle.vs_machine.specs.Tables.{put, put_at}
use Rattle.vs_machine.specs.State.{Bucket}
use Rattle.vs_settle.specs.Weight.{load, load_at, loads, price, price_at, prices}
use Rattle.vs_settle.proofs.Sums.{over_at, over_le}
use Rattle.vs_settle.proofs.Tables.{put_at_here, put_at_there}

apart_load : (ls : ℕ → ℕ → Connection) (x y : ℕ) → (x == y) ≡ false → load_at ls x y ≡ load (ls x y)
apart_load ls x y e = ap (λ (t : Bool). if t then 0 else load (ls x y)) e

-- another connection at one pair
pub loads_at : (ls : ℕ → ℕ → Connection) (n x y : ℕ) (l : Connection) → 1 ≤ x → x ≤ n → 1 ≤ y → y ≤ n → (x == y) ≡ false → loads (put_at ls x y l) n + load (ls x y) ≡ loads ls n + load l
loads_at ls n x y l a b c d apart =
    let changed : loads (put_at ls x y l) n + load_at ls x y ≡ loads ls n + load_at (put_at ls x y l) x y =
    over_at (load_at ls) (load_at (put_at ls x y l)) n n x y a b c d (λ p q ne. ap (λ u. if p == q then 0 else load u) (put_at_there ls x y l p q ne)) in
    let old : load_at ls x y ≡ load (ls x y) = apart_load ls x y apart in
    let new : load_at (put_at ls x y l) x y ≡ load l = apart_load (put_at ls x y l) x y apart ∙ ap load (put_at_here ls x y l) in
    omega (arith, changed, old, new)

-- other entries of one bucket, at one set
pub prices_move : (bs cs : ℕ → Bucket) (n m x b : ℕ) → 1 ≤ x → x ≤ n → 1 ≤ b → b ≤ m
    → ((y : ℕ) → y ≢ x → (cs b).entry y ≡ (bs b).entry y) → ((y : ℕ) → y ≢ x → (cs b).rows y ≡ (bs b).rows y) → ((c : ℕ) → c ≢ b → cs c ≡ bs c)
    → prices cs n m + price_at bs x b ≡ prices bs n m + price_at cs x b
prices_move bs cs n m x b a1 a2 b1 b2 entries rows buckets = over_at (price_at bs) (price_at cs) n m x b a1 a2 b1 b2 others
  where
    others : (p q : ℕ) → (p ≡ x → q ≡ b → ⊥) → price_at cs p q ≡ price_at bs p q
    others p q ne = by (cases_eq q b)
      where
        by : (q ≡ b) ⊎ (q ≢ b) → price_at cs p q ≡ price_at bs p q
        by (inl e) =
            let apart : p ≢ x = λ is. ne is e in
            subst (λ r. price_at cs p r ≡ price_at bs p r) (sym e) (λ i. price (entries p apart i) (rows p apart i))
        by (inr n) = ap (λ (u : Bucket). price (u.entry p) (u.rows p)) (buckets q n)

-- a bucket that costs no more at any set
pub prices_le : (bs : ℕ → Bucket) (n m b : ℕ) (new : Bucket) → ((y : ℕ) → price (new.entry y) (new.rows y) ≤ price ((bs b).entry y) ((bs b).rows y)) → prices (put bs b new) n m ≤ prices bs n m
prices_le bs n m b new le = over_le (price_at (put bs b new)) (price_at bs) n m (λ p q _ _ _ _. each p q)
  where
    each : (p q : ℕ) → price_at (put bs b new) p q ≤ price_at bs p q
    each p q = by (q == b) refl
      where
        by : (t : Bool) → (q == b) ≡ t → price ((if t then new else bs q).entry p) ((if t then new else bs q).rows p) ≤ price ((bs q).entry p) ((bs q).rows p)
        by true e = subst (λ r. price (new.entry p) (new.rows p) ≤ price ((bs r).entry p) ((bs r).rows p)) (sym (eqb-true q b e)) (le p)
        by false e = omega arith
