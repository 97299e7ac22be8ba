-- Sums over the numbers from 1 to n: how they change where one of them changes.
use Rattle.std.proofs.Common.{◌≡◌, ℕ, zero, suc, inl, inr, ◌+◌, ◌*◌, ◌≤◌, refl, ap, sym, subst, arith}
use Rattle.std.specs.Prelude.{◌≢◌, ◌⊎◌}
use Rattle.vs_machine.specs.Tables.{sum_to}
use Rattle.vs_settle.specs.Weight.{sum_over}

last_or : (k n : ℕ) → k ≤ suc n → (k ≡ suc n) ⊎ (k ≤ n)
last_or k n h = grind arith

pub sum_same : (f g : ℕ → ℕ) (n : ℕ) → ((k : ℕ) → k ≤ n → g k ≡ f k) → sum_to g n ≡ sum_to f n
sum_same f g zero same = refl
sum_same f g (suc n) same =
    let rest : sum_to g n ≡ sum_to f n = sum_same f g n (λ k h. same k (omega (arith, h))) in
    λ i. rest i + same (suc n) (omega arith) i

pub sum_at : (f g : ℕ → ℕ) (n k : ℕ) → 1 ≤ k → k ≤ n → ((j : ℕ) → j ≢ k → g j ≡ f j) → sum_to g n + f k ≡ sum_to f n + g k
sum_at f g zero k from to others = absurd (omega arith)
sum_at f g (suc n) k from to others = by (λ below. sum_at f g n k from below others) (last_or k n to)
  where
    by : (k ≤ n → sum_to g n + f k ≡ sum_to f n + g k) → (k ≡ suc n) ⊎ (k ≤ n) → sum_to g (suc n) + f k ≡ sum_to f (suc n) + g k
    by earlier (inl is) =
        let rest : sum_to g n ≡ sum_to f n = sum_same f g n (λ j h. others j (λ e. absurd (omega (arith, h, e, is)))) in
        let here : f (suc n) ≡ f k = ap f (sym is) in
        let there : g (suc n) ≡ g k = ap g (sym is) in
        omega (arith, rest, here, there)
    by earlier (inr below) =
        let rest : sum_to g n + f k ≡ sum_to f n + g k = earlier below in
        let last : g (suc n) ≡ f (suc n) = others (suc n) (λ e. absurd (omega (arith, below, e))) in
        omega (arith, rest, last)

pub sum_le : (f g : ℕ → ℕ) (n : ℕ) → ((k : ℕ) → 1 ≤ k → k ≤ n → f k ≤ g k) → sum_to f n ≤ sum_to g n
sum_le f g zero le = omega arith
sum_le f g (suc n) le =
    let rest : sum_to f n ≤ sum_to g n = sum_le f g n (λ k from to. le k from (omega (arith, to))) in
    let last : f (suc n) ≤ g (suc n) = le (suc n) (omega arith) (omega arith) in
    omega (arith, rest, last)

-- one is less, and none is more
pub sum_less : (f g : ℕ → ℕ) (n k : ℕ) → 1 ≤ k → k ≤ n → f k + 1 ≤ g k → ((j : ℕ) → f j ≤ g j) → sum_to f n + 1 ≤ sum_to g n
sum_less f g zero k from to less le = absurd (omega (arith, from, to))
sum_less f g (suc n) k from to less le = by (λ below. sum_less f g n k from below less le) (last_or k n to)
  where
    by : (k ≤ n → sum_to f n + 1 ≤ sum_to g n) → (k ≡ suc n) ⊎ (k ≤ n) → sum_to f (suc n) + 1 ≤ sum_to g (suc n)
    by earlier (inl is) =
        let rest : sum_to f n ≤ sum_to g n = sum_le f g n (λ j a b. le j) in
        let last : f (suc n) + 1 ≤ g (suc n) = subst (λ (j : ℕ). f j + 1 ≤ g j) is less in
        omega (arith, rest, last)
    by earlier (inr below) =
        let rest : sum_to f n + 1 ≤ sum_to g n = earlier below in
        let last : f (suc n) ≤ g (suc n) = le (suc n) in
        omega (arith, rest, last)

-- with at most one more of each
pub sum_ones : (f g : ℕ → ℕ) (n : ℕ) → ((k : ℕ) → f k ≤ 1 + g k) → sum_to f n ≤ n + sum_to g n
sum_ones f g zero le = omega arith
sum_ones f g (suc n) le =
    let rest : sum_to f n ≤ n + sum_to g n = sum_ones f g n le in
    let last : f (suc n) ≤ 1 + g (suc n) = le (suc n) in
    omega (arith, rest, last)

pub sum_scale : (f g : ℕ → ℕ) (c n : ℕ) → ((k : ℕ) → f k ≤ c * g k) → sum_to f n ≤ c * sum_to g n
sum_scale f g c zero le = omega arith
sum_scale f g c (suc n) le =
    let rest : sum_to f n ≤ c * sum_to g n = sum_scale f g c n le in
    let last : f (suc n) ≤ c * g (suc n) = le (suc n) in
    omega (arith, rest, last)

-- ---- sums over two numbers

pub over_same : (f g : ℕ → ℕ → ℕ) (n m : ℕ) → ((p q : ℕ) → g p q ≡ f p q) → sum_over g n m ≡ sum_over f n m
over_same f g n m same = sum_same (λ p. sum_to (f p) m) (λ p. sum_to (g p) m) n (λ p h. sum_same (f p) (g p) m (λ q k. same p q))

pub over_le : (f g : ℕ → ℕ → ℕ) (n m : ℕ) → ((p q : ℕ) → 1 ≤ p → p ≤ n → 1 ≤ q → q ≤ m → f p q ≤ g p q) → sum_over f n m ≤ sum_over g n m
over_le f g n m le = sum_le (λ p. sum_to (f p) m) (λ p. sum_to (g p) m) n (λ p a b. sum_le (f p) (g p) m (λ q c d. le p q a b c d))

pub over_at : (f g : ℕ → ℕ → ℕ) (n m x y : ℕ) → 1 ≤ x → x ≤ n → 1 ≤ y → y ≤ m → ((p q : ℕ) → (p ≡ x → q ≡ y → ⊥) → g p q ≡ f p q) → sum_over g n m + f x y ≡ sum_over f n m + g x y
over_at f g n m x y a b c d others =
    let outer : sum_over g n m + sum_to (f x) m ≡ sum_over f n m + sum_to (g x) m =
    sum_at (λ p. sum_to (f p) m) (λ p. sum_to (g p) m) n x a b (λ p ne. sum_same (f p) (g p) m (λ q h. others p q (λ e _. ne e))) in
    let inner : sum_to (g x) m + f x y ≡ sum_to (f x) m + g x y = sum_at (f x) (g x) m y c d (λ q ne. others x q (λ _ e. ne e)) in
    omega (arith, outer, inner)
