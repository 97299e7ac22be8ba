-- Counts over numbers, and whether any number passes.
use Rattle.std.proofs.Common.{◌≡◌, ◌≢◌, ℕ, zero, suc, ◌+◌, ◌≤◌, Bool, true, false, refl, sym, ap, ◌∙◌, arith, inl, inr}
use Rattle.std.specs.Prelude.{◌==◌, ◌⊎◌, ◌&&◌, ◌||◌, nat_lt, if◌then◌else◌}
use Rattle.std.proofs.lemmas.Bool.Decides.{nat_tests}
use Rattle.vs_machine.specs.Tables.{count_to, is_to}

pub counts_same : (p q : ℕ → Bool) (n : ℕ) → ((b : ℕ) → 1 ≤ b → b ≤ n → p b ≡ q b) → count_to p n ≡ count_to q n
counts_same p q zero same = refl
counts_same p q (suc n) same =
    let before : count_to p n ≡ count_to q n = counts_same p q n (λ b f l. same b f (omega arith)) in
    let here : p (suc n) ≡ q (suc n) = same (suc n) (omega arith) (omega arith) in
    ap (λ t. count_to p n + (if t then 1 else 0)) here ∙ ap (λ c. c + (if q (suc n) then 1 else 0)) before

pub counts_none : (p : ℕ → Bool) (n : ℕ) → ((b : ℕ) → p b ≡ false) → count_to p n ≡ 0
counts_none p zero none = refl
counts_none p (suc n) none = grind (arith, counts_none p n none, none (suc n))

last_or : (k n : ℕ) → k ≤ suc n → (k ≡ suc n) ⊎ (k ≤ n)
last_or k n h = grind arith

-- one number more passes
pub one_more : (p q : ℕ → Bool) (k n : ℕ) → 1 ≤ k → k ≤ n → p k ≡ true → q k ≡ false → ((b : ℕ) → b ≢ k → p b ≡ q b) → count_to p n ≡ count_to q n + 1
one_more p q k zero least most yea nay others = absurd (omega arith)
one_more p q k (suc n) least most yea nay others = by (last_or k n most) (λ l. one_more p q k n least l yea nay others)
  where
    by : (k ≡ suc n) ⊎ (k ≤ n) → (k ≤ n → count_to p n ≡ count_to q n + 1) → count_to p (suc n) ≡ count_to q (suc n) + 1
    by (inl same) before =
        let rest : count_to p n ≡ count_to q n = counts_same p q n (λ b f l. others b (λ e. omega arith)) in
        let here : p (suc n) ≡ true = ap p (sym same) ∙ yea in
        let there : q (suc n) ≡ false = ap q (sym same) ∙ nay in
        grind (arith, rest, here, there)
    by (inr l) before =
        let here : p (suc n) ≡ q (suc n) = others (suc n) (λ e. omega arith) in
        grind (arith, before l, here)

pub counts_most : (p : ℕ → Bool) (n : ℕ) → count_to p n ≤ n
counts_most p zero = omega arith
counts_most p (suc n) = by (p (suc n)) (counts_most p n)
  where
    by : (t : Bool) → count_to p n ≤ n → count_to p n + (if t then 1 else 0) ≤ suc n
    by true l = omega arith
    by false l = omega arith

-- one of two tests passes, and never both
pub counts_or : (p q : ℕ → Bool) (n : ℕ) → ((b : ℕ) → (p b && q b) ≡ false) → count_to (λ b. p b || q b) n ≡ count_to p n + count_to q n
counts_or p q zero apart = omega arith
counts_or p q (suc n) apart = by (p (suc n)) (q (suc n)) (apart (suc n)) (counts_or p q n apart)
  where
    by : (s t : Bool) → (s && t) ≡ false → count_to (λ b. p b || q b) n ≡ count_to p n + count_to q n → count_to (λ b. p b || q b) n + (if s || t then 1 else 0) ≡ (count_to p n + (if s then 1 else 0)) + (count_to q n + (if t then 1 else 0))
    by true true e before = absurd cc
    by true false e before = omega (arith, before)
    by false true e before = omega (arith, before)
    by false false e before = omega (arith, before)

-- the first number by itself
pub counts_first : (p : ℕ → Bool) (n : ℕ) → count_to p (suc n) ≡ (if p 1 then 1 else 0) + count_to (λ k. p (suc k)) n
counts_first p zero = omega arith
counts_first p (suc n) = omega (arith, counts_first p n)

-- ---- whether any number from 1 to n passes

abbrev pub any_to : (ℕ → Bool) → ℕ → Bool
any_to p n = nat_lt 0 (count_to p n)

any_last : (p : ℕ → Bool) (n : ℕ) → any_to p (suc n) ≡ (any_to p n || p (suc n))
any_last p n = by (p (suc n))
  where
    by : (t : Bool) → nat_lt 0 (count_to p n + (if t then 1 else 0)) ≡ (nat_lt 0 (count_to p n) || t)
    by true = grind (arith, nat_tests)
    by false = grind (arith, nat_tests)

pub any_same : (p q : ℕ → Bool) (n : ℕ) → ((b : ℕ) → 1 ≤ b → b ≤ n → p b ≡ q b) → any_to p n ≡ any_to q n
any_same p q n same = ap (nat_lt 0) (counts_same p q n same)

pub any_none : (n : ℕ) → any_to (λ b. false) n ≡ false
any_none n = ap (nat_lt 0) (counts_none (λ b. false) n (λ b. refl))

or_shuffle : (a b c d : Bool) → ((a || b) || (c || d)) ≡ ((a || c) || (b || d))
or_shuffle true b c d = refl
or_shuffle false true true d = refl
or_shuffle false true false d = refl
or_shuffle false false c d = refl

-- one of two tests passes
pub any_or : (p q : ℕ → Bool) (n : ℕ) → any_to (λ b. p b || q b) n ≡ (any_to p n || any_to q n)
any_or p q zero = refl
any_or p q (suc n) =
    any_last (λ b. p b || q b) n
    ∙ ap (λ t. t || (p (suc n) || q (suc n))) (any_or p q n)
    ∙ or_shuffle (any_to p n) (any_to q n) (p (suc n)) (q (suc n))
    ∙ ap (λ t. t || (any_to q n || q (suc n))) (sym (any_last p n))
    ∙ ap (λ t. any_to p (suc n) || t) (sym (any_last q n))

or_and : (a b t : Bool) → ((a && t) || (b && t)) ≡ ((a || b) && t)
or_and true true true = refl
or_and true true false = refl
or_and true false true = refl
or_and true false false = refl
or_and false b t = refl

any_only : (k n : ℕ) (t : Bool) → any_to (λ b. (b == k) && t) n ≡ (is_to n k && t)
any_only k zero t =
    let past : is_to 0 k ≡ false = grind (arith, nat_tests) in
    sym (ap (λ c. c && t) past)
any_only k (suc n) t =
    let more : (is_to n k || (suc n == k)) ≡ is_to (suc n) k = grind (arith, nat_tests) in
    any_last (λ b. (b == k) && t) n
    ∙ ap (λ c. c || ((suc n == k) && t)) (any_only k n t)
    ∙ or_and (is_to n k) (suc n == k) t
    ∙ ap (λ c. c && t) more

chosen : (here t before : Bool) → (here ≡ true → before ≡ false) → (if here then t else before) ≡ ((here && t) || before)
chosen true true before none = refl
chosen true false before none = sym (none refl)
chosen false t before none = refl

-- a number is tested otherwise, where it didn't pass before
pub any_at : (q : ℕ → Bool) (k n : ℕ) (t : Bool) → q k ≡ false → any_to (λ b. if b == k then t else q b) n ≡ ((is_to n k && t) || any_to q n)
any_at q k n t none =
    any_same (λ b. if b == k then t else q b) (λ b. ((b == k) && t) || q b) n (λ b f l. chosen (b == k) t (q b) (λ e. ap q (at b e) ∙ none))
    ∙ any_or (λ b. (b == k) && t) q n
    ∙ ap (λ c. c || any_to q n) (any_only k n t)
  where
    at : (b : ℕ) → (b == k) ≡ true → b ≡ k
    at b e = grind (arith, nat_tests, e)
