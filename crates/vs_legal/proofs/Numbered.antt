-- The numbers from 1 to n, counted up.
use Rattle.std.proofs.Common.{◌≡◌, ℕ, zero, suc, ◌+◌, ◌<◌, ◌≤◌, List, [], ◌∷◌, ◌++◌, refl, sym, ap, ◌∙◌, arith}
use Rattle.std.specs.List.{AllByRecursion}
use Rattle.vs_machine.specs.Report.{numbers_to}
use Rattle.vs_legal.proofs.ReadLines.{from}

from_more : (m k : ℕ) → from k (suc m) ≡ from k m ++ (k + m) ∷ []
from_more zero k = let e : k ≡ k + 0 = omega arith in ap (λ (q : ℕ). q ∷ []) e
from_more (suc m) k =
    let e : k + 1 + m ≡ k + suc m = omega arith in
    ap (λ (r : List ℕ). k ∷ r) (from_more m (k + 1) ∙ ap (λ (q : ℕ). from (k + 1) m ++ q ∷ []) e)

pub numbers_are : (n : ℕ) → numbers_to n ≡ from 1 n
numbers_are zero = refl
numbers_are (suc n) =
    let e : suc n ≡ 1 + n = omega arith in
    ap (λ (r : List ℕ). r ++ suc n ∷ []) (numbers_are n) ∙ ap (λ (q : ℕ). from 1 n ++ q ∷ []) e ∙ sym (from_more n 1)

pub all_from : (P : ℕ → Type 0) (m k : ℕ) → ((j : ℕ) → k ≤ j → j < k + m → P j) → AllByRecursion P (from k m)
all_from P zero k each = tt
all_from P (suc m) k each = (each k (omega arith) (omega arith), all_from P m (k + 1) (λ j low high. each j (omega arith) (omega arith)))
