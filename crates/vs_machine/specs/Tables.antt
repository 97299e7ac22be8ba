-- Tables as functions of numbers that count from 1.
use Rattle.std.specs.Prelude.{ℕ, zero, suc, ◌==◌, ◌+◌, ◌&&◌, nat_le, Bool, if◌then◌else◌, List, [], ◌∷◌, ◌++◌, Option, Some, None}

-- the table f with v at k
abbrev pub put : {A : Type 0} → (ℕ → A) → ℕ → A → ℕ → A
put f k v q = if q == k then v else f q

-- a table of two numbers with v at x and y
abbrev pub put_at : {A : Type 0} → (ℕ → ℕ → A) → ℕ → ℕ → A → ℕ → ℕ → A
put_at f x y v = put f x (put (f x) y v)

-- the number is from 1 to n
abbrev pub is_to : ℕ → ℕ → Bool
is_to n k = nat_le 1 k && nat_le k n

-- how many from 1 to n pass
abbrev pub count_to : (ℕ → Bool) → ℕ → ℕ
count_to p zero = 0
count_to p (suc n) = count_to p n + (if p (suc n) then 1 else 0)

abbrev pub or_else : {A : Type 0} → Option A → Option A → Option A
or_else (Some x) y = Some x
or_else None y = y

-- the least from 1 to n that passes
abbrev pub least_to : (ℕ → Bool) → ℕ → Option ℕ
least_to p zero = None
least_to p (suc n) = or_else (least_to p n) (if p (suc n) then Some (suc n) else None)

-- the values at 1 to n
abbrev pub list_to : {A : Type 0} → (ℕ → A) → ℕ → List A
list_to f zero = []
list_to f (suc n) = list_to f n ++ f (suc n) ∷ []

-- the sum of the values at 1 to n
abbrev pub sum_to : (ℕ → ℕ) → ℕ → ℕ
sum_to f zero = 0
sum_to f (suc n) = sum_to f n + f (suc n)
