-- One item of a list, and one more.
use Rattle.std.proofs.Common.{◌≡◌, ◌≢◌, ◌⊎◌, inl, inr, ⊎_elim, ℕ, zero, suc, ◌<◌, ◌≤◌, ◌+◌, ◌-◌, List, [], ◌∷◌, ◌++◌, length, Option, Some, None, drop, refl, sym, ap, subst, ◌∙◌, arith, get_or}
use Rattle.std.proofs.lemmas.List.{drop-drop}
use Rattle.std.specs.Prelude.{slice_get, slice_set, remove}
use Rattle.std.proofs.lemmas.Bool.{cases_eq}
use Rattle.vs_stores.specs.Numbered.{at_number}

pub some_is : {A : Type 0} (x y : A) → ◌≡◌ {A = Option A} (Some x) (Some y) → x ≡ y
some_is x y e = cc

-- ---- one item is another

pub set_same : {A : Type 0} (xs : List A) (i : ℕ) (a : A) → i < length xs → slice_get (slice_set xs i a) i ≡ Some a
set_same [] i a lt = absurd (omega (arith, lt))
set_same (x ∷ xs) zero a lt = refl
set_same (x ∷ xs) (suc i) a lt = set_same xs i a (omega (arith, lt))

pub set_other : {A : Type 0} (xs : List A) (i j : ℕ) (a : A) → j ≢ i → slice_get (slice_set xs i a) j ≡ slice_get xs j
set_other [] i j a away = refl
set_other (x ∷ xs) zero zero a away = absurd (away refl)
set_other (x ∷ xs) zero (suc j) a away = refl
set_other (x ∷ xs) (suc i) zero a away = refl
set_other (x ∷ xs) (suc i) (suc j) a away = set_other xs i j a (λ e. away (ap suc e))

pub set_is : {A : Type 0} (xs : List A) (i : ℕ) (a b : A) → slice_get (slice_set xs i a) i ≡ Some b → a ≡ b
set_is [] i a b e = absurd cc
set_is (x ∷ xs) zero a b e = some_is a b e
set_is (x ∷ xs) (suc i) a b e = set_is xs i a b e

-- what each item has after that
pub each_set : {A : Type 0} (P : ℕ → A → Type 0) (xs : List A) (i : ℕ) (b : A) → ((j : ℕ) (a : A) → j ≢ i → slice_get xs j ≡ Some a → P j a) → P i b → (j : ℕ) (a : A) → slice_get (slice_set xs i b) j ≡ Some a → P j a
each_set {A = A} P xs i b others one j a is = ⊎_elim same away (cases_eq j i)
  where
    same : j ≡ i → P j a
    same e =
        let b_is : b ≡ a = set_is xs i b a (subst (λ (k : ℕ). slice_get (slice_set xs i b) k ≡ Some a) e is) in
        subst (λ (k : ℕ). P k a) (sym e) (subst (P i) b_is one)

    away : (j ≡ i → ⊥) → P j a
    away ne = others j a ne (sym (set_other xs i j b ne) ∙ is)

-- ---- numbers that count from 1

pub at_number_other : {A : Type 0} (xs : List A) (i : ℕ) (a : A) (y : ℕ) → y ≢ suc i → at_number (slice_set xs i a) y ≡ at_number xs y
at_number_other xs i a zero away = refl
at_number_other xs i a (suc j) away = set_other xs i j a (λ e. away (ap suc e))

-- ---- one item more

pub push_get : {A : Type 0} (xs : List A) (a : A) (y : ℕ) → y < length xs → slice_get (xs ++ a ∷ []) y ≡ slice_get xs y
push_get [] a y lt = absurd (omega (arith, lt))
push_get (x ∷ xs) a zero lt = refl
push_get (x ∷ xs) a (suc y) lt = push_get xs a y (omega (arith, lt))

pub push_last : {A : Type 0} (xs : List A) (a : A) → slice_get (xs ++ a ∷ []) (length xs) ≡ Some a
push_last [] a = refl
push_last (x ∷ xs) a = push_last xs a

-- an item of a list with one more is one from before or the last
pub pushed : {A : Type 0} (xs : List A) (a : A) (y : ℕ) (b : A) → slice_get (xs ++ a ∷ []) y ≡ Some b → ((y < length xs) × (slice_get xs y ≡ Some b)) ⊎ ((y ≡ length xs) × (a ≡ b))
pushed [] a zero b is = inr (refl, some_is a b is)
pushed [] a (suc y) b is = absurd cc
pushed (x ∷ xs) a zero b is = inl (omega arith, is)
pushed (x ∷ xs) a (suc y) b is = ⊎_elim (λ h. inl (omega (arith, h.0), h.1)) (λ h. inr (ap suc h.0, h.1)) (pushed xs a y b is)

-- the first of a list, and the rest
pub removed : {A : Type 0} (xs ys : List A) (a : A) → 0 < length xs → a ≡ get_or xs 0 a → ys ≡ remove xs 0 → xs ≡ a ∷ ys
removed [] ys a lt is e = absurd (omega (arith, lt))
removed (x ∷ xs) ys a lt is e = λ i. sym is i ∷ sym e i

-- the rest of a list from a place on

same_head : {A : Type 0} (x y : A) (xs ys : List A) → x ∷ xs ≡ y ∷ ys → x ≡ y
same_head x y xs ys e = cc

pub at_drop : {A : Type 0} (xs : List A) (k : ℕ) (a : A) (l : List A) → drop k xs ≡ a ∷ l → slice_get xs k ≡ Some a
at_drop [] zero a l e = absurd cc
at_drop [] (suc k) a l e = absurd cc
at_drop (y ∷ ys) zero a l e = ap Some (same_head y a ys l e)
at_drop (y ∷ ys) (suc k) a l e = at_drop ys k a l e

nil_get : {A : Type 0} (n : ℕ) → slice_get {X = A} [] n ≡ None
nil_get zero = refl
nil_get (suc n) = refl

add_suc : (k j : ℕ) → suc k + j ≡ suc (k + j)
add_suc k j = omega arith

pub drop_get : {A : Type 0} (xs : List A) (k j : ℕ) → slice_get (drop k xs) j ≡ slice_get xs (k + j)
drop_get xs zero j = ap (λ (n : ℕ). slice_get xs n) (omega arith)
drop_get [] (suc k) j = nil_get j ∙ sym (nil_get (suc k + j))
drop_get (x ∷ xs) (suc k) j = drop_get xs k j ∙ sym (ap (λ (n : ℕ). slice_get (x ∷ xs) n) (add_suc k j))

-- ---- two lists, one behind the other

pub front_get : {A : Type 0} (xs ys : List A) (i : ℕ) → i < length xs → slice_get (xs ++ ys) i ≡ slice_get xs i
front_get [] ys i lt = absurd (omega (arith, lt))
front_get (x ∷ xs) ys zero lt = refl
front_get (x ∷ xs) ys (suc i) lt = front_get xs ys i (omega (arith, lt))

pub back_get : {A : Type 0} (xs ys : List A) (j : ℕ) → slice_get (xs ++ ys) (length xs + j) ≡ slice_get ys j
back_get [] ys j = ap (λ (n : ℕ). slice_get ys n) (omega arith)
back_get (x ∷ xs) ys j = ap (λ (n : ℕ). slice_get (x ∷ (xs ++ ys)) n) (add_suc (length xs) j) ∙ back_get xs ys j

-- ---- items that are there

pub get_within : {A : Type 0} (xs : List A) (i : ℕ) → i < length xs → (a : A) × (slice_get xs i ≡ Some a)
get_within [] i lt = absurd (omega (arith, lt))
get_within (x ∷ xs) zero lt = (x, refl)
get_within (x ∷ xs) (suc i) lt = get_within xs i (omega (arith, lt))

pub first_of : {A : Type 0} (xs : List A) → 1 ≤ length xs → (a : A) × (rest : List A) × (xs ≡ a ∷ rest)
first_of [] le = absurd (omega (arith, le))
first_of (x ∷ xs) le = (x, xs, refl)

pub number_is : {A : Type 0} (xs : List A) (x i : ℕ) (a : A) → x ≡ i + 1 → at_number xs x ≡ Some a → slice_get xs i ≡ Some a
number_is xs zero i a e at = absurd (omega (arith, e))
number_is xs (suc k) i a e at = subst (λ (n : ℕ). slice_get xs n ≡ Some a) (omega (arith, e)) at

pub set_drop : {A : Type 0} (xs : List A) (i n : ℕ) (a : A) → i < n → drop n (slice_set xs i a) ≡ drop n xs
set_drop [] i n a lt = refl
set_drop (x ∷ xs) i zero a lt = absurd (omega (arith, lt))
set_drop (x ∷ xs) zero (suc n) a lt = refl
set_drop (x ∷ xs) (suc i) (suc n) a lt = set_drop xs i n a (omega (arith, lt))

pub drop_more : {A : Type 0} (xs ys : List A) (k n : ℕ) → k ≤ n → drop k xs ≡ drop k ys → drop n xs ≡ drop n ys
drop_more xs ys k n le e =
    let split : k + (n - k) ≡ n = omega (arith, le) in
    subst (λ (m : ℕ). drop m xs ≡ drop m ys) split (sym (drop-drop (n - k) k xs) ∙ ap (drop (n - k)) e ∙ drop-drop (n - k) k ys)
