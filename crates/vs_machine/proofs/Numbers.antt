-- Lists of numbers none of which stands twice.
use Rattle.std.proofs.Common.{◌≡◌, ℕ, ◌<◌, refl, sym, ap, arith, List, [], ◌∷◌, ◌++◌}
use Rattle.std.specs.Prelude.{All, map, ◌≢◌}
use Rattle.std.proofs.lemmas.List.Elements.{All-nil, All-cons, All-head, All-tail, All-push}
use Rattle.vs_machine.specs.Inner.Lines.{AreDistinct}

-- a number above all others may stand at the end
pub distinct_push : (ns : List ℕ) (n : ℕ) → AreDistinct ns → All (λ m. m < n) ns → AreDistinct (ns ++ n ∷ [])
distinct_push [] n d below = (All-nil _, tt)
distinct_push (m ∷ ns) n d below =
    let first : m < n = All-head (λ k. k < n) m ns below in
    (All-push (λ k. k ≢ m) ns n d.0 (λ e. absurd (omega arith)), distinct_push ns n d.1 (All-tail (λ k. k < n) m ns below))

-- what stands before and after a number isn't that number
pub distinct_around : (xs : List ℕ) (n : ℕ) (ys : List ℕ) → AreDistinct (xs ++ n ∷ ys) → All (λ m. m ≢ n) xs × All (λ m. m ≢ n) ys
distinct_around [] n ys d = (All-nil _, d.0)
distinct_around (x ∷ xs) n ys d =
    let rest = distinct_around xs n ys d.1 in
    let other : n ≢ x = All-head (λ m. m ≢ x) n ys (All-after (λ m. m ≢ x) xs (n ∷ ys) d.0) in
    (All-cons (λ m. m ≢ n) x xs (λ e. other (sym e)) rest.0, rest.1)
  where
    All-after : {X : Type 0} (P : X → Type 0) (us vs : List X) → All P (us ++ vs) → All P vs
    All-after P [] vs h = h
    All-after P (u ∷ us) vs h = All-after P us vs (All-tail P u (us ++ vs) h)

pub All-before : {X : Type 0} (P : X → Type 0) (us vs : List X) → All P (us ++ vs) → All P us
All-before P [] vs h = All-nil P
All-before P (u ∷ us) vs h = All-cons P u us (All-head P u (us ++ vs) h) (All-before P us vs (All-tail P u (us ++ vs) h))

pub All-behind : {X : Type 0} (P : X → Type 0) (us vs : List X) → All P (us ++ vs) → All P vs
All-behind P [] vs h = h
All-behind P (u ∷ us) vs h = All-behind P us vs (All-tail P u (us ++ vs) h)

pub All-unmap : {X Y : Type 0} (P : Y → Type 0) (f : X → Y) (xs : List X) → All P (map f xs) → All (λ x. P (f x)) xs
All-unmap P f [] h = All-nil _
All-unmap P f (x ∷ xs) h = All-cons (λ u. P (f u)) x xs (All-head P (f x) (map f xs) h) (All-unmap P f xs (All-tail P (f x) (map f xs) h))

pub map-push : {X Y : Type 0} (f : X → Y) (xs : List X) (x : X) → map f (xs ++ x ∷ []) ≡ map f xs ++ f x ∷ []
map-push f [] x = refl
map-push f (y ∷ xs) x = ap (λ ys. f y ∷ ys) (map-push f xs x)
