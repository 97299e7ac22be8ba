-- A field that is read is spelled so, and what is spelled so is read, whatever follows it.
use Rattle.std.proofs.Common.{◌≡◌, inl, inr, ℕ, suc, ◌+◌, ◌^◌, ◌<◌, ◌≤◌, nat_le, Bool, true, List, [], ◌∷◌, ◌++◌, length, get_or, take, drop, Option, Some, None, refl, sym, ap, subst, ◌∙◌, append_assoc, arith}
use Rattle.std.specs.Bool.{Decides}
use Rattle.std.specs.Int.{Width, w16, w32, w64, byte_len, from_le_bytes}
use Rattle.std.proofs.lemmas.Bool.{cases_lt}
use Rattle.std.proofs.lemmas.List.{take_at, drop_at, take-append-drop, length-append, length-take, get_or-drop, get_or-take, get_or_past}
use Rattle.std.proofs.lemmas.Nat.{le_bytes_2, le_bytes_4, le_bytes_8, from_le_bytes-to_le_bytes_2, from_le_bytes-to_le_bytes_4, from_le_bytes-to_le_bytes_8}
use Rattle.std.proofs.lemmas.Option.{cond_some, same_Some}
use Rattle.vs_record.specs.Body.{number_text}
use Rattle.vs_record.specs.Reading.{◌>>=◌, both, tested, as_by, byte_at, number_at}
use Rattle.vs_record.proofs.Names.{le_decides}

abbrev pub IsBytes : List ℕ → Type 0
IsBytes bytes = (i : ℕ) → get_or bytes i 0 < 256

pub IsBytes-drop : (n : ℕ) (bytes : List ℕ) → IsBytes bytes → IsBytes (drop n bytes)
IsBytes-drop n bytes h i = rw get_or-drop (h (n + i))

IsBytes-take : (n : ℕ) (bytes : List ℕ) → IsBytes bytes → IsBytes (take n bytes)
IsBytes-take n bytes h i =
    elim (cases_lt i n) [
      | inl lt ↦ rw (get_or-take n bytes i 0 lt) (h i)
      | inr le ↦ rw (get_or_past (take n bytes) i 0 (omega (arith, length-take n bytes))) (omega arith)
    ]

pub IsBytes-rest : (b : ℕ) (bytes : List ℕ) → IsBytes (b ∷ bytes) → IsBytes bytes
IsBytes-rest b bytes h i = h (suc i)

-- what was taken from the front
pub record Takes (bytes text rest : List ℕ) : Type 0 where
  pub parts : bytes ≡ text ++ rest
  pub rest_fits : IsBytes rest

pub Takes-then : (a x b y c : List ℕ) → Takes a x b → Takes b y c → Takes a (x ++ y) c
Takes-then a x b y c p q = record { parts = p.parts ∙ ap (λ (t : List ℕ). x ++ t) q.parts ∙ sym (append_assoc x y c); rest_fits = q.rest_fits }

-- a field of these values, with their spelling
pub record Reads {X : Type 0} (text : X → List ℕ) (Is : X → Type 0) (at : List ℕ → Option (X × List ℕ)) : Type 0 where
  pub takes : (bytes : List ℕ) (x : X) (rest : List ℕ) → IsBytes bytes → at bytes ≡ Some (x, rest) → Takes bytes (text x) rest × Is x
  pub again : (x : X) (rest : List ℕ) → Is x → at (text x ++ rest) ≡ Some (x, rest)

-- ---- steps

pub bound : {X Y : Type 0} (o : Option X) (f : X → Option Y) (y : Y) → (o >>= f) ≡ Some y → (x : X) × (o ≡ Some x) × (f x ≡ Some y)
bound None f y e = absurd cc
bound (Some x) f y e = (x, refl, e)

pair_parts : {X Y : Type 0} (p q : X × Y) → p ≡ q → (p.0 ≡ q.0) × (p.1 ≡ q.1)
pair_parts p q e = (ap (λ r. r.0) e, ap (λ r. r.1) e)

pub pair_is : {X Y : Type 0} (x u : X) (y v : Y) → ◌≡◌ {A = Option (X × Y)} (Some (x, y)) (Some (u, v)) → (x ≡ u) × (y ≡ v)
pair_is x u y v e = pair_parts (x, y) (u, v) (same_Some (x, y) (u, v) e)

module _ {X : Type 0} {text : X → List ℕ} {Is : X → Type 0} {at : List ℕ → Option (X × List ℕ)} (reads : Reads text Is at) where
  -- a field behind it
  module _ {Y : Type 0} {text' : Y → List ℕ} {Is' : Y → Type 0} {at' : List ℕ → Option (Y × List ℕ)} (reads' : Reads text' Is' at') where
    pub both_read : Reads {X = X × Y} (λ p. text p.0 ++ text' p.1) (λ p. Is p.0 × Is' p.1) (both at at')
    both_read = record { takes = took; again = reads_again }
      where
        took : (bytes : List ℕ) (p : X × Y) (rest : List ℕ) → IsBytes bytes → both at at' bytes ≡ Some (p, rest) → Takes bytes (text p.0 ++ text' p.1) rest × (Is p.0 × Is' p.1)
        took bytes p rest fits e =
            let a = bound (at bytes) (λ a. at' a.1 >>= λ b. Some ((a.0, b.0), b.1)) (p, rest) e in
            let b = bound (at' a.0.1) (λ b. Some ((a.0.0, b.0), b.1)) (p, rest) a.2 in
            let first = reads.takes bytes a.0.0 a.0.1 fits a.1 in
            let second = reads'.takes a.0.1 b.0.0 b.0.1 first.0.rest_fits b.1 in
            let whole = Takes-then bytes (text a.0.0) a.0.1 (text' b.0.0) b.0.1 first.0 second.0 in
            let made : (X × Y) × List ℕ = ((a.0.0, b.0.0), b.0.1) in
            let same : made ≡ (p, rest) = same_Some made (p, rest) b.2 in
            subst (λ (q : (X × Y) × List ℕ). Takes bytes (text q.0.0 ++ text' q.0.1) q.1 × (Is q.0.0 × Is' q.0.1)) same (whole, (first.1, second.1))

        reads_again : (p : X × Y) (rest : List ℕ) → Is p.0 × Is' p.1 → both at at' ((text p.0 ++ text' p.1) ++ rest) ≡ Some (p, rest)
        reads_again p rest is =
            ap (both at at') (append_assoc (text p.0) (text' p.1) rest) ∙ rw (reads.again p.0 (text' p.1 ++ rest) is.0, reads'.again p.1 rest is.1) refl

  -- of the values that pass a test
  module _ (test : X → Bool) (Passes : X → Type 0) (decides : (x : X) → Decides (test x) (Passes x)) where
    pub tested_read : Reads text (λ x. Is x × Passes x) (λ bytes. tested test (at bytes))
    tested_read = record { takes = took; again = reads_again }
      where
        by : (bytes : List ℕ) (o : Option (X × List ℕ)) (x : X) (rest : List ℕ) → IsBytes bytes → at bytes ≡ o → tested test o ≡ Some (x, rest) → Takes bytes (text x) rest × (Is x × Passes x)
        by bytes None x rest fits is e = absurd cc
        by bytes (Some f) x rest fits is e =
            let parts = cond_some (test f.0) f (x, rest) e in
            let found : at bytes ≡ Some (x, rest) = is ∙ ap (λ (p : X × List ℕ). Some p) parts.1 in
            let passes : test x ≡ true = subst (λ (p : X × List ℕ). test p.0 ≡ true) parts.1 parts.0 in
            let took = reads.takes bytes x rest fits found in
            (took.0, (took.1, (decides x).0 passes))

        took : (bytes : List ℕ) (x : X) (rest : List ℕ) → IsBytes bytes → tested test (at bytes) ≡ Some (x, rest) → Takes bytes (text x) rest × (Is x × Passes x)
        took bytes x rest fits e = by bytes (at bytes) x rest fits refl e

        reads_again : (x : X) (rest : List ℕ) → Is x × Passes x → tested test (at (text x ++ rest)) ≡ Some (x, rest)
        reads_again x rest is = rw (reads.again x rest is.0, (decides x).1 is.1) refl

  -- as values of another kind
  pub made_takes : {Y : Type 0} (make : X → Y) (bytes : List ℕ) (y : Y) (rest : List ℕ) → IsBytes bytes → as_by make (at bytes) ≡ Some (y, rest) → (x : X) × (make x ≡ y) × Takes bytes (text x) rest × Is x
  made_takes {Y} make bytes y rest fits e = by (at bytes) refl e
    where
      by : (o : Option (X × List ℕ)) → at bytes ≡ o → as_by make o ≡ Some (y, rest) → (x : X) × (make x ≡ y) × Takes bytes (text x) rest × Is x
      by None is h = absurd cc
      by (Some f) is h =
          let same = pair_is (make f.0) y f.1 rest h in
          let found : at bytes ≡ Some (f.0, rest) = is ∙ ap (λ (r : List ℕ). Some (f.0, r)) same.1 in
          let took = reads.takes bytes f.0 rest fits found in
          (f.0, same.0, took.0, took.1)

  pub made_again : {Y : Type 0} (make : X → Y) (x : X) (rest : List ℕ) → Is x → as_by make (at (text x ++ rest)) ≡ Some (make x, rest)
  made_again make x rest is = rw (reads.again x rest is) refl

-- ---- numbers

pub byte_reads : Reads (λ b. b ∷ []) (λ b. b < 256) byte_at
byte_reads = record { takes = took; again = λ b rest is. refl }
  where
    took : (bytes : List ℕ) (b : ℕ) (rest : List ℕ) → IsBytes bytes → byte_at bytes ≡ Some (b, rest) → Takes bytes (b ∷ []) rest × (b < 256)
    took [] b rest fits e = absurd cc
    took (a ∷ bytes) b rest fits e =
        let same = pair_is a b bytes rest e in
        subst (λ (p : ℕ × List ℕ). Takes (a ∷ bytes) (p.0 ∷ []) p.1 × (p.0 < 256)) (λ i. (same.0 i, same.1 i)) (record { parts = refl; rest_fits = IsBytes-rest a bytes fits }, fits 0)

pub record IsWide (w : Width) (limit : ℕ) : Type 0 where
  pub len : (n : ℕ) → length (number_text w n) ≡ byte_len w
  pub back : (bytes : List ℕ) → length bytes ≡ byte_len w → IsBytes bytes → number_text w (from_le_bytes w bytes) ≡ bytes
  pub again : (n : ℕ) → n < limit → from_le_bytes w (number_text w n) ≡ n
  pub below : (bytes : List ℕ) → IsBytes bytes → from_le_bytes w bytes < limit

pub wide32 : IsWide w32 (2 ^ 32)
unfolding number_text
wide32 = record {
  len = λ n. refl;
  back = λ bytes len fits. le_bytes_4 bytes _ len fits refl;
  again = λ n lt. from_le_bytes-to_le_bytes_4 n lt;
  below = λ bytes fits. omega (arith, fits 0, fits 1, fits 2, fits 3);
}

pub wide64 : IsWide w64 (2 ^ 64)
unfolding number_text
wide64 = record {
  len = λ n. refl;
  back = λ bytes len fits. le_bytes_8 bytes _ len fits refl;
  again = λ n lt. from_le_bytes-to_le_bytes_8 n lt;
  below = λ bytes fits. omega (arith, fits 0, fits 1, fits 2, fits 3, fits 4, fits 5, fits 6, fits 7);
}

pub wide16 : IsWide w16 (2 ^ 16)
unfolding number_text
wide16 = record {
  len = λ n. refl;
  back = λ bytes len fits. le_bytes_2 bytes _ len fits refl;
  again = λ n lt. from_le_bytes-to_le_bytes_2 n lt;
  below = λ bytes fits. omega (arith, fits 0, fits 1);
}

pub number_reads : (w : Width) (limit : ℕ) → IsWide w limit → Reads (number_text w) (λ n. n < limit) (number_at w)
unfolding number_at
number_reads w limit wide = record { takes = took; again = reads_again }
  where
    took : (bytes : List ℕ) (n : ℕ) (rest : List ℕ) → IsBytes bytes → number_at w bytes ≡ Some (n, rest) → Takes bytes (number_text w n) rest × (n < limit)
    took bytes n rest fits e =
        let g = cond_some (nat_le (byte_len w) (length bytes)) (from_le_bytes w (take (byte_len w) bytes), drop (byte_len w) bytes) (n, rest) e in
        let long : byte_len w ≤ length bytes = (le_decides (byte_len w) (length bytes)).0 g.0 in
        let n-is : from_le_bytes w (take (byte_len w) bytes) ≡ n = ap (λ (p : ℕ × List ℕ). p.0) g.1 in
        let rest-is : drop (byte_len w) bytes ≡ rest = ap (λ (p : ℕ × List ℕ). p.1) g.1 in
        let front : number_text w n ≡ take (byte_len w) bytes = rw (← n-is) (wide.back (take (byte_len w) bytes) (omega (arith, length-take (byte_len w) bytes)) (IsBytes-take (byte_len w) bytes fits)) in
        (record { parts = rw (front, ← rest-is) (sym (take-append-drop (byte_len w) bytes)); rest_fits = rw (← rest-is) (IsBytes-drop (byte_len w) bytes fits) }, rw (← n-is) (wide.below (take (byte_len w) bytes) (IsBytes-take (byte_len w) bytes fits)))

    reads_again : (n : ℕ) (rest : List ℕ) → n < limit → number_at w (number_text w n ++ rest) ≡ Some (n, rest)
    reads_again n rest lt =
        let len = wide.len n in
        let long : nat_le (byte_len w) (length (number_text w n ++ rest)) ≡ true = (le_decides (byte_len w) (length (number_text w n ++ rest))).1 (omega (arith, length-append (number_text w n) rest, len)) in
        rw (long, take_at (number_text w n) rest (byte_len w) len, drop_at (number_text w n) rest (byte_len w) len, wide.again n lt) refl

-- the same values, told otherwise
pub read_as : {X : Type 0} {text : X → List ℕ} {Is : X → Type 0} {at : List ℕ → Option (X × List ℕ)} (Is' : X → Type 0) → ((x : X) → Is x → Is' x) → ((x : X) → Is' x → Is x) → Reads text Is at → Reads text Is' at
read_as Is' to from reads = record {
  takes = λ bytes x rest fits e. let took = reads.takes bytes x rest fits e in (took.0, to x took.1);
  again = λ x rest is. reads.again x rest (from x is);
}
