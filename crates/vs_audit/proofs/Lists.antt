-- Lists that are read item by item.
use Rattle.std.proofs.Common.{◌≡◌, ℕ, zero, suc, ◌+◌, ◌-◌, ◌<◌, ◌≤◌, Bool, true, false, List, [], ◌∷◌, ◌++◌, length, length-append, map, append_assoc, append-nil, Result, Ok, Err, refl, sym, ap, ◌∙◌, subst, arith}
use Rattle.std.proofs.lemmas.List.{map-append}
use Rattle.vs_audit.specs.Reading.{◌>>=◌, many_at, all_at, listed_at}

-- ---- lists with one item more

pub grow : {X : Type 0} (old kept new : List X) (x : X) → new ≡ kept ++ x ∷ [] → kept ≡ old → new ≡ old ++ x ∷ []
grow {X} old kept new x added same = added ∙ ap (λ (xs : List X). xs ++ x ∷ []) same

pub map_more : {X Y : Type 0} (f : X → Y) (old new : List X) (x : X) → new ≡ old ++ x ∷ [] → map f new ≡ map f old ++ f x ∷ []
map_more f old new x added = ap (map f) added ∙ map-append f old (x ∷ [])

pub length_map : {X Y : Type 0} (f : X → Y) (xs : List X) → length (map f xs) ≡ length xs
length_map f [] = refl
length_map f (x ∷ xs) = ap suc (length_map f xs)

pub length_more : {X : Type 0} (old new : List X) (x : X) → new ≡ old ++ x ∷ [] → length new ≡ length old + 1
length_more old new x added = omega (arith, ap length added, length-append old (x ∷ []))

module _ {A E S : Type 0} where
  -- the items read so far, and the others
  abbrev pub front : List A → Result (List A × S) E → Result (List A × S) E
  front done (Ok more) = Ok (done ++ more.0, more.1)
  front done (Err fault) = Err fault

  pub front_none : (r : Result (List A × S) E) → r ≡ front [] r
  front_none (Ok more) = refl
  front_none (Err fault) = refl

  front_one : (a : A) (r : Result (List A × S) E) → (r >>= (λ others. Ok (a ∷ others.0, others.1))) ≡ front (a ∷ []) r
  front_one a (Ok more) = refl
  front_one a (Err fault) = refl

  front_more : (done : List A) (a : A) (r : Result (List A × S) E) → front done (front (a ∷ []) r) ≡ front (done ++ a ∷ []) r
  front_more done a (Ok more) = ap (λ (xs : List A). Ok (xs, more.1)) (sym (append_assoc done (a ∷ []) more.0))
  front_more done a (Err fault) = refl

  front_last : (done : List A) (s : S) → front done (Ok ([], s)) ≡ Ok (done, s)
  front_last done s = ap (λ (xs : List A). Ok (xs, s)) (append-nil done)

  module _ {T : Type 0} (item : T → S → Result (A × S) E) (next : T → A → T) where
    one_more : (more : ℕ) (t : T) (s rest : S) (a : A) → item t s ≡ Ok (a, rest) → many_at item next (suc more) t s ≡ front (a ∷ []) (many_at item next more (next t a) rest)
    unfolding many_at
    one_more more t s rest a is = rw is (front_one a (many_at item next more (next t a) rest))

    one_fails : (more : ℕ) (t : T) (s : S) (fault : E) → item t s ≡ Err fault → many_at item next (suc more) t s ≡ Err fault
    unfolding many_at
    one_fails more t s fault is = rw is refl

    none_more : (t : T) (s : S) → many_at item next zero t s ≡ Ok ([], s)
    unfolding many_at
    none_more t s = refl

    -- one item more was read
    pub many_next : (all : Result (List A × S) E) (done : List A) (more : ℕ) (t : T) (s rest : S) (a : A)
        → all ≡ front done (many_at item next (suc more) t s) → item t s ≡ Ok (a, rest)
        → all ≡ front (done ++ a ∷ []) (many_at item next more (next t a) rest)
    many_next all done more t s rest a so_far is =
        so_far ∙ ap (front done) (one_more more t s rest a is) ∙ front_more done a (many_at item next more (next t a) rest)

    pub many_fail : (all : Result (List A × S) E) (done : List A) (more : ℕ) (t : T) (s : S) (fault : E)
        → all ≡ front done (many_at item next (suc more) t s) → item t s ≡ Err fault → all ≡ Err fault
    many_fail all done more t s fault so_far is = so_far ∙ ap (front done) (one_fails more t s fault is)

    pub many_end : (all : Result (List A × S) E) (done : List A) (t : T) (s : S)
        → all ≡ front done (many_at item next zero t s) → all ≡ Ok (done, s)
    many_end all done t s so_far = so_far ∙ ap (front done) (none_more t s) ∙ front_last done s

    -- `n` of so many items were read

    pub left_first : (count : ℕ) (t : T) (s : S) → many_at item next count t s ≡ front [] (many_at item next (count - 0) t s)
    left_first count t s =
        let e : count ≡ count - 0 = omega arith in
        subst (λ (k : ℕ). many_at item next count t s ≡ front [] (many_at item next k t s)) e (front_none (many_at item next count t s))

    pub left_next : (all : Result (List A × S) E) (done : List A) (count n : ℕ) (t : T) (s rest : S) (a : A)
        → n < count → all ≡ front done (many_at item next (count - n) t s) → item t s ≡ Ok (a, rest)
        → all ≡ front (done ++ a ∷ []) (many_at item next (count - (n + 1)) (next t a) rest)
    left_next all done count n t s rest a within so_far is =
        let e : count - n ≡ suc (count - (n + 1)) = omega arith in
        many_next all done (count - (n + 1)) t s rest a (subst (λ (k : ℕ). all ≡ front done (many_at item next k t s)) e so_far) is

    pub left_fails : (all : Result (List A × S) E) (done : List A) (count n : ℕ) (t : T) (s : S) (fault : E)
        → n < count → all ≡ front done (many_at item next (count - n) t s) → item t s ≡ Err fault → all ≡ Err fault
    left_fails all done count n t s fault within so_far is =
        let e : count - n ≡ suc (count - (n + 1)) = omega arith in
        many_fail all done (count - (n + 1)) t s fault (subst (λ (k : ℕ). all ≡ front done (many_at item next k t s)) e so_far) is

    pub left_end : (all : Result (List A × S) E) (done : List A) (count n : ℕ) (t : T) (s : S)
        → count ≤ n → all ≡ front done (many_at item next (count - n) t s) → all ≡ Ok (done, s)
    left_end all done count n t s past so_far =
        let e : count - n ≡ zero = omega arith in
        many_end all done t s (subst (λ (k : ℕ). all ≡ front done (many_at item next k t s)) e so_far)

    pub many_start : (done : List A) (count n : ℕ) (t u : T) (s : S) → done ≡ [] → n ≡ 0 → u ≡ t → many_at item next count t s ≡ front done (many_at item next (count - n) u s)
    many_start done count n t u s none first same =
        let e : count ≡ count - n = omega arith in
        let all = many_at item next count t s in
        let whole = subst (λ (k : ℕ). all ≡ front [] (many_at item next k t s)) e (front_none (many_at item next count t s)) in
        let held = subst (λ (d : List A). all ≡ front d (many_at item next (count - n) t s)) (sym none) whole in
        subst (λ (v : T). all ≡ front done (many_at item next (count - n) v s)) (sym same) held

    pub many_more : (all : Result (List A × S) E) (done new : List A) (count n m : ℕ) (t u : T) (s rest : S) (a : A)
        → n < count → new ≡ done ++ a ∷ [] → m ≡ n + 1 → u ≡ next t a → all ≡ front done (many_at item next (count - n) t s) → item t s ≡ Ok (a, rest)
        → all ≡ front new (many_at item next (count - m) u rest)
    many_more all done new count n m t u s rest a within added one same so_far is =
        let more = left_next all done count n t s rest a within so_far is in
        let counted = subst (λ (k : ℕ). all ≡ front (done ++ a ∷ []) (many_at item next (count - k) (next t a) rest)) (sym one) more in
        let held = subst (λ (d : List A). all ≡ front d (many_at item next (count - m) (next t a) rest)) (sym added) counted in
        subst (λ (v : T). all ≡ front new (many_at item next (count - m) v rest)) (sym same) held

    module _ (begins : S → Bool) where
      begun : (more : ℕ) (t : T) (s rest : S) (a : A) → begins s ≡ true → item t s ≡ Ok (a, rest) → all_at begins item next (suc more) t s ≡ front (a ∷ []) (all_at begins item next more (next t a) rest)
      unfolding all_at
      begun more t s rest a test is = rw (test, is) (front_one a (all_at begins item next more (next t a) rest))

      begun_fails : (more : ℕ) (t : T) (s : S) (fault : E) → begins s ≡ true → item t s ≡ Err fault → all_at begins item next (suc more) t s ≡ Err fault
      unfolding all_at
      begun_fails more t s fault test is = rw (test, is) refl

      not_begun : (more : ℕ) (t : T) (s : S) → begins s ≡ false → all_at begins item next more t s ≡ Ok ([], s)
      unfolding all_at
      not_begun zero t s test = refl
      not_begun (suc more) t s test = rw test refl

      full : (t : T) (s : S) → all_at begins item next zero t s ≡ Ok ([], s)
      unfolding all_at
      full t s = refl

      pub all_next : (all : Result (List A × S) E) (done : List A) (more : ℕ) (t : T) (s rest : S) (a : A)
          → all ≡ front done (all_at begins item next (suc more) t s) → begins s ≡ true → item t s ≡ Ok (a, rest)
          → all ≡ front (done ++ a ∷ []) (all_at begins item next more (next t a) rest)
      all_next all done more t s rest a so_far test is =
          so_far ∙ ap (front done) (begun more t s rest a test is) ∙ front_more done a (all_at begins item next more (next t a) rest)

      pub all_fail : (all : Result (List A × S) E) (done : List A) (more : ℕ) (t : T) (s : S) (fault : E)
          → all ≡ front done (all_at begins item next (suc more) t s) → begins s ≡ true → item t s ≡ Err fault → all ≡ Err fault
      all_fail all done more t s fault so_far test is = so_far ∙ ap (front done) (begun_fails more t s fault test is)

      pub all_end : (all : Result (List A × S) E) (done : List A) (more : ℕ) (t : T) (s : S)
          → all ≡ front done (all_at begins item next more t s) → begins s ≡ false → all ≡ Ok (done, s)
      all_end all done more t s so_far test = so_far ∙ ap (front done) (not_begun more t s test) ∙ front_last done s

      pub all_full : (all : Result (List A × S) E) (done : List A) (t : T) (s : S)
          → all ≡ front done (all_at begins item next zero t s) → all ≡ Ok (done, s)
      all_full all done t s so_far = so_far ∙ ap (front done) (full t s) ∙ front_last done s

      -- `n` were read, of so many at most

      pub begun_first : (count : ℕ) (t : T) (s : S) → all_at begins item next count t s ≡ front [] (all_at begins item next (count - 0) t s)
      begun_first count t s =
          let e : count ≡ count - 0 = omega arith in
          subst (λ (k : ℕ). all_at begins item next count t s ≡ front [] (all_at begins item next k t s)) e (front_none (all_at begins item next count t s))

      pub begun_next : (all : Result (List A × S) E) (done : List A) (count n : ℕ) (t : T) (s rest : S) (a : A)
          → n < count → all ≡ front done (all_at begins item next (count - n) t s) → begins s ≡ true → item t s ≡ Ok (a, rest)
          → all ≡ front (done ++ a ∷ []) (all_at begins item next (count - (n + 1)) (next t a) rest)
      begun_next all done count n t s rest a within so_far test is =
          let e : count - n ≡ suc (count - (n + 1)) = omega arith in
          all_next all done (count - (n + 1)) t s rest a (subst (λ (k : ℕ). all ≡ front done (all_at begins item next k t s)) e so_far) test is

      pub begun_wrong : (all : Result (List A × S) E) (done : List A) (count n : ℕ) (t : T) (s : S) (fault : E)
          → n < count → all ≡ front done (all_at begins item next (count - n) t s) → begins s ≡ true → item t s ≡ Err fault → all ≡ Err fault
      begun_wrong all done count n t s fault within so_far test is =
          let e : count - n ≡ suc (count - (n + 1)) = omega arith in
          all_fail all done (count - (n + 1)) t s fault (subst (λ (k : ℕ). all ≡ front done (all_at begins item next k t s)) e so_far) test is

      pub begun_full : (all : Result (List A × S) E) (done : List A) (count n : ℕ) (t : T) (s : S)
          → count ≤ n → all ≡ front done (all_at begins item next (count - n) t s) → all ≡ Ok (done, s)
      begun_full all done count n t s past so_far =
          let e : count - n ≡ zero = omega arith in
          all_full all done t s (subst (λ (k : ℕ). all ≡ front done (all_at begins item next k t s)) e so_far)

      pub begun_start : (done : List A) (count n : ℕ) (t : T) (s : S) → done ≡ [] → n ≡ 0 → all_at begins item next count t s ≡ front done (all_at begins item next (count - n) t s)
      begun_start done count n t s none first =
          let e : count ≡ count - n = omega arith in
          let all = all_at begins item next count t s in
          let whole = subst (λ (k : ℕ). all ≡ front [] (all_at begins item next k t s)) e (front_none (all_at begins item next count t s)) in
          subst (λ (d : List A). all ≡ front d (all_at begins item next (count - n) t s)) (sym none) whole

      pub begun_more : (all : Result (List A × S) E) (done new : List A) (count n m : ℕ) (t u : T) (s rest : S) (a : A)
          → n < count → new ≡ done ++ a ∷ [] → m ≡ n + 1 → u ≡ next t a → all ≡ front done (all_at begins item next (count - n) t s) → begins s ≡ true → item t s ≡ Ok (a, rest)
          → all ≡ front new (all_at begins item next (count - m) u rest)
      begun_more all done new count n m t u s rest a within added one same so_far test is =
          let more = begun_next all done count n t s rest a within so_far test is in
          let counted = subst (λ (k : ℕ). all ≡ front (done ++ a ∷ []) (all_at begins item next (count - k) (next t a) rest)) (sym one) more in
          let held = subst (λ (d : List A). all ≡ front d (all_at begins item next (count - m) (next t a) rest)) (sym added) counted in
          subst (λ (v : T). all ≡ front new (all_at begins item next (count - m) v rest)) (sym same) held

  -- ---- items that marks separate

  module _ (fault : E) (item : S → Result (A × S) E) (after : (S → Result (List A × S) E) → S → Result (List A × S) E) where
    abbrev listed : ℕ → S → Result (List A × S) E
    listed = listed_at fault item after

    listed_one : (more : ℕ) (s rest : S) (a : A) → item s ≡ Ok (a, rest) → listed (suc more) s ≡ front (a ∷ []) (after (listed more) rest)
    unfolding listed_at
    listed_one more s rest a is = rw is (front_one a (after (listed more) rest))

    -- with one item
    pub listed_first : (more : ℕ) (s rest : S) (a : A) → item s ≡ Ok (a, rest) → listed_at fault item after (suc more) s ≡ front (a ∷ []) (after (listed_at fault item after more) rest)
    listed_first more s rest a is = listed_one more s rest a is

    pub listed_bad : (more : ℕ) (s : S) (bad : E) → item s ≡ Err bad → listed_at fault item after (suc more) s ≡ Err bad
    unfolding listed_at
    listed_bad more s bad is = rw is refl

    pub listed_none : (s : S) → listed_at fault item after zero s ≡ Err fault
    unfolding listed_at
    listed_none s = refl

    -- after the mark, one item more
    pub listed_next : (all : Result (List A × S) E) (done : List A) (more : ℕ) (s marked rest : S) (a : A)
        → all ≡ front done (after (listed_at fault item after (suc more)) s) → after (listed_at fault item after (suc more)) s ≡ listed_at fault item after (suc more) marked
        → item marked ≡ Ok (a, rest) → all ≡ front (done ++ a ∷ []) (after (listed_at fault item after more) rest)
    listed_next all done more s marked rest a so_far mark is =
        so_far ∙ ap (front done) (mark ∙ listed_one more marked rest a is) ∙ front_more done a (after (listed more) rest)

    -- as many were read as `done` has, of so many at most

    pub listed_begun : (count : ℕ) (s rest : S) (a : A) (done : List A) → 0 < count → done ≡ a ∷ [] → item s ≡ Ok (a, rest)
        → listed_at fault item after count s ≡ front done (after (listed_at fault item after (count - length done)) rest)
    listed_begun count s rest a done some one is =
        let e : suc (count - 1) ≡ count = omega arith in
        let l : count - 1 ≡ count - length done = omega (arith, ap length one) in
        let first = listed_one (count - 1) s rest a is in
        let whole = subst (λ (k : ℕ). listed k s ≡ front (a ∷ []) (after (listed (count - 1)) rest)) e first in
        let held = subst (λ (d : List A). listed count s ≡ front d (after (listed (count - 1)) rest)) (sym one) whole in
        subst (λ (k : ℕ). listed count s ≡ front done (after (listed k) rest)) l held

    pub listed_wrong : (count : ℕ) (s : S) (bad : E) → 0 < count → item s ≡ Err bad → listed_at fault item after count s ≡ Err bad
    listed_wrong count s bad some is =
        let e : suc (count - 1) ≡ count = omega arith in
        subst (λ (k : ℕ). listed k s ≡ Err bad) e (listed_bad (count - 1) s bad is)

    pub marked_next : (all : Result (List A × S) E) (done new : List A) (count : ℕ) (s marked rest : S) (a : A)
        → length done < count → new ≡ done ++ a ∷ [] → all ≡ front done (after (listed_at fault item after (count - length done)) s)
        → ((f : S → Result (List A × S) E) → after f s ≡ f marked) → item marked ≡ Ok (a, rest)
        → all ≡ front new (after (listed_at fault item after (count - length new)) rest)
    marked_next all done new count s marked rest a within added so_far mark is =
        let e : count - length done ≡ suc (count - length new) = omega (arith, ap length added, length-append done (a ∷ [])) in
        let left = subst (λ (k : ℕ). all ≡ front done (after (listed k) s)) e so_far in
        let next = listed_next all done (count - length new) s marked rest a left (mark (listed (suc (count - length new)))) is in
        subst (λ (d : List A). all ≡ front d (after (listed (count - length new)) rest)) (sym added) next

    pub marked_wrong : (all : Result (List A × S) E) (done : List A) (count : ℕ) (s marked : S) (bad : E)
        → length done < count → all ≡ front done (after (listed_at fault item after (count - length done)) s)
        → ((f : S → Result (List A × S) E) → after f s ≡ f marked) → item marked ≡ Err bad → all ≡ Err bad
    marked_wrong all done count s marked bad within so_far mark is =
        let some : 0 < count - length done = omega arith in
        so_far ∙ ap (front done) (mark (listed (count - length done)) ∙ listed_wrong (count - length done) marked bad some is)

    -- no item more may follow
    pub marked_full : (all : Result (List A × S) E) (done : List A) (count : ℕ) (s marked : S)
        → length done ≡ count → all ≡ front done (after (listed_at fault item after (count - length done)) s)
        → ((f : S → Result (List A × S) E) → after f s ≡ f marked) → all ≡ Err fault
    marked_full all done count s marked full so_far mark =
        let e : count - length done ≡ zero = omega arith in
        let left = subst (λ (k : ℕ). all ≡ front done (after (listed k) s)) e so_far in
        left ∙ ap (front done) (mark (listed zero) ∙ listed_none marked)

    pub marked_end : (all : Result (List A × S) E) (done : List A) (count : ℕ) (s rest : S)
        → all ≡ front done (after (listed_at fault item after (count - length done)) s)
        → ((f : S → Result (List A × S) E) → after f s ≡ Ok ([], rest)) → all ≡ Ok (done, rest)
    marked_end all done count s rest so_far ends = so_far ∙ ap (front done) (ends (listed (count - length done))) ∙ front_last done rest

    pub marked_bad : (all : Result (List A × S) E) (done : List A) (count : ℕ) (s : S) (bad : E)
        → all ≡ front done (after (listed_at fault item after (count - length done)) s)
        → ((f : S → Result (List A × S) E) → after f s ≡ Err bad) → all ≡ Err bad
    marked_bad all done count s bad so_far ends = so_far ∙ ap (front done) (ends (listed (count - length done)))
