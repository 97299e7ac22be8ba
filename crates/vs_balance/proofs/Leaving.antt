-- How the sets that have left grow, and stand.
use Rattle.std.proofs.Common.{◌≡◌, ℕ, ◌+◌, ◌-◌, ◌<◌, ◌≤◌, Bool, true, false, List, [], ◌∷◌, map, length, take, drop, set, get_or, ◌++◌, append_assoc, refl, ap, sym, ◌∙◌, arith, sum, zero, suc, inl, inr}
use Rattle.std.specs.Prelude.{◌&&◌, ◌||◌, not, nat_lt, ◌⊎◌}
use Rattle.std.specs.List.{count_by, zip}
use Rattle.std.proofs.lemmas.List.Sums.{sum_by-cons, sum_by-set, count_by-le-length}
use Rattle.std.proofs.lemmas.List.{take_more_set, drop-set-lt, drop_more, get_or-drop, set-get_or}
use Rattle.std.proofs.lemmas.Bool.{and_parts, ltb-true, false≢true}
use Rattle.vs_balance.specs.declared.member.Member.{Member}
use Rattle.vs_balance.specs.Sharing.{is_broken, surplus, number_with}
use Rattle.vs_balance.specs.Member.{stays, weight_of, weights_of, shared_count, leave, next, repeated}
use Rattle.vs_balance.proofs.Shares.{one_if, numbers_from, numbers_in_a_row}

abbrev leaving : Member × ℕ → Member
leaving p = leave p.0 p.1

-- the sets after one sharing, in a row
abbrev pub left_from : ℕ → ℕ → ℕ → List Member → List Member
left_from buckets total left [] = []
left_from buckets total left (m ∷ members) =
    leave m (number_with buckets total left (weight_of m)) ∷ left_from buckets total (left - one_if (is_broken buckets total (weight_of m))) members

left_with_numbers : (buckets total left : ℕ) (members : List Member) → map leaving (zip members (numbers_from buckets total left (weights_of members))) ≡ left_from buckets total left members
left_with_numbers buckets total left [] = refl
left_with_numbers buckets total left (m ∷ members) =
    ap (λ (rest : List Member). leave m (number_with buckets total left (weight_of m)) ∷ rest) (left_with_numbers buckets total (left - one_if (is_broken buckets total (weight_of m))) members)

abbrev pub next_in_a_row : List Member → List Member
next_in_a_row members = left_from (shared_count members) (sum (weights_of members)) (surplus (shared_count members) (weights_of members)) members

pub next-in_a_row : (members : List Member) → next members ≡ next_in_a_row members
unfolding next
next-in_a_row members =
    ap (λ (ns : List ℕ). map leaving (zip members ns)) (numbers_in_a_row (shared_count members) (weights_of members))
    ∙ left_with_numbers (shared_count members) (sum (weights_of members)) (surplus (shared_count members) (weights_of members)) members

or-true : (b x : Bool) → b ≡ true → (b || x) ≡ b
or-true true x is = refl
or-true false x is = absurd (false≢true is)

or-false : (b x : Bool) → x ≡ false → (b || x) ≡ b
or-false true x is = refl
or-false false x is = is

none_stay : (l b x : Bool) → x ≡ true → (not l && not (b || x)) ≡ false
none_stay true b x is = refl
none_stay false true x is = refl
none_stay false false x is = ap not is

-- a set is as it was, or it stayed, was below its pinned count, and stays no more
pub leave_cases : (m : Member) (n : ℕ) → (leave m n ≡ m) ⊎ ((stays m ≡ true) × (stays (leave m n) ≡ false) × (n < m.view.pinned))
leave_cases m n = by_left m.left refl
  where
    by_test : (t : Bool) → (stays m && nat_lt n m.view.pinned) ≡ t → (leave m n ≡ m) ⊎ ((stays m ≡ true) × (stays (leave m n) ≡ false) × (n < m.view.pinned))
    by_test true is =
        let parts = and_parts (stays m) (nat_lt n m.view.pinned) is in
        inr (parts.0, none_stay m.view.locked m.left _ is, ltb-true n m.view.pinned parts.1)
    by_test false is = inl (ap (λ (b : Bool). record m { left = b }) (or-false m.left _ is))

    by_left : (b : Bool) → m.left ≡ b → (leave m n ≡ m) ⊎ ((stays m ≡ true) × (stays (leave m n) ≡ false) × (n < m.view.pinned))
    by_left true is = inl (ap (λ (b : Bool). record m { left = b }) (or-true m.left _ is))
    by_left false is = by_test (stays m && nat_lt n m.view.pinned) refl

pub leave-short : (m : Member) (n : ℕ) → (stays m && nat_lt n m.view.pinned) ≡ true → (stays m ≡ true) × (stays (leave m n) ≡ false)
leave-short m n is = ((and_parts (stays m) (nat_lt n m.view.pinned) is).0, none_stay m.view.locked m.left _ is)

pub leave-enough : (m : Member) (n : ℕ) → (stays m && nat_lt n m.view.pinned) ≡ false → leave m n ≡ m
leave-enough m n is = ap (λ (b : Bool). record m { left = b }) (or-false m.left _ is)

-- the list is as it was, or fewer stay
changes : (buckets total left : ℕ) (members : List Member) → (count_by stays (left_from buckets total left members) ≤ count_by stays members) × ((left_from buckets total left members ≡ members) ⊎ (count_by stays (left_from buckets total left members) < count_by stays members))
changes buckets total left [] = (omega arith, inl refl)
changes buckets total left (m ∷ members) =
    let n = number_with buckets total left (weight_of m) in
    let rest = left_from buckets total (left - one_if (is_broken buckets total (weight_of m))) members in
    let tail = changes buckets total (left - one_if (is_broken buckets total (weight_of m))) members in
    let now : count_by stays (leave m n ∷ rest) ≡ one_if (stays (leave m n)) + count_by stays rest = sum_by-cons _ (leave m n) rest in
    let before : count_by stays (m ∷ members) ≡ one_if (stays m) + count_by stays members = sum_by-cons _ m members in
    elim (leave_cases m n) [
      | inl same ↦
          let counted : one_if (stays (leave m n)) ≡ one_if (stays m) = ap (λ (x : Member). one_if (stays x)) same in
          (rw (now, before) (omega arith), elim tail.1 [ inl is ↦ inl (λ i. same i ∷ is i) | inr less ↦ inr (rw (now, before) (omega arith)) ])
      | inr left' ↦
          let was : one_if (stays m) ≡ 1 = ap one_if left'.0 in
          let gone : one_if (stays (leave m n)) ≡ 0 = ap one_if left'.1 in
          (rw (now, before) (omega arith), inr (rw (now, before) (omega arith)))
    ]

pub next_changes : (members : List Member) → (next members ≡ members) ⊎ (count_by stays (next members) < count_by stays members)
next_changes members = rw next-in_a_row (changes (shared_count members) (sum (weights_of members)) (surplus (shared_count members) (weights_of members)) members).1

pub repeated_standing : (n : ℕ) (members : List Member) → next members ≡ members → repeated n members ≡ members
repeated_standing zero members is = refl
repeated_standing (suc n) members is = ap (repeated n) is ∙ repeated_standing n members is

pub next-repeated : (n : ℕ) (members : List Member) → next (repeated n members) ≡ repeated n (next members)
next-repeated zero members = refl
next-repeated (suc n) members = next-repeated n (next members)

-- as many times as sets stay are enough
pub stands_after : (n : ℕ) (members : List Member) → count_by stays members ≤ n → next (repeated n members) ≡ repeated n members
stands_after zero members few = elim (next_changes members) [ inl is ↦ is | inr less ↦ absurd (omega arith) ]
stands_after (suc n) members few = elim (next_changes members) [
  | inl is ↦ ap (λ ms. next (repeated n ms)) is ∙ ap next (repeated_standing n members is) ∙ is ∙ sym (repeated_standing n members is) ∙ ap (repeated n) (sym is)
  | inr less ↦ stands_after n (next members) (omega arith)
]

pub stands_after_length : (members : List Member) → next (repeated (length members) members) ≡ repeated (length members) members
stands_after_length members = stands_after (length members) members (count_by-le-length stays members)

-- any earlier time at which nothing changes gives the same sets
pub first_standing : (k n : ℕ) (members : List Member) → next (repeated n members) ≡ repeated n members → next (repeated k members) ≡ repeated k members → repeated n members ≡ repeated k members
first_standing zero n members at_n at_k = repeated_standing n members at_k
first_standing (suc k) zero members at_n at_k = sym (repeated_standing (suc k) members at_n)
first_standing (suc k) (suc n) members at_n at_k = first_standing k n (next members) at_n at_k

-- one more set of a list that is changed in place
pub left_more : (buckets total left : ℕ) (members : List Member) (i : ℕ) (m d : Member) → i < length members → m ≡ get_or members i d →
    let gone = leave m (number_with buckets total left (weight_of m)) in
    take (i + 1) (set members i gone) ++ left_from buckets total (left - one_if (is_broken buckets total (weight_of m))) (drop (i + 1) (set members i gone))
    ≡ take i members ++ left_from buckets total left (drop i members)
left_more buckets total left members i m d inside is =
    let gone = leave m (number_with buckets total left (weight_of m)) in
    let after = left - one_if (is_broken buckets total (weight_of m)) in
    let front : take (i + 1) (set members i gone) ≡ take i members ++ gone ∷ [] = take_more_set members i gone inside in
    let back : drop (i + 1) (set members i gone) ≡ drop (i + 1) members = drop-set-lt (i + 1) members i gone (omega arith) in
    let here : drop i members ≡ m ∷ drop (i + 1) members = drop_more members i d inside ∙ ap (λ (x : Member). x ∷ drop (i + 1) members) (sym is) in
    rw (front, back, here) (append_assoc (take i members) (gone ∷ []) (left_from buckets total after (drop (i + 1) members)))

pub get_or-ahead : (xs ys : List Member) (i : ℕ) (d : Member) → drop i xs ≡ drop i ys → get_or xs i d ≡ get_or ys i d
get_or-ahead xs ys i d same =
    let a : get_or (drop i xs) 0 d ≡ get_or xs (i + 0) d = get_or-drop i xs 0 d in
    let b : get_or (drop i ys) 0 d ≡ get_or ys (i + 0) d = get_or-drop i ys 0 d in
    let c : i + 0 ≡ i = omega arith in
    rw c at (sym a ∙ ap (λ (zs : List Member). get_or zs 0 d) same ∙ b)

-- of such a list: it stays as it was as long as none has left, and each that has left stays no more
pub none_more : (start members : List Member) (i : ℕ) (d : Member) (n : ℕ) (some short : Bool) →
    short ≡ (stays (get_or members i d) && nat_lt n (get_or members i d).view.pinned) →
    (some ≡ false → members ≡ start) → (some || short) ≡ false → set members i (leave (get_or members i d) n) ≡ start
none_more start members i d n true short is same none = absurd (false≢true (sym none))
none_more start members i d n false short is same none =
    ap (set members i) (leave-enough (get_or members i d) n (sym is ∙ none)) ∙ set-get_or members i d ∙ same refl

pub some_more : (start : ℕ) (members : List Member) (i : ℕ) (d : Member) (n : ℕ) (some short : Bool) → i < length members →
    short ≡ (stays (get_or members i d) && nat_lt n (get_or members i d).view.pinned) →
    count_by stays members + one_if some ≤ start →
    count_by stays (set members i (leave (get_or members i d) n)) + one_if (some || short) ≤ start
some_more start members i d n some true inside is few =
    let m = get_or members i d in
    let short = leave-short m n (sym is) in
    let was : one_if (stays m) ≡ 1 = ap one_if short.0 in
    let gone : one_if (stays (leave m n)) ≡ 0 = ap one_if short.1 in
    let once : one_if (some || true) ≤ 1 = elim some as (λ b. one_if (b || true) ≤ 1) [ true ↦ omega arith | false ↦ omega arith ] in
    omega (arith, sum_by-set (λ (x : Member). one_if (stays x)) members i (leave m n) d inside)
some_more start members i d n some false inside is few =
    let m = get_or members i d in
    let same : set members i (leave m n) ≡ members = ap (set members i) (leave-enough m n (sym is)) ∙ set-get_or members i d in
    rw (same, or-false some false refl) few
