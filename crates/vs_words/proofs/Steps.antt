-- Each step keeps the rule.
use Rattle.std.proofs.Common.{◌≡◌, ◌≢◌, ℕ, zero, suc, ◌+◌, ◌-◌, ◌%◌, ◌^◌, ◌<◌, ◌≤◌, ◌==◌, ◌⊎◌, Bool, true, false, List, [], ◌∷◌, ◌++◌, length, set, slice_index, sym, refl, ap, ◌∙◌, subst, inl, inr, ⊎_elim, arith}
use Rattle.std.proofs.lemmas.List.{get_or-set_same, get_or-set_other, length-set}
use Rattle.std.proofs.lemmas.List.Elements.{Contains-push, Contains-push_cases, Contains-append_left}
use Rattle.std.proofs.lemmas.Bool.Decides.{nat_tests}
use Rattle.std.proofs.lemmas.Nat.Bits.{and_pow, bit_at_above}
use Rattle.std.specs.Prelude.{bit_or, bit_and, Contains}
use Rattle.std.specs.Int.Bits.{or_add_and}
use Rattle.std.specs.Int.{bit_at}
use native.Mathlib.Decide.{ℕ_discrete, dec_le}
use mathlib.Core.Logic.{dite}
use mathlib.Core.Option.{some, some-injective, some-ne-none}
use lib.ListN.{get_elem?}
use Rattle.atomic_table.specs.Table.{State, Me, keeps, Allows, Splits}
use Rattle.atomic_table.proofs.Lists.{at_set, at_snoc, at_longer, set_here, set_else}
use Rattle.vs_words.specs.declared.rule.Grip.{Grip}
use Rattle.vs_words.specs.declared.rule.Grip.TheVariants.{Nothing, Holds, MustUndo}
use Rattle.vs_words.specs.declared.rule.View.{View}
use Rattle.vs_words.specs.Rule.{unused, lending, holding, undoing, free, closing, knowing, looking, one_if, has_part, total, parts_in, closed_part, Counts, NoneHolds, SomeHasSeen, IsSound, IsUnused, UnusedIsZero}

-- ---- totals over the passes

total_set : (f : View → ℕ) (views : List View) (id : ℕ) (v w : View) → get_elem? views id ≡ some v → total f (set views id w) + f v ≡ total f views + f w
total_set f [] id v w at = absurd (some-ne-none v (sym at))
total_set f (x ∷ xs) zero v w at = let e : f x ≡ f v = ap f (some-injective x v at) in omega arith
total_set f (x ∷ xs) (suc id) v w at = let e = total_set f xs id v w at in omega arith

pub total_snoc : {A : Type 0} (f : A → ℕ) (views : List A) (w : A) → total f (views ++ w ∷ []) ≡ total f views + f w
total_snoc f [] w = omega arith
total_snoc f (x ∷ xs) w = let e = total_snoc f xs w in omega arith

total_le : (f g : View → ℕ) (views : List View) → ((v : View) → f v ≤ g v) → total f views ≤ total g views
total_le f g [] le = omega arith
total_le f g (x ∷ xs) le = let e = total_le f g xs le in let h = le x in omega arith

one_of : (f : View → ℕ) (views : List View) (id : ℕ) (v : View) → get_elem? views id ≡ some v → f v ≤ total f views
one_of f [] id v at = absurd (some-ne-none v (sym at))
one_of f (x ∷ xs) zero v at = let e : f x ≡ f v = ap f (some-injective x v at) in omega arith
one_of f (x ∷ xs) (suc id) v at = let e = one_of f xs id v at in omega arith

-- ---- the part of one pass

one_if_le : (b : Bool) → one_if b ≤ 1
one_if_le true = omega arith
one_if_le false = omega arith

part_le : (i : ℕ) (g : Grip) → has_part i g ≤ 1
part_le i Nothing = omega arith
part_le i (Holds j) = one_if_le (j == i)
part_le i (MustUndo j) = one_if_le (j == i)

one_here : (i : ℕ) → one_if (i == i) ≡ 1
one_here i = grind (arith, nat_tests)

one_else : (i j : ℕ) → j ≢ i → one_if (i == j) ≡ 0
one_else i j apart = grind (arith, nat_tests)

few_parts : (i : ℕ) (views : List View) → total (λ v. suc v.spare) views ≡ 64 → parts_in i views ≤ 64
few_parts i views all = let e = total_le (λ v. has_part i v.grip) (λ v. suc v.spare) views (λ v. let h = part_le i v.grip in omega arith) in omega arith

-- where nobody has a part, nobody holds the word
none_holds : (i : ℕ) (views : List View) → parts_in i views ≡ 0 → NoneHolds i views
none_holds i views none id v at holds =
    let le = one_of (λ u. has_part i u.grip) views id v at in
    let one : has_part i v.grip ≡ 1 = ap (has_part i) holds ∙ one_here i in
    absurd (omega arith)

-- ---- one word is set

word_here : (words : List ℕ) (i n : ℕ) → i < length words → slice_index (set words i n) i ≡ n
word_here words i n within = get_or-set_same words i n 0 within

word_else : (words : List ℕ) (i j n : ℕ) → j ≢ i → slice_index (set words i n) j ≡ slice_index words j
word_else words i j n apart = get_or-set_other words i j n 0 apart

stays_closed : (words : List ℕ) (i j n : ℕ) → i < length words → (2 ^ 63 ≤ slice_index words i → 2 ^ 63 ≤ n) → 2 ^ 63 ≤ slice_index words j → 2 ^ 63 ≤ slice_index (set words i n) j
stays_closed words i j n within stays old = dite (ℕ_discrete j i)
    (λ same. subst (λ k. 2 ^ 63 ≤ slice_index (set words i n) k) (sym same)
    (subst (λ m. 2 ^ 63 ≤ m) (sym (word_here words i n within)) (stays (subst (λ k. 2 ^ 63 ≤ slice_index words k) same old))))
    (λ apart. subst (λ m. 2 ^ 63 ≤ m) (sym (word_else words i j n apart)) old)

-- ---- who has seen a word

below_length : (views : List View) (id : ℕ) (v : View) → get_elem? views id ≡ some v → id < length views
below_length [] id v at = absurd (some-ne-none v (sym at))
below_length (x ∷ xs) zero v at = omega arith
below_length (x ∷ xs) (suc id) v at = let e = below_length xs id v at in omega arith

-- a pass whose view changes recalls what it had seen, so whoever had seen the word is still there
seen_still : (views : List View) (id i : ℕ) (v w : View) → get_elem? views id ≡ some v → (Contains v.seen i → Contains w.seen i) → SomeHasSeen i views → SomeHasSeen i (set views id w)
seen_still views id i v w at recalls (other, u, there, has) = dite (ℕ_discrete other id)
    (λ same.
    let e : v ≡ u = some-injective v u (sym at ∙ subst (λ k. get_elem? views k ≡ some u) same there) in
    (id, w, set_here views id w (below_length views id v at), recalls (subst (λ (z : View). Contains z.seen i) (sym e) has)))
    (λ apart. (other, u, set_else views id other w apart ∙ there, has))

seen_longer : (views : List View) (i : ℕ) (w : View) → SomeHasSeen i views → SomeHasSeen i (views ++ w ∷ [])
seen_longer views i w (other, u, there, has) = (other, u, at_longer views (w ∷ []) other u there, has)

-- ---- a step of one pass on one word

-- what a step owes: word i becomes n, and the view v of its pass becomes w
record Owes (words : List ℕ) (views : List View) (id i n : ℕ) (v w : View) : Type 0 where
  spare : w.spare ≡ v.spare
  elsewhere : (j : ℕ) → j ≢ i → has_part j w.grip ≡ has_part j v.grip
  value : Counts n (parts_in i (set views id w))
  stays : 2 ^ 63 ≤ slice_index words i → 2 ^ 63 ≤ n
  seen : (j : ℕ) → Contains w.seen j → Contains v.seen j ⊎ ((i ≡ j) × (2 ^ 63 ≤ n))
  recalls : (j : ℕ) → Contains v.seen j → Contains w.seen j
  closed : 2 ^ 63 ≤ n → (2 ^ 63 ≤ slice_index words i) ⊎ Contains w.seen i
  known : (j : ℕ) → Contains w.known j → Contains v.known j ⊎ ((i ≡ j) × (2 ^ 63 ≤ n) × NoneHolds i (set views id w))
  holds : (j : ℕ) → w.grip ≡ Holds j → (v.grip ≡ Holds j) ⊎ (slice_index words j < 2 ^ 63)

none_still : (words : List ℕ) (views : List View) (id i n : ℕ) (v w : View) → Owes words views id i n v w → get_elem? views id ≡ some v
    → (j : ℕ) → 2 ^ 63 ≤ slice_index words j → NoneHolds j views → NoneHolds j (set views id w)
none_still words views id i n v w owes at j closed none other u there holds = ⊎_elim
    (λ x. ⊎_elim (λ old. none id v at old) (λ open_word. absurd (omega arith)) (owes.holds j (ap (λ (y : View). y.grip) x.1 ∙ holds)))
    (λ x. none other u x.1 holds)
    (at_set views id other w u there)

stays_sound : {S : Type 0} (count : ℕ) (s : State S View) (id i n : ℕ) (v w : View) → IsSound count s → get_elem? s.views id ≡ some v → i < count
    → Owes s.words s.views id i n v w → IsSound {S = S} count record { words = set s.words i n; homes = s.homes; views = set s.views id w }
stays_sound count s id i n v w sound at within owes =
    let long : i < length s.words = omega (arith, sound.number) in
    let stays = λ (j : ℕ) (old : 2 ^ 63 ≤ slice_index s.words j). stays_closed s.words i j n long owes.stays old in
    let here : 2 ^ 63 ≤ n → 2 ^ 63 ≤ slice_index (set s.words i n) i = λ le. subst (λ m. 2 ^ 63 ≤ m) (sym (word_here s.words i n long)) le in
    record {
      number = length-set s.words i n ∙ sound.number;
      all = (let e = total_set (λ u. suc u.spare) s.views id v w at in let f = sound.all in let g = owes.spare in omega arith);
      values = λ j lt. dite (ℕ_discrete j i)
          (λ same. subst (λ k. Counts (slice_index (set s.words i n) k) (parts_in k (set s.views id w))) (sym same) (owes.value.0, word_here s.words i n long ∙ owes.value.1))
          (λ apart.
          let e = total_set (λ u. has_part j u.grip) s.views id v w at in
          let f = owes.elsewhere j apart in
          let same : parts_in j (set s.views id w) ≡ parts_in j s.views = omega arith in
          let (b, was) = sound.values j lt in
          (b, word_else s.words i j n apart ∙ was ∙ ap (λ t. closed_part b + t) (sym same)));
      seen = λ other j u there has. ⊎_elim
          (λ x. ⊎_elim
          (λ old. stays j (sound.seen id j v at old))
          (λ y. subst (λ k. 2 ^ 63 ≤ slice_index (set s.words i n) k) y.0 (here y.1))
          (owes.seen j (subst (λ (y : View). Contains y.seen j) (sym x.1) has)))
          (λ x. stays j (sound.seen other j u x.1 has))
          (at_set s.views id other w u there);
      closed = λ j lt high. dite (ℕ_discrete j i)
          (λ same.
          let now : 2 ^ 63 ≤ n = subst (λ m. 2 ^ 63 ≤ m) (ap (slice_index (set s.words i n)) same ∙ word_here s.words i n long) high in
          subst (λ k. SomeHasSeen k (set s.views id w)) (sym same)
          (⊎_elim
          (λ was. seen_still s.views id i v w at (owes.recalls i) (sound.closed i within was))
          (λ has. (id, w, set_here s.views id w (below_length s.views id v at), has))
          (owes.closed now)))
          (λ apart. seen_still s.views id j v w at (owes.recalls j) (sound.closed j lt (subst (λ m. 2 ^ 63 ≤ m) (word_else s.words i j n apart) high)));
      known = λ other j u there has. ⊎_elim
          (λ x. ⊎_elim
          (λ old. let k = sound.known id j v at old in (stays j k.0, none_still s.words s.views id i n v w owes at j k.0 k.1))
          (λ y. subst (λ k. (2 ^ 63 ≤ slice_index (set s.words i n) k) × NoneHolds k (set s.views id w)) y.0 (here y.1, y.2))
          (owes.known j (subst (λ (y : View). Contains y.known j) (sym x.1) has)))
          (λ x. let k = sound.known other j u x.1 has in (stays j k.0, none_still s.words s.views id i n v w owes at j k.0 k.1))
          (at_set s.views id other w u there);
    }

-- ---- the steps

added : (n t : ℕ) (b : Bool) → n ≡ closed_part b + t → t ≤ 64 → (n + 1) % 2 ^ 64 ≡ n + 1
added n t true is le = omega arith
added n t false is le = omega arith

taken_off : (n t : ℕ) (b : Bool) → n ≡ closed_part b + suc t → t ≤ 64 → (n + (2 ^ 64 - 1)) % 2 ^ 64 ≡ closed_part b + t
taken_off n t true is le = omega arith
taken_off n t false is le = omega arith

-- a word at or above 2 ^ 63 whose count is small is closed
is_closed : (n t : ℕ) (b : Bool) → n ≡ closed_part b + t → t ≤ 64 → 2 ^ 63 ≤ n → 2 ^ 63 ≤ closed_part b
is_closed n t true is le high = omega arith
is_closed n t false is le high = omega arith

none_counted : (n t : ℕ) (b : Bool) → n ≡ closed_part b + t → t ≤ 64 → n ≡ 2 ^ 63 → t ≡ 0
none_counted n t true is le high = omega arith
none_counted n t false is le high = omega arith

-- one more reference leaves an open word open
stays_open : (n t : ℕ) (b : Bool) → n ≡ closed_part b + t → t ≤ 64 → n < 2 ^ 63 → n + 1 < 2 ^ 63
stays_open n t true is le low = absurd (omega arith)
stays_open n t false is le low = omega arith

-- `fetch_or` with 2 ^ 63 closes the word and keeps its count
or_closed : (b : Bool) (t : ℕ) → t < 2 ^ 63 → bit_or (closed_part b + t) (2 ^ 63) ≡ closed_part true + t
or_closed false t low =
    let n : ℕ = closed_part false + t in
    let sum = or_add_and n (2 ^ 63) in
    let and = and_pow n 63 in
    let bit : bit_at n 63 ≡ 0 = bit_at_above n 63 63 (omega arith) (omega arith) in
    let none : bit_and n (2 ^ 63) ≡ 0 = and ∙ rw bit in omega (arith, sum, none)
or_closed true t low =
    let n : ℕ = closed_part true + t in
    let sum = or_add_and n (2 ^ 63) in
    let and = and_pow n 63 in
    let bit : bit_at n 63 ≡ 1 = omega arith in
    let one : bit_and n (2 ^ 63) ≡ 2 ^ 63 = and ∙ rw bit in omega (arith, sum, one)

-- the word was found open, and the reference is taken
holding_owes : {S : Type 0} (count : ℕ) (s : State S View) (id i : ℕ) (v : View) → IsSound count s → get_elem? s.views id ≡ some v → i < count → v.grip ≡ Nothing
    → slice_index s.words i < 2 ^ 63 → Owes s.words s.views id i ((slice_index s.words i + 1) % 2 ^ 64) v (holding i (slice_index s.words i) v)
holding_owes count s id i v sound at within none low =
    let n : ℕ = slice_index s.words i in
    let w : View = holding i n v in
    let (b, is) = sound.values i within in
    let few = few_parts i s.views sound.all in
    let next : (n + 1) % 2 ^ 64 ≡ n + 1 = added n (parts_in i s.views) b is few in
    let mine = total_set (λ u. has_part i u.grip) s.views id v w at in
    let one : has_part i w.grip ≡ 1 = one_here i in
    let zero' : has_part i v.grip ≡ 0 = ap (has_part i) none in
    let more : parts_in i (set s.views id w) ≡ parts_in i s.views + 1 = omega arith in
    record {
      spare = refl;
      elsewhere = λ j apart. one_else i j apart ∙ sym (ap (has_part j) none);
      value = (b, next ∙ omega (arith, is, more));
      stays = λ high. absurd (omega arith);
      seen = λ j has. inl has;
      recalls = λ j has. has;
      closed = λ high. let open_still = stays_open n (parts_in i s.views) b is few low in absurd (omega (arith, next, open_still));
      known = λ j has. inl has;
      holds = λ j has. let e : i ≡ j = cc in inr (subst (λ k. slice_index s.words k < 2 ^ 63) e low);
    }

-- the word was found closed, and what was added is to be taken back
undoing_owes : {S : Type 0} (count : ℕ) (s : State S View) (id i : ℕ) (v : View) → IsSound count s → get_elem? s.views id ≡ some v → i < count → v.grip ≡ Nothing
    → 2 ^ 63 ≤ slice_index s.words i → Owes s.words s.views id i ((slice_index s.words i + 1) % 2 ^ 64) v (undoing i (slice_index s.words i) v)
undoing_owes count s id i v sound at within none high =
    let n : ℕ = slice_index s.words i in
    let w : View = undoing i n v in
    let (b, is) = sound.values i within in
    let few = few_parts i s.views sound.all in
    let next : (n + 1) % 2 ^ 64 ≡ n + 1 = added n (parts_in i s.views) b is few in
    let mine = total_set (λ u. has_part i u.grip) s.views id v w at in
    let one : has_part i w.grip ≡ 1 = one_here i in
    let zero' : has_part i v.grip ≡ 0 = ap (has_part i) none in
    let more : parts_in i (set s.views id w) ≡ parts_in i s.views + 1 = omega arith in
    record {
      spare = refl;
      elsewhere = λ j apart. one_else i j apart ∙ sym (ap (has_part j) none);
      value = (b, next ∙ omega (arith, is, more));
      stays = λ high'. omega arith;
      seen = λ j has. ⊎_elim (λ old. inl old) (λ e. inr (e, omega arith)) (Contains-push_cases v.seen i j has);
      recalls = λ j has. Contains-append_left v.seen (i ∷ []) j has;
      closed = λ _. inl high;
      known = λ j has. inl has;
      holds = λ j has. absurd (cc);
    }

pub takes : {S : Type 0} (count slots id : ℕ) (me : Me S View) (i : ℕ) → i < count → me.0.grip ≡ Nothing
    → Allows (IsSound count) slots id me i (λ n. (n + 1) % 2 ^ 64)
    (λ found after.
    (found < 2 ^ 63 → after ≡ (holding i found me.0, me.1)) × (2 ^ 63 ≤ found → after ≡ (undoing i found me.0, me.1)) × (Contains me.0.seen i → 2 ^ 63 ≤ found) × (Contains me.0.known i → 2 ^ 63 ≤ found))
takes count slots id me i within none s sound homes at fits =
    let n : ℕ = slice_index s.words i in
    let told = λ (has : Contains me.0.seen i). sound.seen id i me.0 at has in
    let knew = λ (has : Contains me.0.known i). (sound.known id i me.0 at has).0 in
    dite (dec_le (2 ^ 63) n)
    (λ high. (
      undoing i n me.0,
      keeps,
      tt,
      stays_sound count s id i ((n + 1) % 2 ^ 64) me.0 (undoing i n me.0) sound at within (undoing_owes count s id i me.0 sound at within none high),
      ((λ low. absurd (omega arith)), (λ _. refl), told, knew),
    ))
    (λ not_high. let low : n < 2 ^ 63 = omega arith in (
      holding i n me.0,
      keeps,
      tt,
      stays_sound count s id i ((n + 1) % 2 ^ 64) me.0 (holding i n me.0) sound at within (holding_owes count s id i me.0 sound at within none low),
      ((λ _. refl), (λ high. absurd (omega arith)), told, knew),
    ))

-- a pass that holds a word, or must undo it, lets it go
freeing_owes : {S : Type 0} (count : ℕ) (s : State S View) (id i : ℕ) (v : View) → IsSound count s → get_elem? s.views id ≡ some v → i < count
    → has_part i v.grip ≡ 1 → ((j : ℕ) → j ≢ i → has_part j v.grip ≡ 0)
    → Owes s.words s.views id i ((slice_index s.words i + (2 ^ 64 - 1)) % 2 ^ 64) v (free v)
freeing_owes count s id i v sound at within one else' =
    let n : ℕ = slice_index s.words i in
    let w : View = free v in
    let (b, is) = sound.values i within in
    let few = few_parts i s.views sound.all in
    let mine = total_set (λ u. has_part i u.grip) s.views id v w at in
    let t : ℕ = parts_in i (set s.views id w) in
    let less : parts_in i s.views ≡ suc t = omega arith in
    let less' : t ≤ 64 = omega arith in
    let was : n ≡ closed_part b + suc t = is ∙ ap (λ m. closed_part b + m) less in
    let next : (n + (2 ^ 64 - 1)) % 2 ^ 64 ≡ closed_part b + t = taken_off n t b was less' in
    record {
      spare = refl;
      elsewhere = λ j apart. sym (else' j apart);
      value = (b, next);
      stays = λ high. let c = is_closed n (parts_in i s.views) b is few high in omega (arith, next, c);
      seen = λ j has. inl has;
      recalls = λ j has. has;
      closed = λ high. let c = is_closed (closed_part b + t) t b refl less' (subst (λ m. 2 ^ 63 ≤ m) next high) in inl (omega (arith, was, c));
      known = λ j has. inl has;
      holds = λ j has. absurd (cc);
    }

frees : {S : Type 0} (count slots id : ℕ) (me : Me S View) (i : ℕ) → i < count → has_part i me.0.grip ≡ 1 → ((j : ℕ) → j ≢ i → has_part j me.0.grip ≡ 0)
    → Allows (IsSound count) slots id me i (λ n. (n + (2 ^ 64 - 1)) % 2 ^ 64) (λ found after. after ≡ (free me.0, me.1))
frees count slots id me i within one else' s sound homes at fits = (
  free me.0,
  keeps,
  tt,
  stays_sound count s id i ((slice_index s.words i + (2 ^ 64 - 1)) % 2 ^ 64) me.0 (free me.0) sound at within (freeing_owes count s id i me.0 sound at within one else'),
  refl,
)

pub gives : {S : Type 0} (count slots id : ℕ) (me : Me S View) (i : ℕ) → i < count → me.0.grip ≡ Holds i
    → Allows (IsSound count) slots id me i (λ n. (n + (2 ^ 64 - 1)) % 2 ^ 64) (λ found after. after ≡ (free me.0, me.1))
gives count slots id me i within holds =
    frees count slots id me i within (ap (has_part i) holds ∙ one_here i) (λ j apart. ap (has_part j) holds ∙ one_else i j apart)

pub undoes : {S : Type 0} (count slots id : ℕ) (me : Me S View) (i : ℕ) → i < count → me.0.grip ≡ MustUndo i
    → Allows (IsSound count) slots id me i (λ n. (n + (2 ^ 64 - 1)) % 2 ^ 64) (λ found after. after ≡ (free me.0, me.1))
undoes count slots id me i within must =
    frees count slots id me i within (ap (has_part i) must ∙ one_here i) (λ j apart. ap (has_part j) must ∙ one_else i j apart)

closing_owes : {S : Type 0} (count : ℕ) (s : State S View) (id i : ℕ) (v : View) → IsSound count s → get_elem? s.views id ≡ some v → i < count
    → Owes s.words s.views id i (bit_or (slice_index s.words i) (2 ^ 63)) v (closing i v)
closing_owes count s id i v sound at within =
    let n : ℕ = slice_index s.words i in
    let w : View = closing i v in
    let (b, is) = sound.values i within in
    let few = few_parts i s.views sound.all in
    let t : ℕ = parts_in i s.views in
    let next : bit_or n (2 ^ 63) ≡ closed_part true + t = ap (λ m. bit_or m (2 ^ 63)) is ∙ or_closed b t (omega arith) in
    let mine = total_set (λ u. has_part i u.grip) s.views id v w at in
    let same : parts_in i (set s.views id w) ≡ t = omega arith in
    let high : 2 ^ 63 ≤ bit_or n (2 ^ 63) = omega (arith, next) in
    record {
      spare = refl;
      elsewhere = λ j apart. refl;
      value = (true, next ∙ ap (λ m. closed_part true + m) (sym same));
      stays = λ _. high;
      seen = λ j has. ⊎_elim (λ old. inl old) (λ e. inr (e, high)) (Contains-push_cases v.seen i j has);
      recalls = λ j has. Contains-append_left v.seen (i ∷ []) j has;
      closed = λ _. inr (Contains-push v.seen i);
      known = λ j has. inl has;
      holds = λ j has. inl has;
    }

pub closes : {S : Type 0} (count slots id : ℕ) (me : Me S View) (i : ℕ) → i < count
    → Allows (IsSound count) slots id me i (λ n. bit_or n (2 ^ 63)) (λ found after. after ≡ (closing i me.0, me.1))
closes count slots id me i within s sound homes at fits = (
  closing i me.0,
  keeps,
  tt,
  stays_sound count s id i (bit_or (slice_index s.words i) (2 ^ 63)) me.0 (closing i me.0) sound at within (closing_owes count s id i me.0 sound at within),
  refl,
)

knowing_owes : {S : Type 0} (count : ℕ) (s : State S View) (id i : ℕ) (v : View) → IsSound count s → get_elem? s.views id ≡ some v → i < count
    → slice_index s.words i ≡ 2 ^ 63 → Owes s.words s.views id i (slice_index s.words i) v (knowing i (slice_index s.words i) v)
knowing_owes count s id i v sound at within is_empty =
    let n : ℕ = slice_index s.words i in
    let w : View = knowing i n v in
    let (b, is) = sound.values i within in
    let few = few_parts i s.views sound.all in
    let mine = total_set (λ u. has_part i u.grip) s.views id v w at in
    let same : parts_in i (set s.views id w) ≡ parts_in i s.views = omega arith in
    let none : parts_in i s.views ≡ 0 = none_counted n (parts_in i s.views) b is few is_empty in
    record {
      spare = refl;
      elsewhere = λ j apart. refl;
      value = (b, is ∙ ap (λ m. closed_part b + m) (sym same));
      stays = λ high. high;
      seen = λ j has. inl has;
      recalls = λ j has. has;
      closed = λ high. inl high;
      known = λ j has. ⊎_elim (λ old. inl old) (λ e. inr (e, omega arith, none_holds i (set s.views id w) (same ∙ none))) (Contains-push_cases v.known i j has);
      holds = λ j has. inl has;
    }

looking_owes : {S : Type 0} (count : ℕ) (s : State S View) (id i : ℕ) (v : View) → IsSound count s → get_elem? s.views id ≡ some v → i < count
    → Owes s.words s.views id i (slice_index s.words i) v (looking (slice_index s.words i) v)
looking_owes count s id i v sound at within =
    let n : ℕ = slice_index s.words i in
    let w : View = looking n v in
    let (b, is) = sound.values i within in
    let mine = total_set (λ u. has_part i u.grip) s.views id v w at in
    let same : parts_in i (set s.views id w) ≡ parts_in i s.views = omega arith in
    record {
      spare = refl;
      elsewhere = λ j apart. refl;
      value = (b, is ∙ ap (λ m. closed_part b + m) (sym same));
      stays = λ high. high;
      seen = λ j has. inl has;
      recalls = λ j has. has;
      closed = λ high. inl high;
      known = λ j has. inl has;
      holds = λ j has. inl has;
    }

pub looks : {S : Type 0} (count slots id : ℕ) (me : Me S View) (i : ℕ) → i < count
    → Allows (IsSound count) slots id me i (λ n. n)
    (λ found after. (found ≡ 2 ^ 63 → after ≡ (knowing i found me.0, me.1)) × (found ≢ 2 ^ 63 → after ≡ (looking found me.0, me.1)))
looks count slots id me i within s sound homes at fits =
    let n : ℕ = slice_index s.words i in
    dite (ℕ_discrete n (2 ^ 63))
    (λ is_empty. (
      knowing i n me.0,
      keeps,
      tt,
      stays_sound count s id i n me.0 (knowing i n me.0) sound at within (knowing_owes count s id i me.0 sound at within is_empty),
      ((λ _. refl), (λ other. absurd (other is_empty))),
    ))
    (λ not_empty. (
      looking n me.0,
      keeps,
      tt,
      stays_sound count s id i n me.0 (looking n me.0) sound at within (looking_owes count s id i me.0 sound at within),
      ((λ same. absurd (not_empty same)), (λ _. refl)),
    ))

-- ---- the opening, and a split

-- a pass is split from another
pub splits : {S : Type 0} (count id : ℕ) (v : View) → 0 < v.spare → Splits {S = S} (IsSound count) id v (lending v) (unused 0)
splits count id v some_left s sound at =
    let l : View = lending v in
    let r : View = unused 0 in
    let vs : List View = set s.views id l in
    let grips = λ (f : Grip → ℕ). total_set (λ u. f u.grip) s.views id v l at in
    record {
      number = sound.number;
      all = (let a = total_set (λ u. suc u.spare) s.views id v l at in let b = total_snoc (λ u. suc u.spare) vs r in let k = sound.all in omega arith);
      values = λ i lt.
          let a = grips (has_part i) in
          let b = total_snoc (λ u. has_part i u.grip) vs r in
          let same : parts_in i (vs ++ r ∷ []) ≡ parts_in i s.views = omega arith in
          let (c, is) = sound.values i lt in (c, is ∙ ap (λ m. closed_part c + m) (sym same));
      seen = λ other i u there has. ⊎_elim
          (λ x. ⊎_elim
          (λ y. sound.seen id i v at (subst (λ (z : View). Contains z.seen i) (sym y.1) has))
          (λ y. sound.seen other i u y.1 has)
          (at_set s.views id other l u x))
          (λ (e : r ≡ u). none_seen (subst (λ (z : View). Contains z.seen i) (sym e) has))
          (at_snoc vs r u other there);
      closed = λ i lt high. seen_longer vs i r (seen_still s.views id i v l at (λ has. has) (sound.closed i lt high));
      known = λ other i u there has. ⊎_elim
          (λ x. ⊎_elim
          (λ y. let k = sound.known id i v at (subst (λ (z : View). Contains z.known i) (sym y.1) has) in (k.0, apart i k.1))
          (λ y. let k = sound.known other i u y.1 has in (k.0, apart i k.1))
          (at_set s.views id other l u x))
          (λ (e : r ≡ u). absurd (no_element (subst (λ (z : View). Contains z.known i) (sym e) has)))
          (at_snoc vs r u other there);
    }
  where
    no_element : {i : ℕ} → Contains [] i → ⊥
    no_element (k, lt, is) = omega arith

    none_seen : {i : ℕ} {P : Type 0} → Contains [] i → P
    none_seen has = absurd (no_element has)

    apart : (i : ℕ) → NoneHolds i s.views → NoneHolds i (set s.views id (lending v) ++ unused 0 ∷ [])
    apart i none other u there holds = ⊎_elim
        (λ x. ⊎_elim
        (λ y. none id v at (ap (λ (z : View). z.grip) y.1 ∙ holds))
        (λ y. none other u y.1 holds)
        (at_set s.views id other (lending v) u x))
        (λ (e : unused 0 ≡ u). let h = ap (λ (z : View). z.grip) e ∙ holds in absurd (cc))
        (at_snoc (set s.views id (lending v)) (unused 0) u other there)

-- ---- words of passes that were not used

none_at_all : (i : ℕ) (views : List View) → ((id : ℕ) (v : View) → get_elem? views id ≡ some v → IsUnused v) → parts_in i views ≡ 0
none_at_all i [] all = refl
none_at_all i (x ∷ xs) all =
    let first : has_part i x.grip ≡ 0 = ap (λ (v : View). has_part i v.grip) (all 0 x refl) in
    let others = none_at_all i xs (λ id v at. all (suc id) v at) in omega arith

pub unused_zero : UnusedIsZero
unused_zero count i state sound lt all =
    let none = none_at_all i state.views all in
    let (b, is) = sound.values i lt in
    no_part b is none
  where
    no_element : Contains [] i → ⊥
    no_element (k, lt', is) = omega arith

    not_closed : 2 ^ 63 ≤ slice_index state.words i → ⊥
    not_closed high =
        let (id, v, at, has) = sound.closed i lt high in
        no_element (subst (λ (z : View). Contains z.seen i) (all id v at) has)

    no_part : (b : Bool) → slice_index state.words i ≡ closed_part b + parts_in i state.views → parts_in i state.views ≡ 0 → slice_index state.words i ≡ 0
    no_part false is none = omega arith
    no_part true is none = absurd (not_closed (omega arith))
