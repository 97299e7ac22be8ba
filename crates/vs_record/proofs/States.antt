-- What a change of entries or rows in memory does to what they stand for.
use Rattle.std.proofs.Common.{◌≡◌, ℕ, zero, suc, ◌+◌, ◌<◌, ◌≤◌, ◌==◌, ◌&&◌, nat_le, nat_lt, Bool, true, false, List, [], ◌∷◌, Option, Some, None, if◌then◌else◌, ◌⊎◌, ⊎_elim, inl, inr, refl, sym, ap, ◌∙◌, arith}
use Rattle.std.specs.Option.{option_map_or}
use Rattle.std.proofs.lemmas.Bool.{cases_lt}
use Rattle.std.proofs.lemmas.Bool.Decides.{nat_tests}
use Rattle.vs_base.specs.Numbers.{IsBucketId}
use Rattle.vs_rows.specs.RowMap.{RowMap}
use Rattle.vs_space.specs.Entries.{status_of, with_status, RisesFrom, booted as booted_entries}
use Rattle.vs_space.specs.declared.status.Status.{Status}
use Rattle.vs_space.proofs.Entries.{status_of-with_status}
use Rattle.vs_record.specs.Durable.{Durable, put, booted, IsSameAt}
use Rattle.vs_record.specs.RowTable.{Rows, Places, rows_at, row_map_at, Sets, SetsRows, HasSameRows, AreOfBuckets}
use Rattle.vs_record.proofs.Tables.{none_outside, empty_at}

-- states that are the same at each bucket are the same
pub same_state : (x y : Durable) → ((b : ℕ) → x.entry b ≡ y.entry b) → ((b : ℕ) → x.rows b ≡ y.rows b) → x ≡ y
same_state x y entries rows = λ i. record { entry = λ b. entries b i; rows = λ b. rows b i }

turned : (x y : ℕ) → (x == y) ≡ (y == x)
turned x y = grind (arith, nat_tests)

pub entry_set : (es : List (ℕ × Status)) (b : ℕ) (new : Option Status) (q : ℕ) → status_of (with_status es b new) q ≡ put (status_of es) b new q
entry_set es b new q = status_of-with_status es b new q ∙ ap (λ (t : Bool). if t then new else status_of es q) (turned b q)

pub entry_booted : (count first b : ℕ) → status_of (booted_entries first count) b ≡ (booted first count).entry b
entry_booted zero first b = grind (arith, nat_tests)
entry_booted (suc n) first b = let rest = entry_booted n (first + 1) b in grind (arith, nat_tests, rest)

-- ---- rows

abbrev items_of : Option Rows → RowMap
items_of rows = option_map_or (λ r. r.items) rows []

moved : (t : Bool) (rows old : Option Rows) → items_of (if t then rows else old) ≡ (if t then items_of rows else items_of old)
moved true rows old = refl
moved false rows old = refl

pub rows_of_sets : (old new : Places) (id : ℕ) (rows : Option Rows) → Sets old new id rows → SetsRows old new id (items_of rows)
rows_of_sets old new id rows sets b = ap items_of (sets b) ∙ moved (b == id) rows (rows_at old b)

again_set : (t : Bool) (x y z : RowMap) → (if t then x else (if t then y else z)) ≡ (if t then x else z)
again_set true x y z = refl
again_set false x y z = refl

-- rows that were taken out and are put back, changed
pub lifted_put : (old mid new : Places) (id : ℕ) (rows : Rows) → Sets old mid id None → Sets mid new id (Some rows) → SetsRows old new id rows.items
lifted_put old mid new id rows gone put_back b =
    rows_of_sets mid new id (Some rows) put_back b ∙ ap (λ (r : RowMap). if b == id then rows.items else r) (rows_of_sets old mid id None gone b) ∙ again_set (b == id) rows.items [] (row_map_at old b)

by_test : {A : Type 0} (f : ℕ → A) (b id : ℕ) (x : A) → x ≡ f id → (if b == id then x else f b) ≡ f b
by_test f b id x same = by (b == id) refl
  where
    by : (t : Bool) → (b == id) ≡ t → (if b == id then x else f b) ≡ f b
    by true is = let here : b ≡ id = grind (arith, nat_tests) in rw is (same ∙ ap f (sym here))
    by false is = rw is refl

-- or as they were
pub same_put : (old new : Places) (id : ℕ) (rows : RowMap) → SetsRows old new id rows → rows ≡ row_map_at old id → HasSameRows old new
same_put old new id rows sets same b = sets b ∙ by_test (row_map_at old) b id rows same

-- a bucket without rows has none taken out
pub none_gone : (old new : Places) (id : ℕ) → Sets old new id None → row_map_at old id ≡ [] → HasSameRows old new
none_gone old new id gone none = same_put old new id [] (rows_of_sets old new id None gone) (sym none)

-- ---- all buckets

-- what is no bucket has no entry
pub no_entry_before : (es : List (ℕ × Status)) (low b : ℕ) → RisesFrom low es → (b < low) ⊎ (30000 < b) → status_of es b ≡ None
no_entry_before [] low b rises out = refl
no_entry_before (e ∷ es) low b rises out =
    let rest : status_of es b ≡ None = no_entry_before es (e.0 + 1) b rises.2 (⊎_elim (λ (less : b < low). inl (omega (arith, less, rises.0))) inr out) in
    let other : (e.0 == b) ≡ false = ⊎_elim (λ (less : b < low). let lower : b < e.0 = omega (arith, less, rises.0) in grind (arith, nat_tests, lower)) (λ (more : 30000 < b). let higher : e.0 < b = omega (arith, more, rises.1) in grind (arith, nat_tests, higher)) out in
    rw other rest

outside : (b : ℕ) → ¬ (IsBucketId b) → (b < 1) ⊎ (30000 < b)
outside b no_bucket = elim (cases_lt b 1) [
  | inl less ↦ inl less
  | inr from ↦ elim (cases_lt 30000 b) [
    | inl more ↦ inr more
    | inr upto ↦ absurd (no_bucket (from, upto))
  ]
]

pub no_entry : (es : List (ℕ × Status)) (b : ℕ) → RisesFrom 1 es → ¬ (IsBucketId b) → status_of es b ≡ None
no_entry es b rises no_bucket = no_entry_before es 1 b rises (outside b no_bucket)

pub no_rows : (entries : Places) (b : ℕ) → AreOfBuckets entries → ¬ (IsBucketId b) → row_map_at entries b ≡ []
no_rows entries b all no_bucket = ap items_of (none_outside entries b all no_bucket)

-- states that are the same at each bucket and elsewhere are the same
pub same_everywhere : (x y : Durable) → ((b : ℕ) → 1 ≤ b → b < 30001 → IsSameAt x y b) → ((b : ℕ) → ¬ (IsBucketId b) → IsSameAt x y b) → x ≡ y
same_everywhere x y inside out = same_state x y (λ b. (at b).entry) (λ b. (at b).rows)
  where
    at : (b : ℕ) → IsSameAt x y b
    at b = elim (cases_lt b 1) [
      | inl less ↦ out b (λ is. absurd (omega (arith, less, is.0)))
      | inr from ↦ elim (cases_lt 30000 b) [
        | inl more ↦ out b (λ is. absurd (omega (arith, more, is.1)))
        | inr upto ↦ inside b from (omega (arith, upto))
      ]
    ]

pub same_is_same : (x y : Durable) (b : ℕ) → x ≡ y → IsSameAt x y b
same_is_same x y b same = record { entry = ap (λ (d : Durable). d.entry b) same; rows = ap (λ (d : Durable). d.rows b) same }

-- ---- copies, bucket by bucket

pub copied_none : (rows copy : Places) → copy ≡ [] → (b : ℕ) → row_map_at copy b ≡ (if nat_le 1 b && nat_lt b 1 then row_map_at rows b else [])
copied_none rows copy none b = ap (λ (l : Places). row_map_at l b) none ∙ empty_at b ∙ sym (by (nat_le 1 b && nat_lt b 1) refl)
  where
    by : (t : Bool) → (nat_le 1 b && nat_lt b 1) ≡ t → (if nat_le 1 b && nat_lt b 1 then row_map_at rows b else []) ≡ []
    by true is = absurd (let low : 1 ≤ b = grind (arith, nat_tests) in let high : b < 1 = grind (arith, nat_tests) in omega arith)
    by false is = rw is refl

pub copied_all : (rows copy : Places) (n : ℕ) → 30001 ≤ n → AreOfBuckets rows → ((b : ℕ) → row_map_at copy b ≡ (if nat_le 1 b && nat_lt b n then row_map_at rows b else [])) → HasSameRows rows copy
copied_all rows copy n all ids so_far b = so_far b ∙ by (nat_le 1 b && nat_lt b n) refl
  where
    by : (t : Bool) → (nat_le 1 b && nat_lt b n) ≡ t → (if nat_le 1 b && nat_lt b n then row_map_at rows b else []) ≡ row_map_at rows b
    by true is = rw is refl
    by false is = rw is (sym (no_rows rows b ids (λ bucket. absurd (let yes : (nat_le 1 b && nat_lt b n) ≡ true = grind (arith, nat_tests, bucket) in cc))))
