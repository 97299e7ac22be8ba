-- Operations on keys and values leave rows of keys and values, and answer such.
use Rattle.std.proofs.Common.{◌≡◌, ℕ, zero, suc, ◌+◌, ◌<◌, ◌≤◌, ◌^◌, Bool, true, false, cond, List, [], ◌∷◌, length, take, Option, Some, None, refl, ap, arith}
use Rattle.std.specs.Prelude.{filter, if◌then◌else◌, not}
use Rattle.std.specs.List.{AllByRecursion}
use Rattle.std.specs.Option.{option_map_or}
use Rattle.std.specs.BTreeMap.{is_at}
use Rattle.std.specs.Ordering.{match_ordering, is_lt}
use Rattle.std.specs.declared.cmp.Ordering.{Ordering}
use Rattle.std.specs.declared.cmp.Ordering.TheVariants.{Less, Equal, Greater}
use Rattle.vs_rows.specs.Names.{IsKey, IsValue}
use Rattle.vs_rows.specs.Operations.{is_same, answer_to, row_map_after, answers_to, rows_after}
use Rattle.vs_rows.specs.RowMap.{RowMap, IsRising, key_cmp, value_of, with_value, without_key, rows_from}
use Rattle.vs_rows.specs.Said.{Value, NoValue, Done, Exists, Differs}
use Rattle.vs_rows.specs.declared.op.Op.{Op}
use Rattle.vs_rows.specs.declared.op.Op.TheVariants.{Get, Put, Insert, Delete, Swap, Count, Scan}
use Rattle.vs_machine.proofs.Rising.{rising_after}
use Rattle.vs_legal.specs.Named.{IsNamedOp, IsNamedRow}
use Rattle.vs_legal.proofs.Words.Operations.{IsNamedAnswer}

-- the rows are of keys and values, and no more than so many
pub record AreFew (rows : RowMap) (most : ℕ) : Type 0 where
  pub named : AllByRecursion IsNamedRow rows
  pub few : length rows ≤ most

more : (rows : RowMap) (m n : ℕ) → m ≤ n → AreFew rows m → AreFew rows n
more rows m n le f = let few = f.few in record { named = f.named; few = omega (arith, few, le) }

-- ---- a value at a key

by_order : (o : Ordering) (n : ℕ) (a b c : RowMap) → AreFew a n → AreFew b n → AreFew c n → AreFew (match_ordering o a b c) n
by_order Less n a b c x y z = x
by_order Equal n a b c x y z = y
by_order Greater n a b c x y z = z

pub with_few : (m : RowMap) (k v : List ℕ) → AllByRecursion IsNamedRow m → IsKey k → IsValue v → AreFew (with_value m k v) (length m + 1)
with_few [] k v named key value = record { named = ((key, value), tt); few = omega arith }
with_few (row ∷ m) k v named key value =
    let rest = with_few m k v named.1 key value in
    let few = rest.few in
    by_order (key_cmp k row.0) (length (row ∷ m) + 1) ((k, v) ∷ row ∷ m) ((row.0, v) ∷ m) (row ∷ with_value m k v)
    (record { named = ((key, value), named); few = omega arith })
    (record { named = ((named.0.0, value), named.1); few = omega arith })
    (record { named = (named.0, rest.named); few = omega (arith, few) })

without_few : (m : RowMap) (k : List ℕ) → AllByRecursion IsNamedRow m → AreFew (without_key m k) (length m)
without_few [] k named = record { named = tt; few = omega arith }
without_few (row ∷ m) k named = by_test (is_at (key_cmp k) row.0) (without_few m k named.1)
  where
    by_test : (b : Bool) → AreFew (without_key m k) (length m) → AreFew (cond b m (row ∷ without_key m k)) (length (row ∷ m))
    by_test true rest = record { named = named.1; few = omega arith }
    by_test false rest = let few = rest.few in record { named = (named.0, rest.named); few = omega (arith, few) }

-- ---- the value of a key

abbrev IsNamedValue : Option (List ℕ) → Type 0
IsNamedValue None = Unit {0}
IsNamedValue (Some v) = IsValue v

value_named : (m : RowMap) (k : List ℕ) → AllByRecursion IsNamedRow m → IsNamedValue (value_of m k)
value_named [] k named = tt
value_named (row ∷ m) k named = by_test (is_at (key_cmp k) row.0) (value_named m k named.1)
  where
    by_test : (b : Bool) → IsNamedValue (value_of m k) → IsNamedValue (cond b (Some row.1) (value_of m k))
    by_test true rest = named.0.1
    by_test false rest = rest

-- ---- some of the rows

filter_each : {A : Type 0} (P : A → Type 0) (p : A → Bool) (xs : List A) → AllByRecursion P xs → AllByRecursion P (filter p xs)
filter_each P p [] each = tt
filter_each P p (x ∷ xs) each = by_test (p x) (filter_each P p xs each.1)
  where
    by_test : (b : Bool) → AllByRecursion P (filter p xs) → AllByRecursion P (cond b (x ∷ filter p xs) (filter p xs))
    by_test true rest = (each.0, rest)
    by_test false rest = rest

pub take_each : {A : Type 0} (P : A → Type 0) (n : ℕ) (xs : List A) → AllByRecursion P xs → AllByRecursion P (take n xs)
take_each P zero xs each = tt
take_each P (suc n) [] each = tt
take_each P (suc n) (x ∷ xs) each = (each.0, take_each P n xs each.1)

filter_rises : (p : List ℕ × List ℕ → Bool) (m : RowMap) → IsRising m → IsRising (filter p m)
filter_rises p [] rises = tt
filter_rises p (row ∷ m) rises = by_test (p row) (filter_rises p m rises.1)
  where
    by_test : (b : Bool) → IsRising (filter p m) → IsRising (cond b (row ∷ filter p m) (filter p m))
    by_test true rest = (filter_each (λ (later : List ℕ × List ℕ). key_cmp row.0 later.0 ≡ Less) p m rises.0, rest)
    by_test false rest = rest

take_rises : (n : ℕ) (m : RowMap) → IsRising m → IsRising (take n m)
take_rises zero m rises = tt
take_rises (suc n) [] rises = tt
take_rises (suc n) (row ∷ m) rises = (take_each (λ (later : List ℕ × List ℕ). key_cmp row.0 later.0 ≡ Less) n m rises.0, take_rises n m rises.1)

take_few : {A : Type 0} (n : ℕ) (xs : List A) → length (take n xs) ≤ n
take_few zero xs = omega arith
take_few (suc n) [] = omega arith
take_few (suc n) (x ∷ xs) = omega (arith, take_few n xs)

-- ---- one operation

one_after : (m : RowMap) (op : Op) → AllByRecursion IsNamedRow m → IsNamedOp op → AreFew (row_map_after m op) (length m + 1)
one_after m (Get k) named is = record { named = named; few = omega arith }
one_after m (Put k v) named is = with_few m k v named is.0 is.1
one_after m (Insert k v) named is = by_value (value_of m k)
  where
    by_value : (o : Option (List ℕ)) → AreFew (option_map_or (λ _. m) o (with_value m k v)) (length m + 1)
    by_value None = with_few m k v named is.0 is.1
    by_value (Some w) = record { named = named; few = omega arith }
one_after m (Delete k) named is = more (without_key m k) (length m) (length m + 1) (omega arith) (without_few m k named)
one_after m (Swap k old new) named is = by_value (value_of m k)
  where
    by_test : (b : Bool) → AreFew (if b then with_value m k new else m) (length m + 1)
    by_test true = with_few m k new named is.0 is.2
    by_test false = record { named = named; few = omega arith }

    by_value : (o : Option (List ℕ)) → AreFew (option_map_or (λ v. if is_same v old then with_value m k new else m) o m) (length m + 1)
    by_value None = record { named = named; few = omega arith }
    by_value (Some w) = by_test (is_same w old)
one_after m Count named is = record { named = named; few = omega arith }
one_after m (Scan k n) named is = record { named = named; few = omega arith }

one_answer : (m : RowMap) (op : Op) → AllByRecursion IsNamedRow m → IsRising m → length m < 2 ^ 64 → IsNamedOp op → IsNamedAnswer (answer_to m op)
one_answer m (Get k) named rises fits is = by_value (value_of m k) (value_named m k named)
  where
    by_value : (o : Option (List ℕ)) → IsNamedValue o → IsNamedAnswer (option_map_or Value o NoValue)
    by_value None value = tt
    by_value (Some v) value = value
one_answer m (Put k v) named rises fits is = tt
one_answer m (Insert k v) named rises fits is = by_value (value_of m k)
  where
    by_value : (o : Option (List ℕ)) → IsNamedAnswer (option_map_or (λ _. Exists) o Done)
    by_value None = tt
    by_value (Some w) = tt
one_answer m (Delete k) named rises fits is = by_value (value_of m k)
  where
    by_value : (o : Option (List ℕ)) → IsNamedAnswer (option_map_or (λ _. Done) o NoValue)
    by_value None = tt
    by_value (Some w) = tt
one_answer m (Swap k old new) named rises fits is = by_value (value_of m k)
  where
    by_test : (b : Bool) → IsNamedAnswer (if b then Done else Differs)
    by_test true = tt
    by_test false = tt

    by_value : (o : Option (List ℕ)) → IsNamedAnswer (option_map_or (λ v. if is_same v old then Done else Differs) o NoValue)
    by_value None = tt
    by_value (Some w) = by_test (is_same w old)
one_answer m Count named rises fits is = fits
one_answer m (Scan k n) named rises fits is =
    let few = take_few n (rows_from m k) in
    let most = is.2 in (
      omega (arith, few, most),
      record {
        named = take_each IsNamedRow n (rows_from m k) (filter_each IsNamedRow (λ row. not (is_lt (key_cmp row.0 k))) m named);
        rising = take_rises n (rows_from m k) (filter_rises (λ row. not (is_lt (key_cmp row.0 k))) m rises);
      },
    )

-- ---- operations, one after the other

pub rows_few : (m : RowMap) (ops : List Op) → AllByRecursion IsNamedRow m → AllByRecursion IsNamedOp ops → AreFew (rows_after m ops) (length m + length ops)
rows_few m [] named are = record { named = named; few = omega arith }
rows_few m (op ∷ ops) named are =
    let one = one_after m op named are.0 in
    let rest = rows_few (row_map_after m op) ops one.named are.1 in
    let first = one.few in
    more (rows_after (row_map_after m op) ops) (length (row_map_after m op) + length ops) (length m + length (op ∷ ops)) (omega (arith, first)) rest

pub answers_named : (m : RowMap) (ops : List Op) → AllByRecursion IsNamedRow m → IsRising m → length m + length ops < 2 ^ 64 → AllByRecursion IsNamedOp ops
    → AllByRecursion IsNamedAnswer (answers_to m ops) × (length (answers_to m ops) ≡ length ops)
answers_named m [] named rises fits are = (tt, refl)
answers_named m (op ∷ ops) named rises fits are =
    let one = one_after m op named are.0 in
    let first = one.few in
    let rest = answers_named (row_map_after m op) ops one.named (rising_after m (op ∷ []) rises) (omega (arith, first, fits)) are.1 in
    ((one_answer m op named rises (omega arith) are.0, rest.0), ap suc rest.1)
