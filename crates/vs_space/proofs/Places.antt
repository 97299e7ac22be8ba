-- The entries of a table of places: how they are read, changed, counted and made.
use Rattle.std.proofs.Common.{◌≡◌, ℕ, zero, suc, ◌+◌, ◌-◌, ◌<◌, ◌≤◌, List, [], ◌∷◌, ◌++◌, length, get_or, set, take, Option, Some, None, refl, sym, ap, ◌∙◌, arith, cond, subst, zero-add, append-nil}
use Rattle.std.specs.Prelude.{sum_by, replicate, IfSome, IsNone}
use Rattle.std.proofs.lemmas.Bool.Decides.{nat_tests}
use Rattle.std.proofs.lemmas.List.Recursion.{is_count_by}
use Rattle.std.proofs.Math.ListN.{length-set}
use Rattle.std.proofs.lemmas.List.{length-replicate, get_or_default, get_or_past, take_all}
use Rattle.std.proofs.lemmas.List.Sums.{sum_by-cons, sum_by-set, get_or-le-sum_by}
use Rattle.vs_space.specs.declared.status.Status.{Status}
use Rattle.vs_space.specs.declared.status.Status.TheVariants.{Active, Pinned, Sending, Receiving, Sent, Garbage}
use Rattle.vs_space.specs.declared.status.StatusKind.{StatusKind}
use Rattle.vs_space.specs.Counts.{counted, number_of}
use Rattle.vs_space.specs.Entries.{Entries, RisesFrom, status_of, with_entry, without_entry, with_status, count_of, booted}
use Rattle.vs_space.specs.Status.{is_kind, kind_of}
use Rattle.vs_space.specs.Table.{entries_from, IsTable}
use Rattle.vs_space.specs.declared.counts.KindCounts.{KindCounts}

-- a bucket before the first has no entry
pub status_of_below : (places : List (Option Status)) (first id : ℕ) → id < first → status_of (entries_from first places) id ≡ None
status_of_below [] first id below = refl
status_of_below (None ∷ places) first id below = status_of_below places (first + 1) id (omega arith)
status_of_below (Some status ∷ places) first id below =
    let later : status_of (entries_from (first + 1) places) id ≡ None = status_of_below places (first + 1) id (omega arith) in
    grind (arith, nat_tests, later)

pub status_of-entries_from : (places : List (Option Status)) (first i : ℕ) → status_of (entries_from first places) (first + i) ≡ get_or places i None
status_of-entries_from [] first i = refl
status_of-entries_from (None ∷ places) first zero = status_of_below places (first + 1) (first + 0) (omega arith)
status_of-entries_from (None ∷ places) first (suc i) =
    let same : first + suc i ≡ first + 1 + i = omega arith in
    rw same (status_of-entries_from places (first + 1) i)
status_of-entries_from (Some status ∷ places) first zero = grind (arith, nat_tests)
status_of-entries_from (Some status ∷ places) first (suc i) =
    let same : first + suc i ≡ first + 1 + i = omega arith in
    let rest : status_of (entries_from (first + 1) places) (first + 1 + i) ≡ get_or places i None = status_of-entries_from places (first + 1) i in
    grind (arith, nat_tests, rest)

-- a bucket's status is what stands at its place
pub status_at : (places : List (Option Status)) (i id : ℕ) → i + 1 ≡ id → status_of (entries_from 1 places) id ≡ get_or places i None
status_at places i id at =
    let same : 1 + i ≡ id = omega arith in
    ap (λ id. status_of (entries_from 1 places) id) (sym same) ∙ status_of-entries_from places 1 i

pub read_place : (places : List (Option Status)) (i id : ℕ) (status : Option Status) → i + 1 ≡ id → i < length places → status ≡ get_or places i status → status ≡ status_of (entries_from 1 places) id
read_place places i id status at within is = is ∙ get_or_default places i status None within ∙ sym (status_at places i id at)

-- an entry before the first comes first
with_entry_below : (places : List (Option Status)) (first id : ℕ) (status : Status) → id < first → with_entry (entries_from first places) id status ≡ (id, status) ∷ entries_from first places
with_entry_below [] first id status below = refl
with_entry_below (None ∷ places) first id status below = with_entry_below places (first + 1) id status (omega arith)
with_entry_below (Some had ∷ places) first id status below = grind (arith, nat_tests)

without_entry_below : (places : List (Option Status)) (first id : ℕ) → id < first → without_entry (entries_from first places) id ≡ entries_from first places
without_entry_below [] first id below = refl
without_entry_below (None ∷ places) first id below = without_entry_below places (first + 1) id (omega arith)
without_entry_below (Some had ∷ places) first id below =
    let later : without_entry (entries_from (first + 1) places) id ≡ entries_from (first + 1) places = without_entry_below places (first + 1) id (omega arith) in
    grind (arith, nat_tests, later)

entries_from-set_some : (places : List (Option Status)) (first i : ℕ) (status : Status) → i < length places → entries_from first (set places i (Some status)) ≡ with_entry (entries_from first places) (first + i) status
entries_from-set_some [] first i status within = absurd (omega arith)
entries_from-set_some (None ∷ places) first zero status within =
    let same : first + 0 ≡ first = omega arith in
    rw same (sym (with_entry_below places (first + 1) first status (omega arith)))
entries_from-set_some (Some had ∷ places) first zero status within = grind (arith, nat_tests)
entries_from-set_some (None ∷ places) first (suc i) status within =
    let same : first + suc i ≡ first + 1 + i = omega arith in
    rw same (entries_from-set_some places (first + 1) i status (omega arith))
entries_from-set_some (Some had ∷ places) first (suc i) status within =
    let same : first + suc i ≡ first + 1 + i = omega arith in
    let rest : entries_from (first + 1) (set places i (Some status)) ≡ with_entry (entries_from (first + 1) places) (first + 1 + i) status = entries_from-set_some places (first + 1) i status (omega arith) in
    grind (arith, nat_tests, rest)

entries_from-set_none : (places : List (Option Status)) (first i : ℕ) → i < length places → entries_from first (set places i None) ≡ without_entry (entries_from first places) (first + i)
entries_from-set_none [] first i within = absurd (omega arith)
entries_from-set_none (None ∷ places) first zero within =
    let same : first + 0 ≡ first = omega arith in
    rw same (sym (without_entry_below places (first + 1) first (omega arith)))
entries_from-set_none (Some had ∷ places) first zero within =
    let rest : without_entry (entries_from (first + 1) places) (first + 0) ≡ entries_from (first + 1) places = without_entry_below places (first + 1) (first + 0) (omega arith) in
    grind (arith, nat_tests, rest)
entries_from-set_none (None ∷ places) first (suc i) within =
    let same : first + suc i ≡ first + 1 + i = omega arith in
    rw same (entries_from-set_none places (first + 1) i (omega arith))
entries_from-set_none (Some had ∷ places) first (suc i) within =
    let same : first + suc i ≡ first + 1 + i = omega arith in
    let rest : entries_from (first + 1) (set places i None) ≡ without_entry (entries_from (first + 1) places) (first + 1 + i) = entries_from-set_none places (first + 1) i (omega arith) in
    grind (arith, nat_tests, rest)

-- a place that is written changes the entry of its bucket
pub entries_from-set : (places : List (Option Status)) (first i id : ℕ) (status : Option Status) → i < length places → first + i ≡ id → entries_from first (set places i status) ≡ with_status (entries_from first places) id status
entries_from-set places first i id None within at = subst (λ id. entries_from first (set places i None) ≡ without_entry (entries_from first places) id) at (entries_from-set_none places first i within)
entries_from-set places first i id (Some status) within at = subst (λ id. entries_from first (set places i (Some status)) ≡ with_entry (entries_from first places) id status) at (entries_from-set_some places first i status within)

-- the statuses of a kind, counted from the front
module _ (kind : StatusKind) where
  unfoldable pub total : List (ℕ × Status) → ℕ
  total [] = 0
  total (e ∷ es) = cond (is_kind kind e.1) (1 + total es) (total es)

  pub total_is : (es : List (ℕ × Status)) → total es ≡ count_of kind es
  unfolding total
  total_is es = is_count_by total (λ e. is_kind kind e.1) refl (λ e es. refl) es

  total-entries_from : (places : List (Option Status)) (first : ℕ) → total (entries_from first places) ≡ sum_by (counted kind) places
  unfolding total
  total-entries_from [] first = refl
  total-entries_from (None ∷ places) first = rw (sum_by-cons, zero-add) (total-entries_from places (first + 1))
  total-entries_from (Some status ∷ places) first =
      let rest : total (entries_from (first + 1) places) ≡ sum_by (counted kind) places = total-entries_from places (first + 1) in
      rw sum_by-cons (grind (arith, nat_tests, rest))

  pub count_of-entries_from : (places : List (Option Status)) (first : ℕ) → count_of kind (entries_from first places) ≡ sum_by (counted kind) places
  count_of-entries_from places first = sym (total_is (entries_from first places)) ∙ total-entries_from places first

  pub counted_within : (places : List (Option Status)) → sum_by (counted kind) places ≤ length places
  counted_within [] = omega arith
  counted_within (None ∷ places) = rw sum_by-cons (omega (arith, counted_within places))
  counted_within (Some status ∷ places) = rw sum_by-cons (grind (arith, nat_tests, counted_within places))

-- where there are no places, none has a status
pub counted_nothing : (kind : StatusKind) (places : List (Option Status)) → length places ≡ 0 → sum_by (counted kind) places ≡ 0
counted_nothing kind places empty = omega (arith, counted_within kind places)

-- each status counts as one of its own kind
counted_itself : (status : Status) → counted (kind_of status) (Some status) ≡ 1
counted_itself Active = refl
counted_itself Pinned = refl
counted_itself (Sending to) = refl
counted_itself (Receiving from) = refl
counted_itself (Sent to) = refl
counted_itself Garbage = refl

-- the entries rise as their places do
rises_lower : (es : List (ℕ × Status)) (low high : ℕ) → low ≤ high → RisesFrom high es → RisesFrom low es
rises_lower [] low high below rises = tt
rises_lower (e ∷ es) low high below rises = (omega (arith, rises.0), rises.1, rises.2)

rises_from : (places : List (Option Status)) (first : ℕ) → first + length places ≤ 30001 → RisesFrom first (entries_from first places)
rises_from [] first within = tt
rises_from (None ∷ places) first within = rises_lower (entries_from (first + 1) places) first (first + 1) (omega arith) (rises_from places (first + 1) (omega arith))
rises_from (Some status ∷ places) first within = (omega arith, omega arith, rises_from places (first + 1) (omega arith))

-- tables in parts
entries_from-append : (xs ys : List (Option Status)) (first : ℕ) → entries_from first (xs ++ ys) ≡ entries_from first xs ++ entries_from (first + length xs) ys
entries_from-append [] ys first = let same : first + 0 ≡ first = omega arith in rw same refl
entries_from-append (None ∷ xs) ys first =
    let same : first + suc (length xs) ≡ first + 1 + length xs = omega arith in
    rw same (entries_from-append xs ys (first + 1))
entries_from-append (Some status ∷ xs) ys first =
    let same : first + suc (length xs) ≡ first + 1 + length xs = omega arith in
    rw same (ap (λ es. (first, status) ∷ es) (entries_from-append xs ys (first + 1)))

entries_from-nothing : (n first : ℕ) → entries_from first (replicate n None) ≡ []
entries_from-nothing zero first = refl
entries_from-nothing (suc n) first = entries_from-nothing n (first + 1)

entries_from-active : (n first : ℕ) → entries_from first (replicate n (Some Active)) ≡ booted first n
entries_from-active zero first = refl
entries_from-active (suc n) first = ap (λ es. (first, Active) ∷ es) (entries_from-active n (first + 1))

-- a table of three runs of places has the entries of the run in the middle
entries_from-runs : (before count after : ℕ) → entries_from 1 (replicate {A = Option Status} before None ++ replicate count (Some Active) ++ replicate after None) ≡ booted (before + 1) count
entries_from-runs before count after =
    let start : 1 + length (replicate {A = Option Status} before None) ≡ before + 1 = rw length-replicate (omega arith) in
    let middle : entries_from 1 (replicate {A = Option Status} before None ++ replicate count (Some Active)) ≡ booted (before + 1) count = rw (entries_from-append, entries_from-nothing, start) (entries_from-active count (before + 1)) in
    rw (entries_from-append, middle, entries_from-nothing) (append-nil (booted (before + 1) count))

-- a table that grew to a new length
pub record Grows (old new : List (Option Status)) (len n : ℕ) (status : Option Status) : Type 0 where
  pub had : length old ≡ len
  pub items : new ≡ take n old ++ replicate (n - len) status

grown : (old new : List (Option Status)) (len n : ℕ) (status : Option Status) → len ≤ n → Grows old new len n status → new ≡ old ++ replicate (n - len) status
grown old new len n status more grows =
    let all : length old ≤ n = omega (arith, grows.had) in
    grows.items ∙ rw (take_all n old all) refl

pub entries_from-grown : (a b c d : List (Option Status)) (before count total : ℕ) → before + count ≤ total → a ≡ [] → Grows a b 0 before None → Grows b c before (before + count) (Some Active) → Grows c d (before + count) total None → entries_from 1 d ≡ booted (before + 1) count
entries_from-grown a b c d before count total within empty first second third =
    let one : b ≡ replicate {A = Option Status} before None = rw (grown a b 0 before None (omega arith) first, empty) (ap (λ n. replicate {A = Option Status} n None) (omega arith)) in
    let active : before + count - before ≡ count = omega arith in
    let two : c ≡ replicate {A = Option Status} before None ++ replicate count (Some Active) = grown b c before (before + count) (Some Active) (omega arith) second ∙ rw (active, one) refl in
    let three : d ≡ replicate {A = Option Status} before None ++ replicate count (Some Active) ++ replicate (total - (before + count)) None = grown c d (before + count) total None within third ∙ rw two refl in
    rw three (entries_from-runs before count (total - (before + count)))

-- what the table in memory keeps
module _ (places : List (Option Status)) (counts : KindCounts) (table : IsTable places counts) where
  -- a status that is in the table is counted
  pub present : (i id : ℕ) (old : Option Status) → i + 1 ≡ id → old ≡ status_of (entries_from 1 places) id → IfSome old (λ status. 1 ≤ number_of counts (kind_of status))
  present i id None at is = tt
  present i id (Some status) at is =
      let read : get_or places i None ≡ Some status = sym (status_at places i id at) ∙ sym is in
      let within : i < length places = grind (arith, get_or_past, read) in
      let least : counted (kind_of status) (get_or places i None) ≤ sum_by (counted (kind_of status)) places = get_or-le-sum_by (counted (kind_of status)) places i None within in
      let one : counted (kind_of status) (Some status) ≡ 1 = counted_itself status in
      let more : 1 ≤ sum_by (counted (kind_of status)) places = omega (arith, rw (read, one) at least) in
      omega (arith, table.numbers (kind_of status), more)

  -- the numbers are far from their end
  pub numbers_fit : (kind : StatusKind) → number_of counts kind + 1 < 4294967296
  numbers_fit kind = grind (arith, table.numbers kind, counted_within kind places, table.whole)

  -- a place is written, and the numbers with it
  pub table_set : (i : ℕ) (old new : Option Status) (later : KindCounts) → i < length places → old ≡ get_or places i None → ((kind : StatusKind) → number_of later kind + counted kind old ≡ number_of counts kind + counted kind new) → IsTable (set places i new) later
  table_set i old new later within is numbers =
      record {
        whole = rw length-set table.whole;
        numbers = λ kind.
            let changed : sum_by (counted kind) (set places i new) + counted kind (get_or places i None) ≡ sum_by (counted kind) places + counted kind new = sum_by-set (counted kind) places i new None within in
            omega (arith, numbers kind, table.numbers kind, rw (sym is) at changed);
      }

  -- a bucket that has an entry, or for which there is room, has a place
  pub has_place : (i id : ℕ) (old : Option Status) → i + 1 ≡ id → i < 30000 → old ≡ status_of (entries_from 1 places) id → (IsNone old → 1 ≤ length places) → i < length places
  has_place i id None at within is room = omega (arith, table.whole (room refl))
  has_place i id (Some status) at within is room =
      let read : get_or places i None ≡ Some status = sym (status_at places i id at) ∙ sym is in
      grind (arith, get_or_past, read)

  -- the same, as it is known of the value that callers see
  pub has_place_in : (value : Entries) (i id : ℕ) (old : Option Status) → record { entries = entries_from 1 places; room = length places } ≡ value → i + 1 ≡ id → i < 30000 → old ≡ status_of value.entries id → (IsNone (status_of value.entries id) → 1 ≤ value.room) → i < length places
  has_place_in value i id old view at within is room =
      let seen : old ≡ status_of (entries_from 1 places) id = is ∙ ap (λ (v : Entries). status_of v.entries id) (sym view) in
      has_place i id old at within seen (λ none. subst (λ (v : Entries). 1 ≤ v.room) (sym view) (room (subst IsNone is none)))

  pub rises : (value : Entries) → record { entries = entries_from 1 places; room = length places } ≡ value → RisesFrom 1 value.entries
  rises value view = subst (λ (v : Entries). RisesFrom 1 v.entries) view (rises_from places 1 (grind (arith, table.whole)))
