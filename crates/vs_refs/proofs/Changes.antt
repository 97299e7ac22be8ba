-- What an edit of the entries leaves of each bucket's counts.
use Rattle.std.proofs.Common.{◌≡◌, ◌≢◌, ℕ, ◌+◌, ◌<◌, Bool, true, false, List, Some, None, Option, MatchOption, if◌then◌else◌, ◌==◌, unwrap_or, refl, sym, ap, ◌∙◌, eqb-true, arith}
use Rattle.std.specs.Ordering.{nat_cmp, is_eq}
use Rattle.std.proofs.lemmas.Bool.Decides.{nat_tests}
use Rattle.vs_base.specs.declared.numbers.Mode.{Mode}
use Rattle.vs_base.specs.declared.numbers.Mode.TheVariants.{Ro, Rw}
use Rattle.vs_table.specs.Entries.{value_of, Updates}
use Rattle.vs_refs.specs.declared.counts.Counts.{Counts}
use Rattle.vs_refs.specs.Counts.{no_counts, count_of}
use Rattle.vs_refs.specs.Refs.{counts_of, LeavesCounts}

-- the comparison of two numbers as a test
same_test : (x y : ℕ) → is_eq (nat_cmp x y) ≡ (x == y)
same_test x y = grind (arith, nat_tests)

split : (t : Bool) (value rest : Option Counts) → unwrap_or (if t then value else rest) no_counts ≡ (if t then unwrap_or value no_counts else unwrap_or rest no_counts)
split true value rest = refl
split false value rest = refl

-- the counts of a bucket, by what its entry becomes
counts_at : (id b : ℕ) (value : Option Counts) (old new : List (ℕ × Counts)) → Updates nat_cmp old new id value →
    counts_of new b ≡ (if id == b then unwrap_or value no_counts else counts_of old b)
counts_at id b value old new updates =
    ap (λ v. unwrap_or v no_counts) (updates b) ∙ ap (λ t. unwrap_or (if t then value else value_of nat_cmp old b) no_counts) (same_test id b) ∙ split (id == b) value (value_of nat_cmp old b)

-- only the choice that is taken matters
chosen : (t : Bool) (x y z : Counts) → (t ≡ true → x ≡ y) → (if t then x else z) ≡ (if t then y else z)
chosen true x y z same = same refl
chosen false x y z same = refl

-- a changed entry changes its bucket alone
pub changed : (change : Counts → Counts) (old new : List (ℕ × Counts)) (id : ℕ) → Updates nat_cmp old new id (Some (change (counts_of old id))) →
    (b : ℕ) → counts_of new b ≡ (if id == b then change (counts_of old b) else counts_of old b)
changed change old new id updates b =
    counts_at id b (Some (change (counts_of old id))) old new updates ∙ chosen (id == b) (change (counts_of old id)) (change (counts_of old b)) (counts_of old b) (λ same. ap (λ q. change (counts_of old q)) (eqb-true id b same))

pub dropped : (old new : List (ℕ × Counts)) (id : ℕ) → Updates nat_cmp old new id None → (b : ℕ) → counts_of new b ≡ (if id == b then no_counts else counts_of old b)
dropped old new id updates b = counts_at id b None old new updates

-- a bucket with a reference has an entry
pub has_entry : (entries : List (ℕ × Counts)) (id : ℕ) (mode : Mode) → 0 < count_of (counts_of entries id) mode → value_of nat_cmp entries id ≢ None
has_entry entries id mode above none =
    let e : count_of (counts_of entries id) mode ≡ count_of no_counts mode = ap (λ v. count_of (unwrap_or v no_counts) mode) none in
    omega (arith, no_count mode)
  where
    no_count : (mode : Mode) → count_of no_counts mode ≡ 0
    no_count Ro = refl
    no_count Rw = refl

-- an insert over an entry leaves the room as it was
pub room_kept : (old : Option Counts) (now before : ℕ) → old ≢ None → MatchOption old (now + 1 ≡ before) (λ _. now ≡ before) → now ≡ before
room_kept None now before some room = absurd (some refl)
room_kept (Some c) now before some room = room

-- new counts change their bucket alone
pub left : (id : ℕ) (counts : Counts) (old new : List (ℕ × Counts)) → Updates nat_cmp old new id (Some counts) → LeavesCounts id counts old new
left id counts old new updates b = counts_at id b (Some counts) old new updates

pub none_left : (id : ℕ) (counts : Counts) (old new : List (ℕ × Counts)) → counts ≡ no_counts → ((b : ℕ) → counts_of new b ≡ (if id == b then no_counts else counts_of old b)) → LeavesCounts id counts old new
none_left id counts old new none dropped b = dropped b ∙ ap (λ c. if id == b then c else counts_of old b) (sym none)

-- counts by a change of those that were there change their bucket by it
pub by_change : (change : Counts → Counts) (id : ℕ) (counts : Counts) (old new : List (ℕ × Counts)) → counts ≡ change (counts_of old id) → LeavesCounts id counts old new →
    (b : ℕ) → counts_of new b ≡ (if id == b then change (counts_of old b) else counts_of old b)
by_change change id counts old new is leaves b =
    leaves b ∙ chosen (id == b) counts (change (counts_of old b)) (counts_of old b) (λ same. is ∙ ap (λ q. change (counts_of old q)) (eqb-true id b same))
