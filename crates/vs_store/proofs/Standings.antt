-- What a file stands for, by its journal.
use Rattle.std.proofs.Common.{◌≡◌, ◌⊎◌, inl, inr, ℕ, ◌+◌, ◌==◌, Bool, true, false, List, [], length, Option, Some, None, Result, Ok, Err, if◌then◌else◌, refl, sym, ap, subst, ◌∙◌, arith, length-append}
use Rattle.std.specs.Prelude.{IsOkAnd}
use Rattle.std.specs.Int.{w64}
use Rattle.std.specs.Str.{bytes_eq}
use Rattle.std.proofs.lemmas.Bool.Decides.{Decides-eqb}
use Rattle.std.proofs.lemmas.Slice.Eq.{bytes_eq-Decides}
use Rattle.vs_frame.specs.Journal.{Journal, IsJournal, IsOldOrNew, IsInFirst, IsInSecond, migrated}
use Rattle.vs_frame.specs.Reading.{journal_of}
use Rattle.vs_frame.specs.declared.head.Head.{Head}
use Rattle.vs_frame.proofs.JournalOf.{journal_found, journal_told}
use Rattle.vs_record.specs.Body.{IsRecordable, body_of, number_text}
use Rattle.vs_record.specs.Change.{Change}
use Rattle.vs_record.specs.Durable.{Durable, FitsState, booted, applied}
use Rattle.vs_record.proofs.Changes.{change_again}
use Rattle.vs_record.proofs.Fitting.{fits_decides}
use Rattle.vs_store.specs.declared.fault.StoreFault.{StoreFault}
use Rattle.vs_store.specs.declared.fault.StoreFault.TheVariants.{NotAJournal, OtherSet, OtherCount}
use Rattle.vs_store.specs.Files.{StandsFor}
use Rattle.vs_store.specs.Standing.{◌>>=◌, with_number, change_with, stepped, end_of, folded_in, Standing, standing, standing_by, state_of, of_set, opened_by, opened, fresh, next_number, after, in_version_2, entry_len}
use Rattle.vs_store.proofs.Folding.{folded_second, folded_alone, folded_begun}

-- ---- a file and its parts

pub record Parts (file : List ℕ) (s : Standing) : Type 0 where
  pub journal : journal_of file ≡ Ok s.journal
  pub made : folded_in s.journal ≡ Ok s.state

pub parts : (file : List ℕ) (s : Standing) → state_of file ≡ Ok s → Parts file s
parts file s is = by (journal_of file) refl is
  where
    of : (j : Journal) (r : Result Durable ℕ) → folded_in j ≡ r → journal_of file ≡ Ok j → standing j r ≡ Ok s → Parts file s
    of j (Err p) folds found e = absurd cc
    of j (Ok d) folds found e =
        let same : record { journal = j; state = d } ≡ s = cc in
        subst (Parts file) same (record { journal = found; made = folds })

    by : (r : Result Journal ℕ) → journal_of file ≡ r → standing_by file r ≡ Ok s → Parts file s
    by (Err p) found e = absurd cc
    by (Ok j) found e = of j (folded_in j) refl found e

pub is_journal : (file : List ℕ) (s : Standing) → state_of file ≡ Ok s → IsJournal file s.journal
is_journal file s is = journal_told file s.journal (parts file s is).journal

-- a journal whose bodies make a state stands for that
pub stands : (file : List ℕ) (j : Journal) (d : Durable) → IsJournal file j → folded_in j ≡ Ok d → state_of file ≡ Ok (record { journal = j; state = d })
stands file j d is folds = ap (standing_by file) (journal_found file j is) ∙ ap (standing j) folds

-- one that was found is the one that stands there
pub same_journal : (file : List ℕ) (s : Standing) (j : Journal) → state_of file ≡ Ok s → IsJournal file j → s.journal ≡ j
same_journal file s j is found =
    let both : ◌≡◌ {A = Result Journal ℕ} (Ok s.journal) (Ok j) = sym (parts file s is).journal ∙ journal_found file j found in
    cc

-- ---- one change more

pub its_change : (n : ℕ) (c : Change) → IsRecordable (Some n) c → change_with (Some n) (body_of (Some n) c) ≡ Some c
its_change n c is = ap (with_number n) (change_again 2 (Some n) c refl is) ∙ ap (λ (t : Bool). if t then Some c else None) ((Decides-eqb n n).1 refl)

pub stepped_on : (n : ℕ) (d : Durable) (gate : ℕ) (r : Option Change) (c : Change) → r ≡ Some c → FitsState n d c → stepped n d gate r ≡ Ok (applied d c)
stepped_on n d gate r c is fit = ap (stepped n d gate) is ∙ ap (λ (t : Bool). if t then Ok (applied d c) else Err gate) ((fits_decides n d c).1 fit)

pub after_made : (was : Standing) (c : Change) → folded_in was.journal ≡ Ok was.state → IsRecordable (Some (next_number was.journal)) c → FitsState was.journal.head.bucket_count was.state c → folded_in (after was c).journal ≡ Ok (applied was.state c)
after_made was c made recordable fit =
    let j = was.journal in
    let body = body_of (Some (next_number j)) c in
    let gate = end_of (end_of 36 j.first + 1) j.second in
    folded_second j body (j.gate + (5 + length body)) ∙ ap (λ (r : Result Durable ℕ). r >>= λ d. stepped j.head.bucket_count d gate (change_with (Some (length j.second + 1)) body)) made
    ∙ stepped_on j.head.bucket_count was.state gate (change_with (Some (length j.second + 1)) body) c (its_change (next_number j) c recordable) fit

pub old_or_after : (was : Standing) (c : Change) → folded_in was.journal ≡ Ok was.state → IsRecordable (Some (next_number was.journal)) c → FitsState was.journal.head.bucket_count was.state c
    → (file : List ℕ) → IsOldOrNew was.journal (body_of (Some (next_number was.journal)) c) file → (state_of file ≡ Ok was) ⊎ (state_of file ≡ Ok (after was c))
old_or_after was c made recordable fit file (inl old) = inl (stands file was.journal was.state old made)
old_or_after was c made recordable fit file (inr new) = inr (stands file (after was c).journal (applied was.state c) new (after_made was c made recordable fit))

number_size : (n : ℕ) → length (number_text w64 n) ≡ 8
unfolding number_text
number_size n = refl

-- the entry of a change takes as many bytes whatever its number
pub entry_is : (n : ℕ) (c : Change) → 5 + length (body_of (Some n) c) ≡ entry_len c
unfolding entry_len
entry_is n c = omega (arith, length-append {A = ℕ}, number_size n, number_size 0)

-- ---- opening

pub opened_is : (head : Head) (file : List ℕ) (s : Standing) → state_of file ≡ Ok s → of_set head s.journal.head ≡ Ok tt → opened head file ≡ Ok s
opened_is head file s is own = ap (opened_by head) is ∙ ap (λ (r : Result (Unit {0}) StoreFault). r >>= λ u. Ok s) own

pub record Opens (head : Head) (file : List ℕ) (s : Standing) : Type 0 where
  pub stands : state_of file ≡ Ok s
  pub own : of_set head s.journal.head ≡ Ok tt

pub opens : (head : Head) (file : List ℕ) (s : Standing) → opened head file ≡ Ok s → Opens head file s
opens head file s is = by (state_of file) refl is
  where
    own : (t : Standing) (r : Result (Unit {0}) StoreFault) → of_set head t.journal.head ≡ r → state_of file ≡ Ok t → (r >>= λ u. Ok t) ≡ Ok s → Opens head file s
    own t (Err e) of found h = absurd cc
    own t (Ok u) of found h = let same : t ≡ s = cc in subst (Opens head file) same (record { stands = found; own = of })

    by : (r : Result Standing ℕ) → state_of file ≡ r → opened_by head r ≡ Ok s → Opens head file s
    by (Err p) found h = absurd cc
    by (Ok t) found h = own t (of_set head t.journal.head) refl found h

pub stands_for : (head : Head) (d : Durable) (file : List ℕ) (s : Standing) → state_of file ≡ Ok s → of_set head s.journal.head ≡ Ok tt → s.state ≡ d → StandsFor head d file
stands_for head d file s is own state = subst (λ (r : Result Standing StoreFault). IsOkAnd r (λ t. t.state ≡ d)) (sym (opened_is head file s is own)) state

-- what an opened file is
pub ok_and : (P : Standing → Type 0) (r : Result Standing StoreFault) → IsOkAnd r P → (s : Standing) × (r ≡ Ok s) × P s
ok_and P (Ok s) p = (s, refl, p)
ok_and P (Err e) p = absurd p

pub is_ok_and : (P : Standing → Type 0) (r : Result Standing StoreFault) (s : Standing) → r ≡ Ok s → P s → IsOkAnd r P
is_ok_and P r s is p = subst (λ (x : Result Standing StoreFault). IsOkAnd x P) (sym is) p

pub own_head : (head : Head) → of_set head head ≡ Ok tt
own_head head =
    let uuid : bytes_eq head.uuid head.uuid ≡ true = (bytes_eq-Decides head.uuid head.uuid).1 refl in
    let count : (head.bucket_count == head.bucket_count) ≡ true = (Decides-eqb head.bucket_count head.bucket_count).1 refl in
    rw (uuid, count) refl

abbrev fine : Result (Unit {0}) StoreFault
fine = Ok tt

-- an opened file is of as many buckets
pub count_is : (head found : Head) → of_set head found ≡ fine → found.bucket_count ≡ head.bucket_count
count_is head found is = by (bytes_eq found.uuid head.uuid) (found.bucket_count == head.bucket_count) refl is
  where
    by : (t u : Bool) → (found.bucket_count == head.bucket_count) ≡ u → (if t then (if u then fine else Err (OtherCount found.bucket_count)) else Err (OtherSet found.uuid)) ≡ fine → found.bucket_count ≡ head.bucket_count
    by true true same e = (Decides-eqb found.bucket_count head.bucket_count).0 same
    by true false same e = absurd cc
    by false u same e = absurd cc

pub fresh_is : (head : Head) (file : List ℕ) → IsJournal file (fresh head).journal → state_of file ≡ Ok (fresh head)
fresh_is head file is = stands file (fresh head).journal (booted head.boot_first head.boot_count) is (folded_begun head 2 37)

-- ---- a migration

-- one of version 1 has no second part
pub no_second : (file : List ℕ) (j : Journal) → IsJournal file j → j.version ≡ 1 → j.second ≡ []
no_second file j is version = by is.along.so_far
  where
    by : IsInFirst file j j.version ⊎ IsInSecond file j j.version → j.second ≡ []
    by (inl first) = first.none
    by (inr second) = absurd (omega (arith, second.version, version))

pub in_2_is : (s : Standing) → s.journal.version ≡ 1 → in_version_2 s ≡ record { journal = migrated s.journal; state = s.state }
in_2_is s version = rw version refl

pub in_2_same : (s : Standing) → s.journal.version ≡ 2 → in_version_2 s ≡ s
in_2_same s version = rw version refl

pub migrated_stands : (before file : List ℕ) (s : Standing) → state_of before ≡ Ok s → s.journal.version ≡ 1 → IsJournal file (migrated s.journal) → state_of file ≡ Ok (in_version_2 s)
migrated_stands before file s is version found =
    let j = s.journal in
    let none = no_second before j (is_journal before s is) version in
    let made = folded_alone (migrated j) refl ∙ sym (folded_alone j none) ∙ (parts before s is).made in
    stands file (migrated j) s.state found made ∙ ap (λ (t : Standing). Ok t) (sym (in_2_is s version))

-- ---- the head that was found

-- it isn't the set's
pub other_set : (head found : Head) (P : Standing → Type 0) (r : Result Standing ℕ) (e : StoreFault) → IsOkAnd r (λ s. P s × (s.journal.head ≡ found)) → of_set head found ≡ Err e → opened_by head r ≡ Err e
other_set head found P (Ok s) e is of = ap (λ (h : Head). of_set head h >>= λ u. Ok s) is.1 ∙ ap (λ (r : Result (Unit {0}) StoreFault). r >>= λ u. Ok s) of
other_set head found P (Err p) e is of = absurd is

-- it is the set's
pub this_set : (head found : Head) (P : Standing → Type 0) (r : Result Standing ℕ) → IsOkAnd r (λ s. P s × (s.journal.head ≡ found)) → of_set head found ≡ Ok tt → IsOkAnd (opened_by head r) P
this_set head found P (Ok s) is of =
    let opens : opened_by head (Ok s) ≡ Ok s = ap (λ (h : Head). of_set head h >>= λ u. Ok s) is.1 ∙ ap (λ (r : Result (Unit {0}) StoreFault). r >>= λ u. Ok s) of in
    subst (λ (x : Result Standing StoreFault). IsOkAnd x P) (sym opens) is.0
this_set head found P (Err p) is of = absurd is

pub no_journal : (head : Head) (r : Result Standing ℕ) (place : ℕ) → r ≡ Err place → opened_by head r ≡ Err (NotAJournal place)
no_journal head r place is = ap (opened_by head) is
