-- Statuses and causes are read from their words, and the lines of sets and buckets.
use Rattle.std.proofs.Common.{◌≡◌, ℕ, zero, suc, ◌+◌, ◌<◌, ◌≤◌, ◌^◌, ◌-◌, Bool, true, false, List, [], ◌∷◌, ◌++◌, Option, Some, None, Ok, refl, ap, arith, lit<, subst}
use Rattle.std.specs.Prelude.{◌&&◌, codes, nat_le, if◌then◌else◌}
use Rattle.std.specs.Fmt.{decimal}
use Rattle.std.specs.Str.Parse.{digits_value}
use Rattle.std.proofs.lemmas.Bool.{false_from_ne_true, leb-true}
use Rattle.std.proofs.lemmas.Fmt.{decimal_is_IsNumeral, decimal_digit}
use Rattle.vs_space.specs.declared.status.Status.{Status}
use Rattle.vs_space.specs.declared.status.Status.TheVariants.{Active, Pinned, Sending, Receiving, Sent, Garbage}
use Rattle.vs_space.specs.declared.status.Cause.{Cause}
use Rattle.vs_space.specs.declared.status.Cause.TheVariants as cause
use Rattle.vs_space.specs.declared.reply.RecvFault.{RecvFault}
use Rattle.vs_space.specs.declared.reply.RecvFault.TheVariants as receiver
use Rattle.vs_audit.specs.Reading.{many_at}
use Rattle.vs_audit.specs.Outcomes.{status_at, set_at, cause_tail, abort_tail, named_at}
use Rattle.vs_audit.specs.ReportLines.{set_line, bucket_line, entry_at}
use Rattle.vs_audit.specs.Words.{Words, past_number, is_number}
use Rattle.vs_audit.proofs.Numbers.{number_past}
use Rattle.vs_legal.proofs.Words.Spelled.{is_word, are_words}
use Rattle.vs_legal.proofs.Words.Statuses.{status_words, cause_words, receiver_words, IsSetOf, NamesSet, NamesSetIn, CauseNamesSet, ReceiverNamesSet, set_words, placed_words, placement_words}
use Rattle.vs_legal.proofs.Spelled.{decimal_word, are_append}
use Rattle.vs_legal.proofs.ReadOps.{number_reads}
use Rattle.vs_legal.proofs.ReadLines.{from}

pub set_reads : (sets x : ℕ) (rest : Words) → sets < 2 ^ 64 → IsSetOf sets x → set_at sets (decimal x ∷ rest) ≡ Ok rest
set_reads sets x rest fits is = rw (number_reads 1 sets x rest fits is.0 is.1) refl

pub status_reads : (sets : ℕ) (status : Status) (rest : Words) → sets < 2 ^ 64 → NamesSet sets status → status_at sets (status_words status ++ rest) ≡ Ok rest
status_reads sets Active rest fits is = refl
status_reads sets Pinned rest fits is = refl
status_reads sets (Sending d) rest fits is = set_reads sets d rest fits is
status_reads sets (Receiving x) rest fits is = set_reads sets x rest fits is
status_reads sets (Sent d) rest fits is = set_reads sets d rest fits is
status_reads sets Garbage rest fits is = refl

pub cause_reads : (sets : ℕ) (c : Cause) → sets < 2 ^ 64 → CauseNamesSet sets c → named_at cause_tail sets (cause_words c) ≡ Ok []
cause_reads sets (cause.WrongBucket None) fits is = refl
cause_reads sets (cause.WrongBucket (Some d)) fits is = set_reads sets d [] fits is
cause_reads sets (cause.TransferInProgress d) fits is = set_reads sets d [] fits is
cause_reads sets cause.BucketIsLocked fits is = refl
cause_reads sets cause.Down fits is = refl

append_nil : (xs : Words) → xs ++ [] ≡ xs
append_nil [] = refl
append_nil (x ∷ xs) = ap (λ (r : Words). x ∷ r) (append_nil xs)

pub status_ends : (sets : ℕ) (status : Status) → sets < 2 ^ 64 → NamesSet sets status → status_at sets (status_words status) ≡ Ok []
status_ends sets status fits is = rw append_nil at (status_reads sets status [] fits is)

pub receiver_reads : (sets : ℕ) (f : RecvFault) → sets < 2 ^ 64 → ReceiverNamesSet sets f → named_at abort_tail sets (receiver_words f) ≡ Ok []
receiver_reads sets receiver.SetLocked fits is = refl
receiver_reads sets (receiver.TooManyReceiving n) fits is = rw (number_reads 0 (2 ^ 32 - 1) n [] (lit< tt) (omega arith) (omega arith)) refl
receiver_reads sets (receiver.WrongSender x) fits is = set_reads sets x [] fits is
receiver_reads sets (receiver.WrongBucket None) fits is =
    subst (λ (w : List ℕ). named_at abort_tail sets (codes "wrong" ∷ w ∷ []) ≡ Ok []) (decimal_digit 0 (lit< tt)) (rw (number_reads 0 1 0 [] (lit< tt) (omega arith) (omega arith)) refl)
receiver_reads sets (receiver.WrongBucket (Some status)) fits is =
    subst (λ (w : List ℕ). named_at abort_tail sets (codes "wrong" ∷ w ∷ status_words status) ≡ Ok []) (decimal_digit 1 (lit< tt)) (rw (number_reads 0 1 1 (status_words status) (lit< tt) (omega arith) (omega arith)) (status_ends sets status fits is))

-- ---- words

pub status_is_words : (sets : ℕ) (status : Status) → sets < 2 ^ 64 → NamesSet sets status → are_words (status_words status) ≡ true
status_is_words sets Active fits is = refl
status_is_words sets Pinned fits is = refl
status_is_words sets (Sending d) fits is = rw (decimal_word d (omega (arith, is.1))) refl
status_is_words sets (Receiving x) fits is = rw (decimal_word x (omega (arith, is.1))) refl
status_is_words sets (Sent d) fits is = rw (decimal_word d (omega (arith, is.1))) refl
status_is_words sets Garbage fits is = refl

pub cause_is_words : (sets : ℕ) (c : Cause) → sets < 2 ^ 64 → CauseNamesSet sets c → are_words (cause_words c) ≡ true
cause_is_words sets (cause.WrongBucket None) fits is = refl
cause_is_words sets (cause.WrongBucket (Some d)) fits is = rw (decimal_word d (omega (arith, is.1))) refl
cause_is_words sets (cause.TransferInProgress d) fits is = rw (decimal_word d (omega (arith, is.1))) refl
cause_is_words sets cause.BucketIsLocked fits is = refl
cause_is_words sets cause.Down fits is = refl

pub receiver_is_words : (sets : ℕ) (f : RecvFault) → sets < 2 ^ 64 → ReceiverNamesSet sets f → are_words (receiver_words f) ≡ true
receiver_is_words sets receiver.SetLocked fits is = refl
receiver_is_words sets (receiver.TooManyReceiving n) fits is = rw (decimal_word n (omega arith)) refl
receiver_is_words sets (receiver.WrongSender x) fits is = rw (decimal_word x (omega (arith, is.1))) refl
receiver_is_words sets (receiver.WrongBucket None) fits is = refl
receiver_is_words sets (receiver.WrongBucket (Some status)) fits is = status_is_words sets status fits is

-- ---- the line of a set

abbrev pub AreCounts : (ℕ → ℕ → ℕ) → ℕ → Type 0
AreCounts count x = (k : ℕ) → count x k < 2 ^ 32

pub set_line_reads : (up : ℕ → Bool) (count : ℕ → ℕ → ℕ) (x : ℕ) → x < 2 ^ 64 → AreCounts count x → set_line x (codes "set" ∷ set_words up count x) ≡ Ok tt
unfolding many_at
set_line_reads up count x fits small =
    let n : (k : ℕ) → (rest : Words) → _ = λ (k : ℕ) (rest : Words). number_reads 0 (2 ^ 32 - 1) (count x k) rest (lit< tt) (omega arith) (omega (arith, small k)) in
    let c : ℕ → List ℕ = λ (k : ℕ). decimal (count x k) in
    let state : (b : Bool) → up x ≡ b → set_line x (codes "set" ∷ set_words up count x) ≡ Ok tt =
    λ b is. elim b as (λ b. up x ≡ b → set_line x (codes "set" ∷ set_words up count x) ≡ Ok tt) [
      | true ↦ (λ is. rw (
        is,
        number_reads x x x (codes "up" ∷ c 0 ∷ c 1 ∷ c 2 ∷ c 3 ∷ c 4 ∷ c 5 ∷ []) fits (omega arith) (omega arith),
        n 0 (c 1 ∷ c 2 ∷ c 3 ∷ c 4 ∷ c 5 ∷ []),
        n 1 (c 2 ∷ c 3 ∷ c 4 ∷ c 5 ∷ []),
        n 2 (c 3 ∷ c 4 ∷ c 5 ∷ []),
        n 3 (c 4 ∷ c 5 ∷ []),
        n 4 (c 5 ∷ []),
        n 5 [],
      ) refl)
      | false ↦ (λ is. rw (
        is,
        number_reads x x x (codes "down" ∷ c 0 ∷ c 1 ∷ c 2 ∷ c 3 ∷ c 4 ∷ c 5 ∷ []) fits (omega arith) (omega arith),
        n 0 (c 1 ∷ c 2 ∷ c 3 ∷ c 4 ∷ c 5 ∷ []),
        n 1 (c 2 ∷ c 3 ∷ c 4 ∷ c 5 ∷ []),
        n 2 (c 3 ∷ c 4 ∷ c 5 ∷ []),
        n 3 (c 4 ∷ c 5 ∷ []),
        n 4 (c 5 ∷ []),
        n 5 [],
      ) refl)
    ] is in
    state (up x) refl

-- ---- the line of a bucket

and_false : (a : Bool) → (a && false) ≡ false
and_false true = refl
and_false false = refl

other_number : (s k : ℕ) → s < k → k < 2 ^ 64 → is_number s s (decimal k) ≡ false
other_number s k above fits =
    let value : digits_value 10 (decimal k) ≡ k = (decimal_is_IsNumeral k fits).1 in
    let high : nat_le k s ≡ false = false_from_ne_true (nat_le k s) (λ t. let low : k ≤ s = leb-true k s t in omega arith) in
    rw (value, high) (and_false _)

skips : (entry : ℕ → Option Status) (s : ℕ) (m k : ℕ) → s < k → k + m < 2 ^ 64 → past_number s (placement_words entry (from k m)) ≡ None
skips entry s zero k above fits = refl
skips entry s (suc m) k above fits = by_entry (skips entry s m (k + 1) (omega arith) (omega arith)) (entry k) refl
  where
    by_entry : past_number s (placement_words entry (from (k + 1) m)) ≡ None → (o : Option Status) → entry k ≡ o → past_number s (placement_words entry (from k (suc m))) ≡ None
    by_entry rest None is = rw is rest
    by_entry rest (Some status) is = rw (is, other_number s k above (omega arith)) refl

-- the entries of a bucket at the sets
module _ (sets : ℕ) (fits : sets < 2 ^ 32) (entry : ℕ → Option Status) (named : (x : ℕ) → NamesSetIn sets (entry x)) where
  placed_reads : (m s : ℕ) → s + m < 2 ^ 64 → (units : List (Unit {0})) × (many_at (entry_at sets) (λ s _. s + 1) m s (placement_words entry (from s m)) ≡ Ok (units, []))
  unfolding many_at
  placed_reads zero s small = ([], refl)
  placed_reads (suc m) s small =
      let others = placed_reads m (s + 1) (omega arith) in
      (tt ∷ others.0, by_entry others.0 others.1 (entry s) refl (named s))
    where
      by_entry : (units : List (Unit {0})) → many_at (entry_at sets) (λ s _. s + 1) m (s + 1) (placement_words entry (from (s + 1) m)) ≡ Ok (units, []) → (o : Option Status) → entry s ≡ o → NamesSetIn sets o
          → many_at (entry_at sets) (λ s _. s + 1) (suc m) s (placement_words entry (from s (suc m))) ≡ Ok (tt ∷ units, [])
      by_entry units others None is names = rw (is, skips entry s m (s + 1) (omega arith) (omega arith), others) refl
      by_entry units others (Some status) is names =
          rw (
            is,
            number_past s (decimal s ∷ (status_words status ++ placement_words entry (from (s + 1) m))) (status_words status ++ placement_words entry (from (s + 1) m)) (decimal s) s (omega arith) refl ((omega arith, omega arith), refl),
            status_reads sets status (placement_words entry (from (s + 1) m)) (omega arith) names,
            others,
          ) refl

  pub bucket_line_reads : (b : ℕ) → b < 2 ^ 64 → bucket_line sets b (codes "bucket" ∷ decimal b ∷ placement_words entry (from 1 sets)) ≡ Ok tt
  bucket_line_reads b small =
      let entries = placed_reads sets 1 (omega arith) in
      rw (number_reads b b b (placement_words entry (from 1 sets)) small (omega arith) (omega arith), entries.1) refl

  pub placement_are_words : (m s : ℕ) → s + m < 2 ^ 64 → are_words (placement_words entry (from s m)) ≡ true
  placement_are_words zero s small = refl
  placement_are_words (suc m) s small = are_append (placed_words s (entry s)) (placement_words entry (from (s + 1) m)) (by_entry (entry s) (named s)) (placement_are_words m (s + 1) (omega arith))
    where
      by_entry : (o : Option Status) → NamesSetIn sets o → are_words (placed_words s o) ≡ true
      by_entry None names = refl
      by_entry (Some status) names = rw (decimal_word s (omega arith)) (status_is_words sets status (omega arith) names)

pub set_are_words : (up : ℕ → Bool) (count : ℕ → ℕ → ℕ) (x : ℕ) → x < 2 ^ 64 → AreCounts count x → are_words (set_words up count x) ≡ true
set_are_words up count x fits small =
    let n : (k : ℕ) → is_word (decimal (count x k)) ≡ true = λ k. decimal_word (count x k) (omega (arith, small k)) in
    rw (decimal_word x fits, n 0, n 1, n 2, n 3, n 4, n 5) (by_state_word (up x))
  where
    by_state_word : (b : Bool) → (is_word (if b then codes "up" else codes "down") && true) ≡ true
    by_state_word true = refl
    by_state_word false = refl
