-- How a journal's bodies are read.
use Rattle.std.proofs.Common.{◌≡◌, ℕ, ◌+◌, ◌-◌, ◌≤◌, ◌==◌, if◌then◌else◌, Bool, true, false, List, [], ◌∷◌, ◌++◌, length, Result, Ok, Err, refl, sym, ap, subst, ◌∙◌, arith, length-append}
use Rattle.std.specs.Prelude.{IsOkAnd}
use Rattle.vs_frame.specs.Head.{version_in}
use Rattle.vs_frame.specs.Journal.{Journal, begun, with_body, with_gate}
use Rattle.vs_frame.specs.Reading.{journal_of, cut_at}
use Rattle.vs_frame.specs.Scan.{IsSoFar}
use Rattle.vs_frame.specs.declared.fault.FrameFault.{FrameFault}
use Rattle.vs_frame.specs.declared.fault.FrameFault.TheVariants as frame
use Rattle.vs_frame.specs.declared.head.Head.{Head}
use Rattle.vs_record.specs.Durable.{Durable, booted}
use Rattle.vs_store.specs.declared.fault.StoreFault.{StoreFault}
use Rattle.vs_store.specs.declared.fault.StoreFault.TheVariants.{Full, DiskFault, NotAJournal, OtherSet, OtherCount, NoMemory}
use Rattle.vs_store.specs.Faults.{fault_of, Fails}
use Rattle.vs_store.specs.Replay.{number_in, count_in, IsReadSoFar, IsReadAs}
use Rattle.vs_store.specs.Standing.{◌>>=◌, change_with, stepped, folded_in, Standing, standing, failing, wrong_in, standing_by, state_of}
use Rattle.vs_store.proofs.Folding.{folded_begun, folded_body, stopped}

pub begun_so_far : (file : List ℕ) (part place : ℕ) (head : Head) (version : ℕ) (d : Durable) → IsSoFar file part place (begun head version) → d ≡ booted head.boot_first head.boot_count → IsReadSoFar file part place head 0 d
begun_so_far file part place head version d is state = record { journal = begun head version; so_far = is; head_is = refl; count_is = refl; folds = folded_begun head version 36 ∙ ap (λ (x : Durable). Ok x) (sym state) }

-- ---- where it is wrong

frame_place : (e : FrameFault) (place : ℕ) → fault_of e ≡ NotAJournal place → e ≡ frame.NotAJournal place
frame_place (frame.NotAJournal p) place is = cc
frame_place frame.DiskFault place is = absurd cc
frame_place frame.NoMemory place is = absurd cc

fails_at : (e : StoreFault) (place : ℕ) (r : Result Durable ℕ) → e ≡ NotAJournal place → Fails e r → r ≡ Err place
fails_at (NotAJournal p) place r is fails = fails ∙ cc
fails_at NoMemory place r is fails = absurd cc
fails_at (Full n) place r is fails = absurd fails
fails_at DiskFault place r is fails = absurd fails
fails_at (OtherSet u) place r is fails = absurd fails
fails_at (OtherCount n) place r is fails = absurd fails

-- at a gate that is wrong itself
pub wrong_behind : (file : List ℕ) (part place : ℕ) (head : Head) (count : ℕ) (d : Durable) (so_far : IsReadSoFar file part place head count d) (e : FrameFault) (wrong : ℕ) → fault_of e ≡ NotAJournal wrong
    → ((p : ℕ) → e ≡ frame.NotAJournal p → journal_of file ≡ Err p) → ((p : ℕ) → e ≡ frame.NotAJournal p → (gate : ℕ) × (journal_of (cut_at p file) ≡ Ok (with_gate gate so_far.journal))) → state_of file ≡ Err wrong
wrong_behind file part place head count d so_far e wrong is refused before =
    let at = frame_place e wrong is in
    let front = before wrong at in
    let first : wrong_in wrong (journal_of (cut_at wrong file)) ≡ wrong = ap (wrong_in wrong) front.1 ∙ ap (failing wrong) so_far.folds in
    ap (standing_by file) (refused wrong at) ∙ ap (λ (p : ℕ). Err p) first

module _ (file : List ℕ) (part place : ℕ) (head : Head) (count : ℕ) (d : Durable) (j : Journal) (head_is : j.head ≡ head) (count_is : length j.second ≡ count) (folds : folded_in j ≡ Ok d) (body : List ℕ) (read : IsSoFar file part place (with_body part body place j)) where
  step : Result Durable ℕ
  step = stepped head.bucket_count d (place - (5 + length body)) (change_with (number_in part count) body)

  with_it : folded_in (with_body part body place j) ≡ stepped head.bucket_count d (place - (5 + length body)) (change_with (number_in part count) body)
  with_it =
      folded_body file j body part place read.along ∙ ap (λ (r : Result Durable ℕ). r >>= λ x. stepped j.head.bucket_count x (place - (5 + length body)) (change_with (number_in part (length j.second)) body)) folds
      ∙ ap (λ (h : Head). stepped h.bucket_count d (place - (5 + length body)) (change_with (number_in part (length j.second)) body)) head_is
      ∙ ap (λ (n : ℕ). stepped head.bucket_count d (place - (5 + length body)) (change_with (number_in part n) body)) count_is

  -- at the gate of the last body
  pub body_wrong : (e : StoreFault) (wrong : ℕ) → e ≡ NotAJournal wrong → Fails e (stepped head.bucket_count d (place - (5 + length body)) (change_with (number_in part count) body)) → state_of file ≡ Err wrong
  body_wrong e wrong is fails = stopped file (with_body part body place j) part wrong read.along (with_it ∙ fails_at e wrong (stepped head.bucket_count d (place - (5 + length body)) (change_with (number_in part count) body)) is fails)

  second_count : (p : ℕ) → length (with_body p body place j).second ≡ count_in p count
  second_count p = by (p == 2)
    where
      by : (t : Bool) → length (if t then j.second ++ body ∷ [] else j.second) ≡ (if t then count + 1 else count)
      by true = omega (arith, length-append j.second (body ∷ []), count_is)
      by false = count_is

  -- with that body
  pub body_read : (n : ℕ) (x : Durable) → stepped head.bucket_count d (place - (5 + length body)) (change_with (number_in part count) body) ≡ Ok x → n ≡ count_in part count → IsReadSoFar file part place head n x
  body_read n x is n_is = record { journal = with_body part body place j; so_far = read; head_is = head_is; count_is = second_count part ∙ sym n_is; folds = with_it ∙ is }

pub count_more : (part count : ℕ) → count_in part count ≤ count + 1
count_more part count = by (part == 2)
  where
    by : (t : Bool) → (if t then count + 1 else count) ≤ count + 1
    by true = omega arith
    by false = omega arith

-- ---- where all is right

pub all_read : (file first : List ℕ) → first ≡ file → (part place : ℕ) (head : Head) (count : ℕ) (d : Durable) (so_far : IsReadSoFar file part place head count d) (gate version named : ℕ) → named ≡ version_in file → named ≡ version
    → journal_of file ≡ Ok (with_gate gate so_far.journal) → IsOkAnd (state_of first) (λ s. IsReadAs gate count version d s × (s.journal.head ≡ head))
all_read file first same part place head count d so_far gate version named named_is version_is all =
    let j = with_gate gate so_far.journal in
    let stood : state_of file ≡ Ok (record { journal = j; state = d }) = ap (standing_by file) all ∙ ap (standing j) so_far.folds in
    subst (λ (r : Result Standing ℕ). IsOkAnd r (λ s. IsReadAs gate count version d s × (s.journal.head ≡ head))) (sym (ap state_of same ∙ stood))
    (record { gate = refl; count_is = so_far.count_is; version_is = so_far.so_far.along.version ∙ sym named_is ∙ version_is; state = refl }, so_far.head_is)
