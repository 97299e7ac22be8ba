-- A file stands for what it means, or is wrong at the least place.
use Rattle.std.proofs.Common.{◌≡◌, ◌⊎◌, ⊎_elim, inl, inr, ℕ, ◌+◌, ◌-◌, ◌≤◌, ◌==◌, Bool, true, false, if◌then◌else◌, List, [], ◌∷◌, length, Option, Some, None, Result, Ok, Err, refl, sym, ap, subst, ◌∙◌, arith}
use Rattle.std.specs.Str.{bytes_eq}
use Rattle.vs_frame.specs.Head.{HasHead}
use Rattle.vs_frame.specs.Journal.{Journal, IsAlong, IsEntry, IsInFirst, IsInSecond, IsWrongAt, Leads, Breaks, with_body, with_gate}
use Rattle.vs_frame.specs.Reading.{journal_of, cut_at}
use Rattle.vs_frame.specs.Scan.{IsSoFar}
use Rattle.vs_frame.specs.declared.head.Head.{Head}
use Rattle.vs_frame.proofs.Alongs.{along_bounds}
use Rattle.vs_frame.proofs.Begins.{cut_journal}
use Rattle.vs_frame.proofs.JournalOf.{journal_told, wrong_found, wrong_told}
use Rattle.vs_frame.proofs.Scans.{pushed}
use Rattle.vs_record.specs.Change.{Change}
use Rattle.vs_record.specs.Durable.{Durable, FitsState}
use Rattle.vs_store.specs.declared.fault.StoreFault.{StoreFault}
use Rattle.vs_store.specs.declared.fault.StoreFault.TheVariants.{NotAJournal, OtherSet, OtherCount}
use Rattle.vs_store.specs.Meaning.{AreBytes, start_of, IsMade, Means, HasWrongBody, GoesWrongAt, IsLeastWrong}
use Rattle.vs_store.specs.Replay.{number_in}
use Rattle.vs_store.specs.Standing.{◌>>=◌, next, change_with, stepped, folded, end_of, folded_in, Standing, standing, failing, wrong_in, standing_by, state_of, of_set, opened_by, opened}
use Rattle.vs_store.proofs.Folding.{number_after, leads_end, folded_alone, folded_body, stopped}
use Rattle.vs_store.proofs.Spelling.{spelled_change, change_spelled, step_fails, no_step, made_folds, entry_bytes, along_made}
use Rattle.vs_store.proofs.Standings.{parts, stands}

pub means_stands : (file : List ℕ) (s : Standing) → Means file s → state_of file ≡ Ok s
means_stands file s is = stands file s.journal s.state is.journal (made_folds s.journal s.state is.made)

pub stands_means : (file : List ℕ) (s : Standing) → AreBytes file → state_of file ≡ Ok s → Means file s
stands_means file s bytes is =
    let x = parts file s is in
    let journal = journal_told file s.journal x.journal in
    record { journal = journal; made = along_made file s.journal s.journal.version s.state bytes journal.along x.made }

-- ---- the least wrong place

-- what was read up to a gate that breaks
broken : (file : List ℕ) (place : ℕ) (j : Journal) (part : ℕ) → IsAlong file j part → j.gate ≡ place → Breaks file place → (r : Result Durable ℕ) → folded_in j ≡ r → state_of file ≡ Err (failing place r)
broken file place j part along at breaks r is =
    let long : place ≤ length file = omega (arith, (along_bounds file j part along).1, at) in
    let front = cut_journal file place j part along at long in
    let first : wrong_in place (journal_of (cut_at place file)) ≡ failing place r = ap (wrong_in place) front.1 ∙ ap (failing place) is in
    ap (standing_by file) (wrong_found file place (inr (j, part, along, at, breaks))) ∙ ap (λ (p : ℕ). Err p) first

no_head_first : (file : List ℕ) → wrong_in 0 (journal_of (cut_at 0 file)) ≡ 0
no_head_first file = refl

no_head : (file : List ℕ) (place : ℕ) → place ≡ 0 → ((head : Head) → ¬ HasHead file head) → state_of file ≡ Err place
no_head file place zero none =
    ap (standing_by file) (wrong_found file 0 (inl (refl, none))) ∙ ap (λ (p : ℕ). Err p) (no_head_first file ∙ sym zero)

wrong_body : (file : List ℕ) (place part : ℕ) (j : Journal) (d : Durable) → AreBytes file → IsAlong file j part → j.gate ≡ place → IsMade j d → HasWrongBody file place part j d → state_of file ≡ Err place
wrong_body file place part j d bytes along at made wrong =
    let body = wrong.body in
    let end = place + (5 + length body) in
    let here : IsSoFar file part place (with_gate place j) = record { along = subst (λ (g : ℕ). IsAlong file (with_gate g j) part) at along; gate = refl } in
    let read = pushed file part place end (length body) j body here wrong.entry refl refl in
    let gate : end - (5 + length body) ≡ place = omega arith in
    let number = number_in part (length j.second) in
    let step = no_step j.head.bucket_count d (end - (5 + length body)) (change_with number body) (λ c is. wrong.none c (change_spelled number body c (entry_bytes file place body bytes wrong.entry) is)) in
    stopped file (with_body part body end j) part place read.along
    (folded_body file j body part end read.along ∙ ap (λ (r : Result Durable ℕ). r >>= λ x. stepped j.head.bucket_count x (end - (5 + length body)) (change_with number body)) (made_folds j d made) ∙ step ∙ ap (λ (p : ℕ). Err p) gate)

pub wrong_is : (file : List ℕ) (place : ℕ) → AreBytes file → IsLeastWrong file place → state_of file ≡ Err place
wrong_is file place bytes (inl none) = no_head file place none.0 none.1
wrong_is file place bytes (inr x) = ⊎_elim (λ (breaks : Breaks file place). broken file place x.journal x.part x.along x.gate breaks (Ok x.state) (made_folds x.journal x.state x.made))
    (λ (wrong : HasWrongBody file place x.part x.journal x.state). wrong_body file place x.part x.journal x.state bytes x.along x.gate x.made wrong) x.wrong

-- ---- where folding fails

-- the bodies in front, and the one at which it fails
record Failing (file : List ℕ) (n : ℕ) (d : Durable) (place : ℕ) (number : Option ℕ) (p : ℕ) : Type 0 where
  front : List (List ℕ)
  body : List ℕ
  state : Durable
  leads : Leads file place front p
  entry : IsEntry file p body
  folds : folded n d place number front ≡ Ok state
  none : (c : Change) → change_with (number_after number front) body ≡ Some c → ¬ FitsState n state c

after_none : (number : Option ℕ) → number_after number [] ≡ number
after_none None = refl
after_none (Some n) = let same : n + 0 ≡ n = omega arith in ap (λ (k : ℕ). Some k) same

after_one : (number : Option ℕ) (body : List ℕ) (bodies : List (List ℕ)) → number_after (next number) bodies ≡ number_after number (body ∷ bodies)
after_one None body bodies = refl
after_one (Some n) body bodies = let same : n + 1 + length bodies ≡ n + length (body ∷ bodies) = omega arith in ap (λ (k : ℕ). Some k) same

fails_at : (file : List ℕ) (n : ℕ) (d : Durable) (place : ℕ) (number : Option ℕ) (bodies : List (List ℕ)) (end p : ℕ) → Leads file place bodies end → folded n d place number bodies ≡ Err p → Failing file n d place number p
unfolding folded
fails_at file n d place number [] end p leads is = absurd cc
fails_at file n d place number (body ∷ bodies) end p leads is = by (λ x. fails_at file n x (place + (5 + length body)) (next number) bodies end p leads.1) (stepped n d place (change_with number body)) refl is
  where
    by : ((x : Durable) → folded n x (place + (5 + length body)) (next number) bodies ≡ Err p → Failing file n x (place + (5 + length body)) (next number) p) → (r : Result Durable ℕ) → stepped n d place (change_with number body) ≡ r
        → (r >>= λ x. folded n x (place + (5 + length body)) (next number) bodies) ≡ Err p → Failing file n d place number p
    by rest (Err q) step h =
        let fails = step_fails n d place (change_with number body) q step in
        let same : q ≡ p = cc in
        let at : place ≡ p = fails.0 ∙ same in
        record {
          front = [];
          body = body;
          state = d;
          leads = at;
          entry = subst (λ (g : ℕ). IsEntry file g body) at leads.0;
          folds = refl;
          none = λ c some. fails.1 c (ap (λ (m : Option ℕ). change_with m body) (sym (after_none number)) ∙ some);
        }
    by rest (Ok x) step h =
        let more = rest x h in
        record {
          front = body ∷ more.front;
          body = more.body;
          state = more.state;
          leads = (leads.0, more.leads);
          entry = more.entry;
          folds = ap (λ (r : Result Durable ℕ). r >>= λ y. folded n y (place + (5 + length body)) (next number) more.front) step ∙ more.folds;
          none = λ c some. more.none c (ap (λ (m : Option ℕ). change_with m more.body) (after_one number body more.front) ∙ some);
        }

module _ (file : List ℕ) (bytes : AreBytes file) (j : Journal) (part : ℕ) (along : IsAlong file j part) (p : ℕ) where
  -- in the first part
  first_fails : (end : ℕ) → Leads file 36 j.first end → folded j.head.bucket_count (start_of j.head) 36 None j.first ≡ Err p → GoesWrongAt file p
  first_fails end leads is =
      let f = fails_at file j.head.bucket_count (start_of j.head) 36 None j.first end p leads is in
      let k : Journal = record { head = j.head; version = j.version; first = f.front; second = []; gate = p } in
      let there : IsAlong file k 1 = record { head = along.head; version = along.version; so_far = inl (record { part_is = refl; none = refl; entries = f.leads }) } in
      record {
        journal = k;
        part = 1;
        state = f.state;
        along = there;
        gate = refl;
        made = along_made file k 1 f.state bytes there (folded_alone k refl ∙ f.folds);
        wrong = inr (record { body = f.body; entry = f.entry; none = λ c spelled. f.none c (spelled_change None f.body c spelled) });
      }

  -- in the second
  second_fails : IsInSecond file j part → (d : Durable) → folded j.head.bucket_count (start_of j.head) 36 None j.first ≡ Ok d → folded j.head.bucket_count d (end_of 36 j.first + 1) (Some 1) j.second ≡ Err p → GoesWrongAt file p
  second_fails second d first is =
      let middle : second.middle ≡ end_of 36 j.first = leads_end file 36 j.first second.middle second.first.entries in
      let leads = subst (λ (m : ℕ). Leads file (m + 1) j.second j.gate) middle second.entries in
      let f = fails_at file j.head.bucket_count d (end_of 36 j.first + 1) (Some 1) j.second j.gate p leads is in
      let k : Journal = record { head = j.head; version = j.version; first = j.first; second = f.front; gate = p } in
      let entries = subst (λ (m : ℕ). Leads file (m + 1) f.front p) (sym middle) f.leads in
      let there : IsAlong file k 2 = record { head = along.head; version = along.version; so_far = inr (record { part_is = refl; version = second.version; middle = second.middle; first = second.first; entries = entries }) } in
      let folds : folded_in k ≡ Ok f.state = ap (λ (r : Result Durable ℕ). r >>= λ x. folded j.head.bucket_count x (end_of 36 j.first + 1) (Some 1) f.front) first ∙ f.folds in
      let number : 1 + length f.front ≡ length f.front + 1 = omega arith in
      record {
        journal = k;
        part = 2;
        state = f.state;
        along = there;
        gate = refl;
        made = along_made file k 2 f.state bytes there folds;
        wrong = inr (record { body = f.body; entry = f.entry; none = λ c spelled. f.none c (ap (λ (n : ℕ). change_with (Some n) f.body) number ∙ spelled_change (Some (length f.front + 1)) f.body c spelled) });
      }

  fails_there : folded_in j ≡ Err p → GoesWrongAt file p
  fails_there is = by along.so_far
    where
      in_second : IsInSecond file j part → (r : Result Durable ℕ) → folded j.head.bucket_count (start_of j.head) 36 None j.first ≡ r → (r >>= λ x. folded j.head.bucket_count x (end_of 36 j.first + 1) (Some 1) j.second) ≡ Err p → GoesWrongAt file p
      in_second second (Err q) first h = first_fails second.middle second.first.entries (first ∙ h)
      in_second second (Ok d) first h = second_fails second d first h

      by : IsInFirst file j part ⊎ IsInSecond file j part → GoesWrongAt file p
      by (inl first) = first_fails j.gate first.entries (sym (folded_alone j first.none) ∙ is)
      by (inr second) = in_second second (folded j.head.bucket_count (start_of j.head) 36 None j.first) refl is

pub is_wrong : (file : List ℕ) (place : ℕ) → AreBytes file → state_of file ≡ Err place → IsLeastWrong file place
is_wrong file place bytes is = by (journal_of file) refl is
  where
    -- a journal whose bodies fail
    of : (k : Journal) (r : Result Durable ℕ) → journal_of file ≡ Ok k → folded_in k ≡ r → standing k r ≡ Err place → IsLeastWrong file place
    of k (Ok d) found folds h = absurd cc
    of k (Err p) found folds h =
        let same : p ≡ place = cc in
        inr (fails_there file bytes k k.version (journal_told file k found).along place (folds ∙ ap (λ (q : ℕ). Err q) same))

    -- a gate that breaks, or a body in front of it
    behind : (w : ℕ) (j : Journal) (part : ℕ) → IsAlong file j part → j.gate ≡ w → Breaks file w → (r : Result Durable ℕ) → folded_in j ≡ r → IsLeastWrong file place
    behind w j part along at breaks (Ok d) folds =
        let there : ◌≡◌ {A = Result Standing ℕ} (Err w) (Err place) = sym (broken file w j part along at breaks (Ok d) folds) ∙ is in
        let same : w ≡ place = cc in
        inr (record { journal = j; part = part; state = d; along = along; gate = at ∙ same; made = along_made file j part d bytes along folds; wrong = inl (subst (Breaks file) same breaks) })
    behind w j part along at breaks (Err p) folds =
        let there : ◌≡◌ {A = Result Standing ℕ} (Err p) (Err place) = sym (broken file w j part along at breaks (Err p) folds) ∙ is in
        let same : p ≡ place = cc in
        inr (fails_there file bytes j part along place (folds ∙ ap (λ (q : ℕ). Err q) same))

    lost : (w : ℕ) → IsWrongAt file w → IsLeastWrong file place
    lost w (inl none) =
        let there : ◌≡◌ {A = Result Standing ℕ} (Err 0) (Err place) = sym (no_head file 0 refl none.1) ∙ is in
        inl ((let same : 0 ≡ place = cc in sym same), none.1)
    lost w (inr (j, part, along, at, breaks)) = behind w j part along at breaks (folded_in j) refl

    by : (r : Result Journal ℕ) → journal_of file ≡ r → standing_by file r ≡ Err place → IsLeastWrong file place
    by (Ok k) found h = of k (folded_in k) found refl h
    by (Err w) found h = lost w (wrong_told file w found)

-- ---- as opening answers

abbrev fine : Result (Unit {0}) StoreFault
fine = Ok tt

-- a head of another set isn't named by a place
no_place : (head found : Head) (place : ℕ) → ¬ (of_set head found ≡ Err (NotAJournal place))
no_place head found place is = by (bytes_eq found.uuid head.uuid) (found.bucket_count == head.bucket_count) is
  where
    by : (t u : Bool) → ¬ ((if t then (if u then fine else Err (OtherCount found.bucket_count)) else Err (OtherSet found.uuid)) ≡ Err (NotAJournal place))
    by true true h = absurd cc
    by true false h = absurd cc
    by false u h = absurd cc

pub not_a_journal : (head : Head) (file : List ℕ) (place : ℕ) → opened head file ≡ Err (NotAJournal place) → state_of file ≡ Err place
not_a_journal head file place is = by (state_of file) refl is
  where
    own : (s : Standing) (r : Result (Unit {0}) StoreFault) → of_set head s.journal.head ≡ r → (r >>= λ u. Ok s) ≡ Err (NotAJournal place) → state_of file ≡ Err place
    own s (Ok u) of h = absurd cc
    own s (Err e) of h = let same : e ≡ NotAJournal place = cc in absurd (no_place head s.journal.head place (of ∙ ap (λ (x : StoreFault). Err x) same))

    by : (r : Result Standing ℕ) → state_of file ≡ r → opened_by head r ≡ Err (NotAJournal place) → state_of file ≡ Err place
    by (Ok s) found h = own s (of_set head s.journal.head) refl h
    by (Err p) found h = let same : p ≡ place = cc in found ∙ ap (λ (q : ℕ). Err q) same
