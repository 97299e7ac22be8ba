-- What a store holds, before and after its calls.
use Rattle.std.proofs.Common.{◌≡◌, ◌⊎◌, ⊎_elim, inl, inr, ℕ, ◌+◌, Bool, true, false, List, [], ◌∷◌, length, Option, Some, None, Result, Ok, if◌then◌else◌, IsTrue, refl, sym, ap, subst, ◌∙◌, arith, length-append}
use Rattle.std.proofs.lemmas.Bool.{true≢false}
use Rattle.vs_disk.specs.declared.disk.Disk.{Ghosts}
use Rattle.vs_disk.specs.Told.{Reads, Leaves, IsSynced}
use Rattle.vs_disk.specs.Model.{IsLawful}
use Rattle.vs_disk.specs.Kept.{same_torn}
use Rattle.vs_frame.specs.Frame.{gate_of, last_of, next_of, IsAtEndOf}
use Rattle.vs_frame.specs.Journal.{Journal, IsJournal, IsOldOrNew, HasBehind, grown}
use Rattle.vs_frame.specs.Unwritten.{IsUnwritten}
use Rattle.vs_frame.specs.declared.head.Head.{Head}
use Rattle.vs_frame.proofs.Alongs.{last_is_behind, torn_old_or_new}
use Rattle.vs_record.specs.Body.{IsRecordable, body_of}
use Rattle.vs_record.specs.Change.{Change}
use Rattle.vs_record.specs.Durable.{Durable, FitsState, applied}
use Rattle.vs_store.specs.declared.store.Store.{Store}
use Rattle.vs_store.specs.Files.{StandsFor, StandsForSome, FitsFile, taken}
use Rattle.vs_store.specs.Holding.{counted, IsHere, IsLevel, IsTried, Speaks, Knows, Holds, Accepts}
use Rattle.vs_store.specs.Standing.{Standing, state_of, folded_in, of_set, next_number, after, entry_len}
use Rattle.vs_store.specs.Store.{disk_of, told_of, IsReady, IsCalm, HasFound}
use Rattle.vs_store.proofs.Told.{synced_leaves, unwritten_leaves, unwritten_reads}
use Rattle.vs_store.proofs.Standings.{parts, is_journal, stands, same_journal, after_made, old_or_after, entry_is, stands_for, count_is}

same_standing : (s t : Standing) → ◌≡◌ {A = Result Standing ℕ} (Ok s) (Ok t) → s ≡ t
same_standing s t e = cc

-- the file of either state stands for one of both
pub either_for : (head : Head) (d : Durable) (was : Standing) (c : Change) (file : List ℕ) → of_set head was.journal.head ≡ Ok tt → was.state ≡ d → (state_of file ≡ Ok was) ⊎ (state_of file ≡ Ok (after was c)) → StandsForSome head d (Some c) file
either_for head d was c file own state (inl is) = inl (stands_for head d file was is own state)
either_for head d was c file own state (inr is) = inr (stands_for head (applied d c) file (after was c) is own (ap (λ (x : Durable). applied x c) state))

-- what stands for a state stands for it where a change is pending
pub some_more : (head : Head) (d : Durable) (c : Change) (file : List ℕ) → StandsForSome head d None file → StandsForSome head d (Some c) file
some_more head d c file is = inl is

module _ {D : Type 0} {disk : Ghosts D} (store : Store D disk) (head : Head) (d : Durable) (file : List ℕ) (k : Knows store head d None file) where
  pub state_is : k.now.state ≡ d
  state_is = ⊎_elim (λ (level : IsLevel store k.now × (k.now.state ≡ d)). level.1) (λ (tried : (was : Standing) × (c : Change) × IsTried store file k.now was c × Speaks was c k.now d None). tried.3) k.tried

  pub fits_file : (c : Change) → FitsState head.bucket_count d c → FitsFile c file
  fits_file c fit s stood =
      let same : k.now ≡ s = same_standing k.now s (sym k.here.stands ∙ stood) in
      let count : k.now.journal.head.bucket_count ≡ head.bucket_count = count_is head k.now.journal.head k.own in
      subst (λ (t : Standing). FitsState t.journal.head.bucket_count t.state c) same (subst (λ (n : ℕ). FitsState n k.now.state c) (sym count) (subst (λ (x : Durable). FitsState head.bucket_count x c) (sym state_is) fit))

  -- where an append begins
  pub at_end : IsReady store → IsAtEndOf store.frame k.now.journal
  at_end ready = record { gate = k.here.gate ready; version = k.here.version ∙ sym store.version }

  pub number_is : IsReady store → (number : ℕ) → number ≡ counted store + 1 → number ≡ next_number k.now.journal
  number_is ready number is = omega (arith, is, k.here.count ready)

-- a change that fits the state that is held may be appended
pub may_append : {D : Type 0} {disk : Ghosts D} (store : Store D disk) (head : Head) (d : Durable) (c : Change) → Holds store head d None → FitsState head.bucket_count d c → Accepts store c
may_append store head d c holds fit tells = fits_file store head d (told_of store).reads_as (holds.knows tells) c fit

-- ---- an append

module _ {D : Type 0} {disk : Ghosts D} (old new : Store D disk) (head : Head) (d : Durable) (file : List ℕ) (k : Knows old head d None file) (ready : IsReady old)
    (c : Change) (number : ℕ) (body : List ℕ) (text : body ≡ body_of (Some number) c) (number_now : number ≡ counted old + 1) (recordable_now : IsRecordable (Some number) c) (fit : FitsFile c file) where
  number_next : number ≡ next_number k.now.journal
  number_next = number_is old head d file k ready number number_now

  recordable : IsRecordable (Some (next_number k.now.journal)) c
  recordable = subst (λ (n : ℕ). IsRecordable (Some n) c) number_next recordable_now

  body_next : body ≡ body_of (Some (next_number k.now.journal)) c
  body_next = text ∙ ap (λ (n : ℕ). body_of (Some n) c) number_next

  size : 5 + length body ≡ entry_len c
  size = omega (arith, ap length text, entry_is number c)

  fits : FitsState k.now.journal.head.bucket_count k.now.state c
  fits = fit k.now k.here.stands

  made : folded_in k.now.journal ≡ Ok k.now.state
  made = (parts file k.now k.here.stands).made

  -- what a file is that has the body or not
  pub either_is : (f : List ℕ) → IsOldOrNew k.now.journal body f → (state_of f ≡ Ok k.now) ⊎ (state_of f ≡ Ok (after k.now c))
  either_is f is = old_or_after k.now c made recordable fits f (subst (λ (b : List ℕ). IsOldOrNew k.now.journal b f) body_next is)

  pub either_stands : (f : List ℕ) → IsOldOrNew k.now.journal body f → StandsForSome head d (Some c) f
  either_stands f is = either_for head d k.now c f k.own (state_is old head d file k) (either_is f is)

  pub after_is : (f : List ℕ) → IsJournal f (grown body k.now.journal) → state_of f ≡ Ok (after k.now c)
  after_is f is =
      let named = subst (λ (b : List ℕ). IsJournal f (grown b k.now.journal)) body_next is in
      stands f (after k.now c).journal (applied k.now.state c) named (after_made k.now c made recordable fits)

  pub after_stands : (f : List ℕ) → IsJournal f (grown body k.now.journal) → StandsFor head (applied d c) f
  after_stands f is = stands_for head (applied d c) f (after k.now c) (after_is f is) k.own (ap (λ (x : Durable). applied x c) (state_is old head d file k))

  -- after Ok
  pub appended_knows : (f : List ℕ) → IsJournal f (grown body k.now.journal) → gate_of new.frame ≡ gate_of old.frame + (5 + length body) → last_of new.frame ≡ next_of new.frame → last_of new.frame ≡ gate_of new.frame → new.count ≡ number → new.has_last ≡ false
      → Knows new head (applied d c) None f
  appended_knows f is gate none level count last =
      let here_gate : (after k.now c).journal.gate ≡ gate_of new.frame = omega (arith, k.here.gate ready, gate, ap length body_next) in
      let here_count : length (after k.now c).journal.second ≡ new.count = omega (arith, length-append k.now.journal.second (body_of (Some (next_number k.now.journal)) c ∷ []), count, number_next) in
      record {
        now = after k.now c;
        here = record { stands = after_is f is; version = k.here.version; gate = λ is_ready. here_gate; count = λ is_ready. here_count ∙ sym (ap (λ (t : Bool). if t then new.count + 1 else new.count) last) };
        own = k.own;
        tried = inl (record { next = sym none; gate = here_gate ∙ sym level; count = here_count }, ap (λ (x : Durable). applied x c) (state_is old head d file k));
      }

  -- after a fault
  pub tried_knows : (f : List ℕ) → IsOldOrNew k.now.journal body f → last_of new.frame ≡ gate_of old.frame → next_of new.frame ≡ gate_of old.frame + (5 + length body) → ¬ IsReady new → ¬ HasFound new → new.count + 1 ≡ number
      → Knows new head d (Some c) f
  tried_knows f is last next must_reopen lost count = by (either_is f is)
    where
      tried : (now : Standing) → (now ≡ k.now) ⊎ (now ≡ after k.now c) → IsTried new f now k.now c
      tried now which = record {
        made = made;
        recordable = recordable;
        fits = fits;
        gate = k.here.gate ready ∙ sym last;
        next = omega (arith, next, last, size);
        count = omega (arith, count, number_next);
        either = which;
        behind = λ found. absurd (lost found);
      }

      here : (now : Standing) → state_of f ≡ Ok now → now.journal.version ≡ 2 → IsHere new f now
      here now stood version = record { stands = stood; version = version; gate = λ is_ready. absurd (must_reopen is_ready); count = λ is_ready. absurd (must_reopen is_ready) }

      by : (state_of f ≡ Ok k.now) ⊎ (state_of f ≡ Ok (after k.now c)) → Knows new head d (Some c) f
      by (inl stood) = record { now = k.now; here = here k.now stood k.here.version; own = k.own; tried = inr (k.now, c, tried k.now (inl refl), (refl, state_is old head d file k)) }
      by (inr stood) = record { now = after k.now c; here = here (after k.now c) stood k.here.version; own = k.own; tried = inr (k.now, c, tried (after k.now c) (inr refl), (refl, state_is old head d file k)) }

-- ---- where the store's places stay

module _ {D : Type 0} {disk : Ghosts D} (old new : Store D disk) (gate : gate_of new.frame ≡ gate_of old.frame) (last : last_of new.frame ≡ last_of old.frame) (next : next_of new.frame ≡ next_of old.frame) (found : HasFound new → HasFound old)
    (ready : IsReady new → IsReady old) (count : new.count ≡ old.count) (has_last : new.has_last ≡ old.has_last) where
  counted_same : counted new ≡ counted old
  counted_same = (λ i. if has_last i then count i + 1 else count i)

  pub knows_same : (head : Head) (d : Durable) (pending : Option Change) (file f : List ℕ) → f ≡ file → Knows old head d pending file → Knows new head d pending f
  knows_same head d pending file f same k = record {
    now = k.now;
    here = record { stands = ap state_of same ∙ k.here.stands; version = k.here.version; gate = λ is_ready. k.here.gate (ready is_ready) ∙ sym gate; count = λ is_ready. k.here.count (ready is_ready) ∙ sym counted_same };
    own = k.own;
    tried = ⊎_elim
        (λ (level : IsLevel old k.now × (k.now.state ≡ d)). inl (record { next = next ∙ level.0.next ∙ sym last; gate = level.0.gate ∙ sym last; count = level.0.count ∙ sym count }, level.1))
        (λ (tried : (was : Standing) × (c : Change) × IsTried old file k.now was c × Speaks was c k.now d pending). inr (
          tried.0,
          tried.1,
          record {
            made = tried.2.made;
            recordable = tried.2.recordable;
            fits = tried.2.fits;
            gate = tried.2.gate ∙ sym last;
            next = omega (arith, next, last, tried.2.next);
            count = tried.2.count ∙ sym count;
            either = tried.2.either;
            behind = λ is_found. subst (λ (l : List ℕ). HasBehind l tried.0.journal (body_of (Some (next_number tried.0.journal)) tried.1)) (sym same) (tried.2.behind (found is_found));
          },
          tried.3,
        )) k.tried;
  }

  pub same_holds : IsUnwritten (told_of old) (told_of new) → (head : Head) (d : Durable) (pending : Option Change) → Holds old head d pending → Holds new head d pending
  same_holds unwritten head d pending holds = record {
    stands = unwritten_reads (told_of old) (told_of new) (StandsForSome head d pending) unwritten holds.stands;
    leaves = unwritten_leaves (told_of old) (told_of new) (StandsForSome head d pending) unwritten holds.leaves;
    knows = λ still. let tells = sym unwritten.keeps.reads ∙ still in knows_same head d pending (told_of old).reads_as (told_of new).reads_as (unwritten.reads tells) (holds.knows tells);
  }

-- ---- what a store knows, its disk has

module _ {D : Type 0} {disk : Ghosts D} (store : Store D disk) (head : Head) (d : Durable) where
  pub knows_stands : (pending : Option Change) (file : List ℕ) → Knows store head d pending file → StandsForSome head d pending file
  knows_stands None file k = stands_for head d file k.now k.here.stands k.own (state_is store head d file k)
  knows_stands (Some c) file k = ⊎_elim
      (λ (level : IsLevel store k.now × (k.now.state ≡ d)). inl (stands_for head d file k.now k.here.stands k.own level.1))
      (λ (tried : (was : Standing) × (e : Change) × IsTried store file k.now was e × Speaks was e k.now d (Some c)).
      let t = tried.2 in
      ⊎_elim (λ (same : k.now ≡ tried.0). inl (stands_for head d file k.now k.here.stands k.own (ap (λ (s : Standing). s.state) same ∙ tried.3.1)))
      (λ (same : k.now ≡ after tried.0 tried.1).
      inr (stands_for head (applied d c) file k.now k.here.stands k.own (ap (λ (s : Standing). s.state) same ∙ ap (λ (x : Durable). applied x tried.1) tried.3.1 ∙ ap (λ (e : Change). applied d e) (sym tried.3.0)))) t.either) k.tried

  -- a synced disk
  pub holds_synced : (pending : Option Change) → IsLawful (told_of store) → IsSynced (told_of store) → Reads (told_of store) (Knows store head d pending) → Holds store head d pending
  holds_synced pending laws synced knows =
      let stands : Reads (told_of store) (StandsForSome head d pending) = λ tells. knows_stands pending (told_of store).reads_as (knows tells) in
      record { stands = stands; leaves = synced_leaves (told_of store) (StandsForSome head d pending) laws synced stands; knows = knows }

  -- or one whose images are known
  pub holds_left : (pending : Option Change) → Leaves (told_of store) (StandsForSome head d pending) → Reads (told_of store) (Knows store head d pending) → Holds store head d pending
  holds_left pending leaves knows = record { stands = λ tells. knows_stands pending (told_of store).reads_as (knows tells); leaves = leaves; knows = knows }

-- ---- reopening

taken_state : (was now : Standing) (c : Change) (d : Durable) (pending : Option Change) → now ≡ after was c → Speaks was c now d pending → now.state ≡ taken d pending
taken_state was now c d None same speaks = speaks
taken_state was now c d (Some e) same speaks = ap (λ (s : Standing). s.state) same ∙ ap (λ (x : Durable). applied x c) speaks.1 ∙ ap (λ (x : Change). applied d x) (sym speaks.0)

old_state : (was now : Standing) (c : Change) (d : Durable) (pending : Option Change) → now ≡ was → Speaks was c now d pending → now.state ≡ d
old_state was now c d None same speaks = speaks
old_state was now c d (Some e) same speaks = ap (λ (s : Standing). s.state) same ∙ speaks.1

-- what both journals are, of which the file is one
old_or_new : (was now : Standing) (c : Change) (file : List ℕ) → state_of file ≡ Ok now → (now ≡ was) ⊎ (now ≡ after was c) → IsOldOrNew was.journal (body_of (Some (next_number was.journal)) c) file
old_or_new was now c file stood (inl same) = inl (subst (λ (s : Standing). IsJournal file s.journal) same (is_journal file now stood))
old_or_new was now c file stood (inr same) = inr (subst (λ (s : Standing). IsJournal file s.journal) same (is_journal file now stood))

module _ {D : Type 0} {disk : Ghosts D} (old new : Store D disk) (found : Bool) (last : last_of new.frame ≡ last_of old.frame) (next : next_of new.frame ≡ (if found then next_of old.frame else last_of old.frame)) (gate : gate_of new.frame ≡ (if found then next_of old.frame else last_of old.frame))
    (count : new.count ≡ old.count) (has_last : new.has_last ≡ found) (none : last_of old.frame ≡ next_of old.frame → found ≡ false) (file f : List ℕ) (same : f ≡ file)
    (told : (j : Journal) (body : List ℕ) → IsOldOrNew j body file → j.gate ≡ last_of old.frame → next_of old.frame ≡ last_of old.frame + (5 + length body) → IsJournal f (if found then grown body j else j)) where
  -- the store after it, where the change isn't there
  level_new : found ≡ false → (now : Standing) → now.journal.gate ≡ last_of old.frame → length now.journal.second ≡ old.count → IsLevel new now
  level_new lost now at number = record { next = next ∙ ap (λ (t : Bool). if t then next_of old.frame else last_of old.frame) lost ∙ sym last; gate = at ∙ sym last; count = number ∙ sym count }

  here_new : (now : Standing) → state_of file ≡ Ok now → now.journal.version ≡ 2 → now.journal.gate ≡ (if found then next_of old.frame else last_of old.frame) → length now.journal.second ≡ (if found then old.count + 1 else old.count) → IsHere new f now
  here_new now stood version at number = record {
    stands = ap state_of same ∙ stood;
    version = version;
    gate = λ ready. at ∙ sym gate;
    count = λ ready. number ∙ sym (λ i. if has_last i then count i + 1 else count i);
  }

  -- where nothing was tried
  pub reopened_level : (head : Head) (d : Durable) (pending asked : Option Change) (k : Knows old head d pending file) → IsLevel old k.now → k.now.state ≡ d → found ≡ false → Knows new head d asked f
  reopened_level head d pending asked k level state lost =
      let at : k.now.journal.gate ≡ (if found then next_of old.frame else last_of old.frame) = level.gate ∙ sym (ap (λ (t : Bool). if t then next_of old.frame else last_of old.frame) lost) in
      let number : length k.now.journal.second ≡ (if found then old.count + 1 else old.count) = level.count ∙ sym (ap (λ (t : Bool). if t then old.count + 1 else old.count) lost) in
      record { now = k.now; here = here_new k.now k.here.stands k.here.version at number; own = k.own; tried = inl (level_new lost k.now level.gate level.count, state) }

  module _ (now was : Standing) (c : Change) (stood : state_of file ≡ Ok now) (t : IsTried old file now was c) where
    body : List ℕ
    body = body_of (Some (next_number was.journal)) c

    behind : next_of old.frame ≡ last_of old.frame + (5 + length (body_of (Some (next_number was.journal)) c))
    behind = omega (arith, t.next, entry_is (next_number was.journal) c)

    journal : IsJournal f (if found then grown (body_of (Some (next_number was.journal)) c) was.journal else was.journal)
    journal = told was.journal (body_of (Some (next_number was.journal)) c) (old_or_new was now c file stood t.either) t.gate behind

    -- which of both it is
    pub is_there : found ≡ true → now ≡ after was c
    is_there open_gate = ⊎_elim
        (λ (old_one : now ≡ was).
        let there = subst (λ (b : Bool). IsJournal f (if b then grown (body_of (Some (next_number was.journal)) c) was.journal else was.journal)) open_gate journal in
        let journals : now.journal ≡ grown (body_of (Some (next_number was.journal)) c) was.journal = same_journal f now (grown (body_of (Some (next_number was.journal)) c) was.journal) (ap state_of same ∙ stood) there in
        let gates : was.journal.gate ≡ was.journal.gate + (5 + length (body_of (Some (next_number was.journal)) c)) = sym (ap (λ (s : Standing). s.journal.gate) old_one) ∙ ap (λ (j : Journal). j.gate) journals in
        absurd (omega (arith, gates)))
        (λ (new_one : now ≡ after was c). new_one) t.either

    pub is_not_there : found ≡ false → now ≡ was
    is_not_there lost = ⊎_elim (λ (old_one : now ≡ was). old_one)
        (λ (new_one : now ≡ after was c).
        let there = subst (λ (b : Bool). IsJournal f (if b then grown (body_of (Some (next_number was.journal)) c) was.journal else was.journal)) lost journal in
        let journals : now.journal ≡ was.journal = same_journal f now was.journal (ap state_of same ∙ stood) there in
        let gates : was.journal.gate + (5 + length (body_of (Some (next_number was.journal)) c)) ≡ was.journal.gate = sym (ap (λ (s : Standing). s.journal.gate) new_one) ∙ ap (λ (j : Journal). j.gate) journals in
        absurd (omega (arith, gates))) t.either

    pub tried_new : found ≡ true → now ≡ after was c → IsTried new f now was c
    tried_new open_gate there =
        let next_same : next_of new.frame ≡ next_of old.frame = next ∙ ap (λ (b : Bool). if b then next_of old.frame else last_of old.frame) open_gate in
        let after_there : IsJournal f (grown (body_of (Some (next_number was.journal)) c) was.journal) = subst (λ (b : Bool). IsJournal f (if b then grown (body_of (Some (next_number was.journal)) c) was.journal else was.journal)) open_gate journal in
        record {
          made = t.made;
          recordable = t.recordable;
          fits = t.fits;
          gate = t.gate ∙ sym last;
          next = omega (arith, next_same, last, t.next);
          count = t.count ∙ sym count;
          either = inr there;
          behind = λ is_found. last_is_behind was.journal (body_of (Some (next_number was.journal)) c) f after_there;
        }

    pub here_there : found ≡ true → now ≡ after was c → now.journal.version ≡ 2 → IsHere new f now
    here_there open_gate there version =
        let at : now.journal.gate ≡ next_of old.frame = ap (λ (s : Standing). s.journal.gate) there ∙ omega (arith, t.gate, behind) in
        let number : length now.journal.second ≡ old.count + 1 = ap (λ (s : Standing). length s.journal.second) there ∙ omega (arith, length-append was.journal.second (body_of (Some (next_number was.journal)) c ∷ []), t.count) in
        here_new now stood version (at ∙ sym (ap (λ (b : Bool). if b then next_of old.frame else last_of old.frame) open_gate)) (number ∙ sym (ap (λ (b : Bool). if b then old.count + 1 else old.count) open_gate))

    pub here_level : found ≡ false → now ≡ was → now.journal.version ≡ 2 → IsHere new f now × IsLevel new now
    here_level lost there version =
        let at : now.journal.gate ≡ last_of old.frame = ap (λ (s : Standing). s.journal.gate) there ∙ t.gate in
        let number : length now.journal.second ≡ old.count = ap (λ (s : Standing). length s.journal.second) there ∙ t.count in
        (here_new now stood version (at ∙ sym (ap (λ (b : Bool). if b then next_of old.frame else last_of old.frame) lost)) (number ∙ sym (ap (λ (b : Bool). if b then old.count + 1 else old.count) lost)), level_new lost now at number)

  -- what is held then, and what still is
  module _ (head : Head) (d : Durable) (pending : Option Change) (k : Knows old head d pending file) where
    pub reopened_held : (b : Bool) → found ≡ b → Knows new head (if b then taken d pending else d) None f
    reopened_held true open_gate = ⊎_elim
        (λ (level : IsLevel old k.now × (k.now.state ≡ d)). absurd (true≢false (sym open_gate ∙ none (sym level.0.next))))
        (λ (tried : (was : Standing) × (c : Change) × IsTried old file k.now was c × Speaks was c k.now d pending).
        let there = is_there k.now tried.0 tried.1 k.here.stands tried.2 open_gate in
        let held : Knows new head (taken d pending) None f = record {
          now = k.now;
          here = here_there k.now tried.0 tried.1 k.here.stands tried.2 open_gate there k.here.version;
          own = k.own;
          tried = inr (tried.0, tried.1, tried_new k.now tried.0 tried.1 k.here.stands tried.2 open_gate there, taken_state tried.0 k.now tried.1 d pending there tried.3);
        } in held) k.tried
    reopened_held false lost = ⊎_elim
        (λ (level : IsLevel old k.now × (k.now.state ≡ d)). reopened_level head d pending None k level.0 level.1 lost)
        (λ (tried : (was : Standing) × (c : Change) × IsTried old file k.now was c × Speaks was c k.now d pending).
        let there = is_not_there k.now tried.0 tried.1 k.here.stands tried.2 lost in
        let both = here_level k.now tried.0 tried.1 k.here.stands tried.2 lost there k.here.version in
        let held : Knows new head d None f = record { now = k.now; here = both.0; own = k.own; tried = inl (both.1, old_state tried.0 k.now tried.1 d pending there tried.3) } in
        held) k.tried

    pub reopened_still : (b : Bool) → found ≡ b → Knows new head d pending f
    reopened_still true open_gate = ⊎_elim
        (λ (level : IsLevel old k.now × (k.now.state ≡ d)). absurd (true≢false (sym open_gate ∙ none (sym level.0.next))))
        (λ (tried : (was : Standing) × (c : Change) × IsTried old file k.now was c × Speaks was c k.now d pending).
        let there = is_there k.now tried.0 tried.1 k.here.stands tried.2 open_gate in
        let held : Knows new head d pending f = record {
          now = k.now;
          here = here_there k.now tried.0 tried.1 k.here.stands tried.2 open_gate there k.here.version;
          own = k.own;
          tried = inr (tried.0, tried.1, tried_new k.now tried.0 tried.1 k.here.stands tried.2 open_gate there, tried.3);
        } in held) k.tried
    reopened_still false lost = ⊎_elim
        (λ (level : IsLevel old k.now × (k.now.state ≡ d)). reopened_level head d pending pending k level.0 level.1 lost)
        (λ (tried : (was : Standing) × (c : Change) × IsTried old file k.now was c × Speaks was c k.now d pending).
        let there = is_not_there k.now tried.0 tried.1 k.here.stands tried.2 lost in
        let both = here_level k.now tried.0 tried.1 k.here.stands tried.2 lost there k.here.version in
        let held : Knows new head d pending f = record { now = k.now; here = both.0; own = k.own; tried = inl (both.1, old_state tried.0 k.now tried.1 d pending there tried.3) } in
        held) k.tried

-- ---- dropping

-- the change that was found
pub record Found {D : Type 0} {disk : Ghosts D} (store : Store D disk) (head : Head) (d : Durable) (c : Change) (file : List ℕ) : Type 0 where
  pub now : Standing
  pub was : Standing
  pub own : of_set head was.journal.head ≡ Ok tt
  pub version : was.journal.version ≡ 2
  pub state : was.state ≡ d
  pub tried : IsTried store file now was c
  pub has : HasBehind file was.journal (body_of (Some (next_number was.journal)) c)

module _ {D : Type 0} {disk : Ghosts D} (old : Store D disk) (head : Head) (d : Durable) (c : Change) (file : List ℕ) (k : Knows old head d (Some c) file) (found : HasFound old) where
  own_was : (now was : Standing) (e : Change) → of_set head now.journal.head ≡ Ok tt → (now ≡ was) ⊎ (now ≡ after was e) → of_set head was.journal.head ≡ Ok tt
  own_was now was e own (inl same) = subst (λ (s : Standing). of_set head s.journal.head ≡ Ok tt) same own
  own_was now was e own (inr same) = subst (λ (s : Standing). of_set head s.journal.head ≡ Ok tt) same own

  pub found_it : Found old head d c file
  found_it = ⊎_elim
      (λ (level : IsLevel old k.now × (k.now.state ≡ d)). let later = old.frame.found found in absurd (omega (arith, level.0.next, later)))
      (λ (tried : (was : Standing) × (e : Change) × IsTried old file k.now was e × Speaks was e k.now d (Some c)).
      let t = subst (λ (e : Change). IsTried old file k.now tried.0 e) (sym tried.3.0) tried.2 in
      let has = t.behind found in
      let there : Found old head d c file = record { now = k.now; was = tried.0; own = own_was k.now tried.0 tried.1 k.own tried.2.either; version = has.version; state = tried.3.1; tried = t; has = has } in
      there) k.tried

module _ {D : Type 0} {disk : Ghosts D} (old : Store D disk) (head : Head) (d : Durable) (c : Change) (file : List ℕ) (x : Found old head d c file) where
  -- what a crash leaves, and what it reads as
  pub dropped_either : (f : List ℕ) → IsOldOrNew x.was.journal (body_of (Some (next_number x.was.journal)) c) f → StandsForSome head d (Some c) f
  dropped_either f is = either_for head d x.was c f x.own x.state (old_or_after x.was c x.tried.made x.tried.recordable x.tried.fits f is)

  module _ (new : Store D disk) (gate : gate_of new.frame ≡ last_of old.frame) (last : last_of new.frame ≡ last_of old.frame) (next : next_of new.frame ≡ next_of old.frame) (count : new.count ≡ old.count) (has_last : new.has_last ≡ false) (f : List ℕ)
      (has : HasBehind f x.was.journal (body_of (Some (next_number x.was.journal)) c)) where
    tried_after : (now : Standing) → (now ≡ x.was) ⊎ (now ≡ after x.was c) → IsTried new f now x.was c
    tried_after now which = record {
      made = x.tried.made;
      recordable = x.tried.recordable;
      fits = x.tried.fits;
      gate = x.tried.gate ∙ sym last;
      next = omega (arith, next, last, x.tried.next);
      count = x.tried.count ∙ sym count;
      either = which;
      behind = λ found. has;
    }

    here_after : IsJournal f x.was.journal → IsHere new f x.was
    here_after is = record {
      stands = stands f x.was.journal x.was.state is x.tried.made;
      version = x.version;
      gate = λ ready. x.tried.gate ∙ sym gate;
      count = λ ready. x.tried.count ∙ sym count ∙ sym (ap (λ (t : Bool). if t then new.count + 1 else new.count) has_last);
    }

    pub dropped_knows : IsJournal f x.was.journal → Knows new head d None f
    dropped_knows is = record { now = x.was; here = here_after is; own = x.own; tried = inr (x.was, c, tried_after x.was (inl refl), x.state) }

    pub dropped_still : IsJournal f x.was.journal → Knows new head d (Some c) f
    dropped_still is = record { now = x.was; here = here_after is; own = x.own; tried = inr (x.was, c, tried_after x.was (inl refl), (refl, x.state)) }

    -- and after a fault
    pub undropped_still : ¬ IsReady new → Knows new head d (Some c) f
    undropped_still must_reopen = by (old_or_after x.was c x.tried.made x.tried.recordable x.tried.fits f (torn_old_or_new x.was.journal (body_of (Some (next_number x.was.journal)) c) f has x.was.journal.gate refl f (same_torn f x.was.journal.gate 1)))
      where
        here : (now : Standing) → state_of f ≡ Ok now → now.journal.version ≡ 2 → IsHere new f now
        here now stood version = record { stands = stood; version = version; gate = λ ready. absurd (must_reopen ready); count = λ ready. absurd (must_reopen ready) }

        by : (state_of f ≡ Ok x.was) ⊎ (state_of f ≡ Ok (after x.was c)) → Knows new head d (Some c) f
        by (inl stood) = record { now = x.was; here = here x.was stood x.version; own = x.own; tried = inr (x.was, c, tried_after x.was (inl refl), (refl, x.state)) }
        by (inr stood) = record { now = after x.was c; here = here (after x.was c) stood x.version; own = x.own; tried = inr (x.was, c, tried_after (after x.was c) (inr refl), (refl, x.state)) }

-- ---- an append that is forgotten

module _ {D : Type 0} {disk : Ghosts D} (old new : Store D disk) (ready : IsReady old) (same : disk_of new ≡ disk_of old) (gate : gate_of new.frame ≡ gate_of old.frame)
    (none : next_of new.frame ≡ last_of new.frame) (level : last_of new.frame ≡ gate_of new.frame) (count : new.count ≡ counted old) (has_last : new.has_last ≡ false) where
  counted_now : counted new ≡ counted old
  counted_now = ap (λ (b : Bool). if b then new.count + 1 else new.count) has_last ∙ count

  forgotten_knows : (head : Head) (d : Durable) (file : List ℕ) → Knows old head d None file → Knows new head d None file
  forgotten_knows head d file k = record {
    now = k.now;
    here = record { stands = k.here.stands; version = k.here.version; gate = λ r. k.here.gate ready ∙ sym gate; count = λ r. k.here.count ready ∙ sym counted_now };
    own = k.own;
    tried = inl (record { next = none; gate = k.here.gate ready ∙ sym gate ∙ sym level; count = k.here.count ready ∙ sym count }, state_is old head d file k);
  }

  pub forgotten : (head : Head) (d : Durable) → Holds old head d None → Holds new head d None
  forgotten head d h = record {
    stands = subst (λ (e : D). Reads (disk.told e) (StandsForSome head d None)) (sym same) h.stands;
    leaves = subst (λ (e : D). Leaves (disk.told e) (StandsForSome head d None)) (sym same) h.leaves;
    knows = λ tells. subst (λ (e : D). Knows new head d None (disk.told e).reads_as) (sym same) (forgotten_knows head d (told_of old).reads_as (h.knows (subst (λ (e : D). IsTrue (disk.told e).tells_reads) same tells)));
  }

-- where there is nothing to forget, a change may be pending that isn't there
module _ {D : Type 0} {disk : Ghosts D} (store : Store D disk) (head : Head) (d : Durable) (c : Change) (calm : IsCalm store) where
  not_tried : (file : List ℕ) (now was : Standing) (c : Change) → IsTried store file now was c → ⊥
  unfolding entry_len
  not_tried file now was c t = omega (arith, calm, t.next)

  awaits_knows : (file : List ℕ) → Knows store head d None file → Knows store head d (Some c) file
  awaits_knows file k = record {
    now = k.now;
    here = k.here;
    own = k.own;
    tried = ⊎_elim (λ l. inl l) (λ (t : (was : Standing) × (other : Change) × IsTried store file k.now was other × Speaks was other k.now d None). absurd (not_tried file k.now t.0 t.1 t.2)) k.tried;
  }

  pub calm_awaits : Holds store head d None → Holds store head d (Some c)
  calm_awaits h = record {
    stands = λ tells. inl (h.stands tells);
    leaves = λ honest file left. inl (h.leaves honest file left);
    knows = λ tells. awaits_knows (told_of store).reads_as (h.knows tells);
  }
