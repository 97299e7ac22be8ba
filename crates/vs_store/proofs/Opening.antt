-- How a set's journal is opened.
use Rattle.std.proofs.Common.{◌≡◌, ◌≢◌, ◌⊎◌, ⊎_elim, inl, inr, ℕ, ◌+◌, ◌<◌, ◌≤◌, Bool, false, List, [], length, None, Result, Ok, Err, if◌then◌else◌, IsTrue, refl, sym, ap, subst, ◌∙◌, arith}
use Rattle.std.specs.Prelude.{IsOkAnd}
use Rattle.std.proofs.lemmas.Bool.{cases_eq}
use Rattle.vs_disk.specs.declared.disk.Disk.{Ghosts}
use Rattle.vs_disk.specs.Told.{Told, Reads, IsSynced, Failed}
use Rattle.vs_disk.specs.Model.{Torn, Keeps, IsLawful, LeavesThrough}
use Rattle.vs_disk.specs.Kept.{same_torn}
use Rattle.vs_disk.proofs.Runs.{joined_through, weakened_through}
use Rattle.vs_frame.specs.declared.frame.Frame.{Frame}
use Rattle.vs_frame.specs.Frame.{told_of as frame_told, version_of, gate_of, last_of, next_of, IsAtEndOf}
use Rattle.vs_frame.specs.Journal.{Journal, IsJournal, IsOldOrMigrated, migrated}
use Rattle.vs_frame.specs.Reading.{journal_of, cut_at, HasNoBodies}
use Rattle.vs_frame.specs.Unwritten.{IsUnwritten, TornOf}
use Rattle.vs_frame.specs.declared.fault.FrameFault.{FrameFault}
use Rattle.vs_frame.specs.declared.fault.FrameFault.TheVariants as frame
use Rattle.vs_frame.specs.declared.head.Head.{Head}
use Rattle.vs_record.specs.Durable.{Durable, booted}
use Rattle.vs_store.specs.declared.fault.StoreFault.{StoreFault}
use Rattle.vs_store.specs.declared.fault.StoreFault.TheVariants.{Full, DiskFault, NotAJournal, OtherSet, OtherCount, NoMemory}
use Rattle.vs_store.specs.declared.store.Store.{Store}
use Rattle.vs_store.specs.Faults.{fault_of, IsRefusal, IsOfAppend}
use Rattle.vs_store.specs.Files.{StandsFor}
use Rattle.vs_store.specs.Holding.{Knows}
use Rattle.vs_store.specs.Opening.{IsOnItsWay, IsAsItWas, IsBeforeOrAsItWas, IsOpenedDisk, LeavesSame, HasRoom, IsTakenOver, IsOpened, IsTooLong, IsNotOpened}
use Rattle.vs_store.specs.Replay.{IsReadAs}
use Rattle.vs_store.specs.Standing.{Standing, failing, wrong_in, standing_by, state_of, folded, of_set, opened_by, opened, fresh, in_version_2}
use Rattle.vs_store.specs.Store.{told_of, IsReady}
use Rattle.vs_store.proofs.Folding.{folded_alone, folded_none}
use Rattle.vs_store.proofs.Holding.{holds_synced}
use Rattle.vs_store.proofs.Standings.{parts, is_journal, stands, Opens, opens, opened_is, ok_and, is_ok_and, own_head, fresh_is, no_second, in_2_is, in_2_same, migrated_stands}
use Rattle.vs_store.proofs.Told.{keeps_then, unwritten_then, unwritten_same}

-- ---- a call that writes nothing, in front of others

module _ (a b : Told) (u : IsUnwritten a b) (head : Head) where
  now_tells : IsTrue a.tells_reads → IsTrue b.tells_reads
  now_tells tells = u.keeps.reads ∙ tells

  now_some : (tells : IsTrue a.tells_reads) → a.reads_as ≢ [] → b.reads_as ≢ []
  now_some tells some none = some (sym (u.reads tells) ∙ none)

  pub disk_after : (c : Told) → IsOpenedDisk head b c → IsOpenedDisk head a c
  disk_after c x = record {
    keeps = keeps_then a b c u.keeps x.keeps;
    reads = λ tells some. subst (λ (f : List ℕ). IsAsItWas head f c.reads_as) (u.reads tells) (x.reads (now_tells tells) (now_some tells some));
    any_moment = λ tells some honest.
        let P = IsBeforeOrAsItWas head a in
        let so : (f : List ℕ) → IsBeforeOrAsItWas head b f → P f = λ f is. ⊎_elim (λ (left : b.may_leave f). inl (u.crash honest f left)) (λ (was : IsAsItWas head b.reads_as f). inr (subst (λ (l : List ℕ). IsAsItWas head l f) (u.reads tells) was)) is in
        joined_through a b c P u.keeps (weakened_through a b a.may_leave P (λ f left. inl left) u.any_moment) (weakened_through b c (IsBeforeOrAsItWas head b) P so (x.any_moment (now_tells tells) (now_some tells some))) honest;
    torn = λ tells none. subst (λ (f : List ℕ). Torn 0 38 f c.reads_as) (u.reads tells) (x.torn (now_tells tells) (u.reads tells ∙ none));
    torn_any_moment = λ tells none honest.
        let P = TornOf 0 38 a in
        joined_through a b c P u.keeps (weakened_through a b a.may_leave P (λ f left. (f, left, same_torn f 0 38)) u.any_moment)
        (weakened_through b c (TornOf 0 38 b) P (λ f from. (from.0, u.crash honest from.0 from.1, from.2)) (x.torn_any_moment (now_tells tells) (u.reads tells ∙ none))) honest;
  }

  pub opened_after : {D : Type 0} {ghosts : Ghosts D} (limit : ℕ) (store : Store D ghosts) (d : Durable) → IsOpened head limit b store d → IsOpened head limit a store d
  opened_after limit store d x = record {
    holds = x.holds;
    ready = x.ready;
    calm = x.calm;
    limit_is = x.limit_is;
    disk = disk_after (told_of store) x.disk;
    taken_over = λ tells some. subst (λ (f : List ℕ). IsOkAnd (opened head f) (IsTakenOver head limit d (told_of store).reads_as)) (u.reads tells) (x.taken_over (now_tells tells) (now_some tells some));
    fresh = λ tells none. x.fresh (now_tells tells) (u.reads tells ∙ none);
  }

  pub not_opened_after : (limit : ℕ) (fault : StoreFault) (c : Told) → IsNotOpened head limit b fault c → IsNotOpened head limit a fault c
  not_opened_after limit fault c x = record {
    disk = disk_after c x.disk;
    refused = λ refusal tells. let is = x.refused refusal (now_tells tells) in (λ none. is.0 (u.reads tells ∙ none), subst (λ (f : List ℕ). opened head f ≡ Err fault) (u.reads tells) is.1);
    full = x.full;
    full_is = λ len is tells. let long = x.full_is len is (now_tells tells) in (λ none. long.0 (u.reads tells ∙ none), subst (λ (f : List ℕ). IsOkAnd (opened head f) (IsTooLong len)) (u.reads tells) long.1);
    unwritten = λ other. unwritten_then a b c u (x.unwritten other);
    failed = λ is. let rose = x.failed is in omega (arith, rose, u.keeps.faults);
  }

  -- where nothing more is done
  pub disk_unwritten : Reads a (λ file. file ≢ []) → IsOpenedDisk head a b
  disk_unwritten some = record {
    keeps = u.keeps;
    reads = λ tells there. inl (u.reads tells);
    any_moment = λ tells there. weakened_through a b a.may_leave (IsBeforeOrAsItWas head a) (λ f left. inl left) u.any_moment;
    torn = λ tells none. absurd (some tells none);
    torn_any_moment = λ tells none. absurd (some tells none);
  }

-- ---- refusals

-- one of reading
pub not_read : (a b : Told) → IsUnwritten a b → (head : Head) (limit : ℕ) (e : StoreFault) → Reads a (λ file. file ≢ []) → (IsRefusal e → Reads a (λ file. opened head file ≡ Err e)) → ((len : ℕ) → e ≢ Full len) → (e ≡ DiskFault → Failed a b) → IsNotOpened head limit a e b
not_read a b u head limit e some refused cause failed = record {
  disk = disk_unwritten a b u head some;
  refused = λ refusal tells. (some tells, refused refusal tells);
  full = λ len is. absurd (cause len is);
  full_is = λ len is tells. absurd (cause len is);
  unwritten = λ other. u;
  failed = failed;
}

-- of a head or a first gate that is wrong
without_bodies : (place : ℕ) (r : Result Journal ℕ) → HasNoBodies r → wrong_in place r ≡ place
without_bodies place (Err p) none = refl
without_bodies place (Ok j) none =
    let made = folded_alone j none.1 ∙ ap (λ (l : List (List ℕ)). folded j.head.bucket_count (booted j.head.boot_first j.head.boot_count) 36 None l) none.0 ∙ folded_none j.head.bucket_count (booted j.head.boot_first j.head.boot_count) 36 None in
    ap (failing place) made

pub head_refused : (head : Head) (file : List ℕ) (e : FrameFault) → ((place : ℕ) → e ≡ frame.NotAJournal place → journal_of file ≡ Err place) → ((place : ℕ) → e ≡ frame.NotAJournal place → HasNoBodies (journal_of (cut_at place file))) → IsRefusal (fault_of e)
    → opened head file ≡ Err (fault_of e)
head_refused head file (frame.NotAJournal place) refused before refusal =
    ap (opened_by head) (ap (standing_by file) (refused place refl) ∙ ap (λ (p : ℕ). Err p) (without_bodies place (journal_of (cut_at place file)) (before place refl)))
head_refused head file frame.DiskFault refused before refusal = absurd refusal
head_refused head file frame.NoMemory refused before refusal = absurd refusal

pub not_full : (e : FrameFault) (len : ℕ) → fault_of e ≢ Full len
not_full (frame.NotAJournal place) len is = absurd cc
not_full frame.DiskFault len is = absurd cc
not_full frame.NoMemory len is = absurd cc

pub frame_failed : (e : FrameFault) → fault_of e ≡ DiskFault → e ≡ frame.DiskFault
frame_failed (frame.NotAJournal place) is = absurd cc
frame_failed frame.DiskFault is = refl
frame_failed frame.NoMemory is = absurd cc

-- ---- a journal in its last version

-- what a store is whose last append answered Ok, or that had none
module _ {D : Type 0} {disk : Ghosts D} (store : Store D disk) (head : Head) (d : Durable) (file : List ℕ) (now : Standing) (stood : state_of file ≡ Ok now) (version : now.journal.version ≡ 2) (gate : now.journal.gate ≡ gate_of store.frame) (count : length now.journal.second ≡ store.count)
    (last : store.has_last ≡ false) (next : next_of store.frame ≡ last_of store.frame) (level : last_of store.frame ≡ gate_of store.frame) (own : of_set head now.journal.head ≡ Ok tt) (state : now.state ≡ d) where
  pub level_knows : Knows store head d None file
  level_knows = record {
    now = now;
    here = record { stands = stood; version = version; gate = λ ready. gate; count = λ ready. count ∙ sym (ap (λ (t : Bool). if t then store.count + 1 else store.count) last) };
    own = own;
    tried = inl (record { next = next; gate = gate ∙ sym level; count = count }, state);
  }

-- a migration's file
pub on_its_way : (head : Head) (before file : List ℕ) (s : Standing) → opened head before ≡ Ok s → s.journal.version ≡ 1 → IsOldOrMigrated s.journal file → IsOnItsWay head before file
on_its_way head before file s is version either = record { from = s; opens = is; version = version; now = by either }
  where
    x : Opens head before s
    x = opens head before s is

    by : IsOldOrMigrated s.journal file → (opened head file ≡ Ok s) ⊎ (opened head file ≡ Ok (in_version_2 s))
    by (inl old) = inl (opened_is head file s (stands file s.journal s.state old (parts before s (opens head before s is).stands).made) (opens head before s is).own)
    by (inr new) =
        let in_2 : in_version_2 s ≡ record { journal = migrated s.journal; state = s.state } = in_2_is s version in
        let own : of_set head (in_version_2 s).journal.head ≡ Ok tt = ap (λ (t : Standing). of_set head t.journal.head) in_2 ∙ (opens head before s is).own in
        inr (opened_is head file (in_version_2 s) (migrated_stands before file s (opens head before s is).stands version new) own)

-- the disk of a migration, which begins with one that was read
pub disk_migrated : (a b c : Told) → IsUnwritten a b → Keeps b c → (head : Head) → Reads a (λ file. file ≢ [])
    → Reads a (λ file. IsOkAnd (opened head file) (λ s. (s.journal.version ≡ 1) × IsOldOrMigrated s.journal c.reads_as × LeavesThrough b c (IsOldOrMigrated s.journal))) → IsOpenedDisk head a c
disk_migrated a b c u keeps head some migrates = record {
  keeps = keeps_then a b c u.keeps keeps;
  reads = λ tells there. let m = ok_and _ (opened head a.reads_as) (migrates tells) in inr (on_its_way head a.reads_as c.reads_as m.0 m.1 m.2.0 m.2.1);
  any_moment = λ tells there honest.
      let m = ok_and _ (opened head a.reads_as) (migrates tells) in
      let P = IsBeforeOrAsItWas head a in
      joined_through a b c P u.keeps (weakened_through a b a.may_leave P (λ f left. inl left) u.any_moment) (weakened_through b c (IsOldOrMigrated m.0.journal) P (λ f either. inr (inr (on_its_way head a.reads_as f m.0 m.1 m.2.0 either))) m.2.2) honest;
  torn = λ tells none. absurd (some tells none);
  torn_any_moment = λ tells none. absurd (some tells none);
}

-- ---- a journal that was read, and is written in its last version

-- what it was read as, told of a place and a version that are the same
pub read_as : (r : Result Standing StoreFault) (place at count version named : ℕ) (d : Durable) → IsOkAnd r (IsReadAs place count version d) → at ≡ place → named ≡ version → IsOkAnd r (IsReadAs at count named d)
read_as (Ok s) place at count version named d is at_is named_is = record { gate = is.gate ∙ sym at_is; count_is = is.count_is; version_is = is.version_is ∙ sym named_is; state = is.state }
read_as (Err e) place at count version named d is at_is named_is = absurd is

one_or_two : (n : ℕ) → (1 ≤ n) × (n ≤ 2) → (n ≡ 1) ⊎ (n ≡ 2)
one_or_two n is = by (cases_eq n 1)
  where
    by : (n ≡ 1) ⊎ (n ≢ 1) → (n ≡ 1) ⊎ (n ≡ 2)
    by (inl one) = inl one
    by (inr other) = inr (omega (arith, other, is))

-- the file opens as the other did, in version 2, with this closed gate and so many bodies of the second part
pub record IsUpgraded (head : Head) (d : Durable) (before file : List ℕ) (gate count : ℕ) : Type 0 where
  pub from : Standing
  pub opens_as : opened head before ≡ Ok from
  pub state : from.state ≡ d
  pub now : state_of file ≡ Ok (in_version_2 from)
  pub version : (in_version_2 from).journal.version ≡ 2
  pub gate_is : (in_version_2 from).journal.gate ≡ gate
  pub count_is : length (in_version_2 from).journal.second ≡ count
  pub own : of_set head (in_version_2 from).journal.head ≡ Ok tt

upgraded_second : (head : Head) (d : Durable) (before file : List ℕ) (place count version : ℕ) → version ≡ 2 → file ≡ before → IsOkAnd (opened head before) (IsReadAs place count version d) → IsUpgraded head d before file place count
upgraded_second head d before file place count version two same read =
    let s = ok_and (IsReadAs place count version d) (opened head before) read in
    let named : s.0.journal.version ≡ 2 = s.2.version_is ∙ two in
    let in_2 : in_version_2 s.0 ≡ s.0 = in_2_same s.0 named in
    let x = opens head before s.0 s.1 in
    record {
      from = s.0;
      opens_as = s.1;
      state = s.2.state;
      now = ap state_of same ∙ x.stands ∙ ap (λ (t : Standing). Ok t) (sym in_2);
      version = ap (λ (t : Standing). t.journal.version) in_2 ∙ named;
      gate_is = ap (λ (t : Standing). t.journal.gate) in_2 ∙ s.2.gate;
      count_is = ap (λ (t : Standing). length t.journal.second) in_2 ∙ s.2.count_is;
      own = ap (λ (t : Standing). of_set head t.journal.head) in_2 ∙ x.own;
    }

upgraded_first : (head : Head) (d : Durable) (before file : List ℕ) (place count version : ℕ) → version ≡ 1 → ((j : Journal) → IsJournal before j → j.gate ≡ place → j.version ≡ version → IsJournal file (migrated j)) → IsOkAnd (opened head before) (IsReadAs place count version d)
    → IsUpgraded head d before file (place + 1) count
upgraded_first head d before file place count version one moves read =
    let s = ok_and (IsReadAs place count version d) (opened head before) read in
    let named : s.0.journal.version ≡ 1 = s.2.version_is ∙ one in
    let in_2 : in_version_2 s.0 ≡ record { journal = migrated s.0.journal; state = s.0.state } = in_2_is s.0 named in
    let x = opens head before s.0 s.1 in
    let journal = is_journal before s.0 x.stands in
    let none : s.0.journal.second ≡ [] = no_second before s.0.journal journal named in
    record {
      from = s.0;
      opens_as = s.1;
      state = s.2.state;
      now = migrated_stands before file s.0 x.stands named (moves s.0.journal journal s.2.gate s.2.version_is);
      version = ap (λ (t : Standing). t.journal.version) in_2;
      gate_is = ap (λ (t : Standing). t.journal.gate) in_2 ∙ ap (λ (n : ℕ). n + 1) s.2.gate;
      count_is = ap (λ (t : Standing). length t.journal.second) in_2 ∙ sym (ap (λ (l : List (List ℕ)). length l) none) ∙ s.2.count_is;
      own = ap (λ (t : Standing). of_set head t.journal.head) in_2 ∙ x.own;
    }

-- so it was opened
pub upgraded_opened : {D : Type 0} {ghosts : Ghosts D} (store : Store D ghosts) (head : Head) (limit : ℕ) (a : Told) (d : Durable) → IsLawful (told_of store) → IsSynced (told_of store) → IsReady store → store.limit ≡ limit → store.has_last ≡ false
    → next_of store.frame ≡ last_of store.frame → last_of store.frame ≡ gate_of store.frame → IsOpenedDisk head a (told_of store) → Reads a (λ file. file ≢ [])
    → Reads a (λ file. IsUpgraded head d file (told_of store).reads_as (gate_of store.frame) store.count) → Reads a (λ file. (s : Standing) → opened head file ≡ Ok s → HasRoom limit s) → IsOpened head limit a store d
upgraded_opened store head limit a d laws synced ready limit_is last next level on some upgraded room = record {
  holds = holds_synced store head d None laws synced
      (λ still.
      let x = upgraded (sym on.keeps.reads ∙ still) in
      level_knows store head d (told_of store).reads_as (in_version_2 x.from) x.now x.version x.gate_is x.count_is last next level x.own x.state);
  ready = ready;
  calm = next;
  limit_is = limit_is;
  disk = on;
  taken_over = λ tells there.
      let x = upgraded tells in
      is_ok_and (IsTakenOver head limit d (told_of store).reads_as) (opened head a.reads_as) x.from x.opens_as (record { state = x.state; room = room tells x.from x.opens_as; now = opened_is head (told_of store).reads_as (in_version_2 x.from) x.now x.own });
  fresh = λ tells none. absurd (some tells none);
}

-- a new one
pub fresh_opened : {D : Type 0} {ghosts : Ghosts D} (store : Store D ghosts) (head : Head) (limit : ℕ) (a : Told) (d : Durable) → IsLawful (told_of store) → IsSynced (told_of store) → IsReady store → store.limit ≡ limit → store.has_last ≡ false → store.count ≡ 0
    → next_of store.frame ≡ last_of store.frame → last_of store.frame ≡ gate_of store.frame → gate_of store.frame ≡ 37 → Keeps a (told_of store) → Reads a (λ file. file ≡ []) → Reads a (λ file. Torn 0 38 file (told_of store).reads_as)
    → LeavesThrough a (told_of store) (TornOf 0 38 a) → Reads (told_of store) (λ file. IsJournal file (fresh head).journal) → d ≡ booted head.boot_first head.boot_count → IsOpened head limit a store d
fresh_opened store head limit a d laws synced ready limit_is last count next level gate keeps none torn any_moment journal state = record {
  holds = holds_synced store head d None laws synced
      (λ still. level_knows store head d (told_of store).reads_as (fresh head) (fresh_is head (told_of store).reads_as (journal still)) refl (sym gate) (sym count) last next level (own_head head) (sym state));
  ready = ready;
  calm = next;
  limit_is = limit_is;
  disk = record {
    keeps = keeps;
    reads = λ tells some. absurd (some (none tells));
    any_moment = λ tells some. absurd (some (none tells));
    torn = λ tells empty. torn tells;
    torn_any_moment = λ tells empty. any_moment;
  };
  taken_over = λ tells some. absurd (some (none tells));
  fresh = λ tells empty.
      let still = keeps.reads ∙ tells in
      record { state = state; now = opened_is head (told_of store).reads_as (fresh head) (fresh_is head (told_of store).reads_as (journal still)) (own_head head) };
}

no_refusal : (e : StoreFault) → IsOfAppend e → ¬ IsRefusal e
no_refusal (Full len) of refusal = refusal
no_refusal DiskFault of refusal = refusal
no_refusal NoMemory of refusal = refusal
no_refusal (NotAJournal place) of refusal = of
no_refusal (OtherSet uuid) of refusal = of
no_refusal (OtherCount count) of refusal = of

module _ {D : Type 0} {ghosts : Ghosts D} (old new : Frame D ghosts) (a : Told) (u : IsUnwritten a (frame_told old)) (some : Reads a (λ file. file ≢ [])) (head : Head) (limit count : ℕ) (d : Durable) (read : Reads a (λ file. IsOkAnd (opened head file) (IsReadAs (gate_of old) count (version_of old) d)))
    (second : version_of old ≡ 2 → new ≡ old) (any_moment : version_of old ≡ 1 → (j : Journal) → IsJournal (frame_told old).reads_as j → IsAtEndOf old j → LeavesThrough (frame_told old) (frame_told new) (IsOldOrMigrated j))
    (reads : version_of old ≡ 1 → Reads (frame_told old) (λ file. (j : Journal) → IsJournal file j → IsAtEndOf old j → IsOldOrMigrated j (frame_told new).reads_as)) (keeps : Keeps (frame_told old) (frame_told new)) (laws : IsLawful (frame_told old)) where
  pub upgraded_disk : IsOpenedDisk head a (frame_told new)
  upgraded_disk = ⊎_elim
      (λ (one : version_of old ≡ 1).
      disk_migrated a (frame_told old) (frame_told new) u keeps head some
      (λ tells.
      let s = ok_and (IsReadAs (gate_of old) count (version_of old) d) (opened head a.reads_as) (read tells) in
      let still = u.keeps.reads ∙ tells in
      let journal = subst (λ (f : List ℕ). IsJournal f s.0.journal) (sym (u.reads tells)) (is_journal a.reads_as s.0 (opens head a.reads_as s.0 s.1).stands) in
      let at : IsAtEndOf old s.0.journal = record { gate = s.2.gate; version = s.2.version_is } in
      is_ok_and (λ t. (t.journal.version ≡ 1) × IsOldOrMigrated t.journal (frame_told new).reads_as × LeavesThrough (frame_told old) (frame_told new) (IsOldOrMigrated t.journal)) (opened head a.reads_as) s.0 s.1 (s.2.version_is ∙ one, reads one still s.0.journal journal at, any_moment one s.0.journal journal at)))
      (λ (two : version_of old ≡ 2). subst (λ (f : Frame D ghosts). IsOpenedDisk head a (frame_told f)) (sym (second two)) (disk_unwritten a (frame_told old) u head some)) (one_or_two (version_of old) old.version_known)

  pub is_upgraded : (version_of old ≡ 1 → gate_of new ≡ gate_of old + 1) → (version_of old ≡ 1 → Reads (frame_told old) (λ file. (j : Journal) → IsJournal file j → IsAtEndOf old j → IsJournal (frame_told new).reads_as (migrated j))) → Reads a (λ file. IsUpgraded head d file (frame_told new).reads_as (gate_of new) count)
  is_upgraded gate moves tells = ⊎_elim
      (λ (one : version_of old ≡ 1).
      let first = upgraded_first head d a.reads_as (frame_told new).reads_as (gate_of old) count (version_of old) one
      (λ j journal at named. moves one (u.keeps.reads ∙ tells) j (subst (λ (f : List ℕ). IsJournal f j) (sym (u.reads tells)) journal) (record { gate = at; version = named })) (read tells) in
      subst (λ (n : ℕ). IsUpgraded head d a.reads_as (frame_told new).reads_as n count) (sym (gate one)) first)
      (λ (two : version_of old ≡ 2).
      let same : (frame_told old).reads_as ≡ a.reads_as = u.reads tells in
      subst (λ (f : Frame D ghosts). IsUpgraded head d a.reads_as (frame_told f).reads_as (gate_of f) count) (sym (second two)) (upgraded_second head d a.reads_as (frame_told old).reads_as (gate_of old) count (version_of old) two same (read tells))) (one_or_two (version_of old) old.version_known)

  pub has_room : (version_of old ≡ 1 → gate_of old + 2 ≤ limit) → Reads a (λ file. (s : Standing) → opened head file ≡ Ok s → HasRoom limit s)
  has_room room tells s is version =
      let t = ok_and (IsReadAs (gate_of old) count (version_of old) d) (opened head a.reads_as) (read tells) in
      let both : ◌≡◌ {A = Result Standing StoreFault} (Ok t.0) (Ok s) = sym t.1 ∙ is in
      let same : t.0 ≡ s = cc in
      let long = room (sym t.2.version_is ∙ ap (λ (x : Standing). x.journal.version) same ∙ version) in
      let at : s.journal.gate ≡ gate_of old = sym (ap (λ (x : Standing). x.journal.gate) same) ∙ t.2.gate in
      omega (arith, at, long)

  pub not_upgraded : (e : StoreFault) → IsOfAppend e → ((len : ℕ) → e ≡ Full len → (version_of old ≡ 1) × (len ≡ gate_of old + 2) × (limit < len) × (new ≡ old)) → (e ≡ NoMemory → IsUnwritten (frame_told old) (frame_told new)) → (e ≡ DiskFault → Failed (frame_told old) (frame_told new))
      → IsNotOpened head limit a e (frame_told new)
  not_upgraded e of full memory fault = record {
    disk = upgraded_disk;
    refused = λ refusal. absurd (no_refusal e of refusal);
    full = λ len is. (full len is).2;
    full_is = λ len is tells.
        let t = ok_and (IsReadAs (gate_of old) count (version_of old) d) (opened head a.reads_as) (read tells) in
        let long = full len is in
        (some tells, is_ok_and (IsTooLong len) (opened head a.reads_as) t.0 t.1 (record { version = t.2.version_is ∙ long.0; len_is = omega (arith, long.1, t.2.gate) }));
    unwritten = λ other. unwritten_then a (frame_told old) (frame_told new) u (left e of full memory other);
    failed = λ is. let rose = fault is in omega (arith, rose, u.keeps.faults);
  }
    where
      left : (x : StoreFault) → IsOfAppend x → ((len : ℕ) → x ≡ Full len → (version_of old ≡ 1) × (len ≡ gate_of old + 2) × (limit < len) × (new ≡ old)) → (x ≡ NoMemory → IsUnwritten (frame_told old) (frame_told new)) → x ≢ DiskFault → IsUnwritten (frame_told old) (frame_told new)
      left (Full len) is long none other = subst (λ (f : Frame D ghosts). IsUnwritten (frame_told old) (frame_told f)) (sym (long len refl).3) (unwritten_same (frame_told old) laws)
      left NoMemory is long none other = none refl
      left DiskFault is long none other = absurd (other refl)
      left (NotAJournal place) is long none other = absurd is
      left (OtherSet uuid) is long none other = absurd is
      left (OtherCount n) is long none other = absurd is

-- ---- what every moment leaves

-- a file without bytes stands for nothing
stands_some : (head : Head) (d : Durable) (file : List ℕ) → StandsFor head d file → file ≢ []
stands_some head d file stood none = subst (StandsFor head d) none stood

as_it_was : (head : Head) (d : Durable) (file c : List ℕ) → StandsFor head d file → IsAsItWas head file c → StandsFor head d c
as_it_was head d file c stood (inl same) = subst (StandsFor head d) (sym same) stood
as_it_was head d file c stood (inr moving) =
    let s = ok_and (λ t. t.state ≡ d) (opened head file) stood in
    let both : ◌≡◌ {A = Result Standing StoreFault} (Ok s.0) (Ok moving.from) = sym s.1 ∙ moving.opens in
    let same : s.0 ≡ moving.from = cc in
    let state : moving.from.state ≡ d = sym (ap (λ (t : Standing). t.state) same) ∙ s.2 in
    ⊎_elim (λ (old : opened head c ≡ Ok moving.from). is_ok_and (λ t. t.state ≡ d) (opened head c) moving.from old state)
    (λ (new : opened head c ≡ Ok (in_version_2 moving.from)). is_ok_and (λ t. t.state ≡ d) (opened head c) (in_version_2 moving.from) new state) moving.now

pub leaves_same : (head : Head) (old new : Told) → IsLawful old → IsOpenedDisk head old new → LeavesSame head old new
leaves_same head old new laws on d reads leaves honest =
    let tells = laws.reads_too honest in
    let stood = reads tells in
    weakened_through old new (IsBeforeOrAsItWas head old) (StandsFor head d)
    (λ c is. ⊎_elim (λ (left : old.may_leave c). leaves honest c left) (λ (was : IsAsItWas head old.reads_as c). as_it_was head d old.reads_as c stood was) is)
    (on.any_moment tells (stands_some head d old.reads_as stood)) honest
