-- What good files and disks may still end with.
use Rattle.std.proofs.Common.{◌≡◌, ◌≤◌, ℕ, zero, suc, List, [], ◌∷◌, length, take, Result, Ok, Err, Some, sym, ap, subst, arith}
use Rattle.std.specs.Prelude.{slice_get, IsOkAnd}
use Rattle.vs_config.specs.Configuration.{Configuration}
use Rattle.vs_disk.specs.Told as disk
use Rattle.vs_event.specs.declared.event.Event.{Event}
use Rattle.vs_event.specs.declared.reason.Reason.{Reason}
use Rattle.vs_machine.specs.Check.{◌>>=◌}
use Rattle.vs_machine.specs.State.{State}
use Rattle.vs_machine.specs.Step.{step, run}
use Rattle.vs_script.specs.Scripts.{Scripts}
use Rattle.vs_store.specs.Opening as opening
use Rattle.vs_store.specs.Standing.{Standing, opened}
use Rattle.vs_store.specs.declared.fault.StoreFault.{StoreFault}
use Rattle.vs_store.specs.declared.fault.StoreFault.TheVariants as store
use Rattle.vs_store.specs.Faults.{IsRefusal}
use Rattle.vs_stores.specs.Numbered.{at_number}
use Rattle.vs_stores.proofs.Lists.{get_within}
use Rattle.vs_world.specs.Began.{start_of}
use Rattle.vs_world.specs.Journals.{head_of}
use Rattle.vs_world.specs.NotOpened.{IsNotOpened, IsRefusedAt as IsJournalRefusedAt}
use Rattle.vs_world.specs.declared.fault.WorldFault.{WorldFault}
use Rattle.vs_world.specs.declared.fault.WorldFault.TheVariants as world
use Rattle.vs_top.specs.declared.play.PlayFault.{PlayFault}
use Rattle.vs_top.specs.declared.play.PlayFault.TheVariants as play
use Rattle.vs_top.specs.Endings.{AreGoodDisks, ArePossible, MayEndGood, MayEndPossible}
use Rattle.vs_top.specs.Faults.{from_opening, from_play}
use Rattle.vs_top.specs.Plays.{IsPlayCause, played_on, journal_limit}

-- ---- a run has no event that is refused

after : (r : Result State Reason) (events : List Event) (i : ℕ) (e : Event) (reason : Reason) (before last : State) → ((s : State) → run s (take i events) ≡ Ok before → slice_get events i ≡ Some e → step before e ≡ Err reason → run s events ≡ Ok last → ⊥)
    → (r >>= (λ s. run s (take i events))) ≡ Ok before → slice_get events i ≡ Some e → step before e ≡ Err reason → (r >>= (λ s. run s events)) ≡ Ok last → ⊥
after (Ok s) events i e reason before last rest ran there refused all = rest s ran there refused all
after (Err r) events i e reason before last rest ran there refused all = cc ran

none_refused : (s : State) (events : List Event) (i : ℕ) (e : Event) (reason : Reason) (before last : State) → run s (take i events) ≡ Ok before → slice_get events i ≡ Some e → step before e ≡ Err reason → run s events ≡ Ok last → ⊥
none_refused s [] i e reason before last ran there refused all = cc there
none_refused s (x ∷ xs) zero e reason before last ran there refused all =
    let same : s ≡ before = cc ran in
    let first : x ≡ e = cc there in
    let is : step s x ≡ Err reason = rw (same, first) refused in
    let stops : (step s x >>= (λ t. run t xs)) ≡ Err reason = ap (λ r. r >>= (λ t. run t xs)) is in
    cc (stops, all)
none_refused s (x ∷ xs) (suc i) e reason before last ran there refused all =
    after (step s x) xs i e reason before last (λ t. none_refused t xs i e reason before last) ran there refused all

-- ---- the journals of good disks aren't refused

-- a list of 32 has an item of each number from 1 to 32
pub has_item : {A : Type 0} (xs : List A) (x : ℕ) → length xs ≡ 32 → 1 ≤ x → x ≤ 32 → (a : A) × (at_number xs x ≡ Some a)
has_item xs zero count first last = absurd (omega (arith, first))
has_item xs (suc i) count first last = get_within xs i (omega (arith, count, last))

-- what opens isn't refused
not_both : (r : Result Standing StoreFault) (fault : StoreFault) (limit : ℕ) → r ≡ Err fault → IsOkAnd r (opening.HasRoom limit) → ⊥
not_both (Ok s) fault limit refused opens = cc refused
not_both (Err e) fault limit refused opens = opens

module _ {D : Type 0} (tells : D → disk.Told) (config : Configuration) (before after : List D) (count : length before ≡ 32) (count_after : length after ≡ 32) (few : length config.sets ≤ 32) (good : AreGoodDisks tells config before) where
  pub none_refused_by_bytes : (x : ℕ) (fault : StoreFault) → IsRefusal fault → IsJournalRefusedAt tells config journal_limit before after x fault → ⊥
  none_refused_by_bytes x fault by r =
      let was = has_item before x count r.set.0 (omega (arith, r.set.1, few)) in
      let is = has_item after x count_after r.set.0 (omega (arith, r.set.1, few)) in
      let why = (r.refused was.0 is.0 was.1 is.1).refused by (good.tell x was.0 r.set was.1) in
      not_both (opened (head_of config x) (tells was.0).reads_as) fault journal_limit why.1 (good.whole x was.0 r.set was.1 why.0)

  opening_good : (fault : WorldFault) → IsNotOpened tells config journal_limit before fault after → MayEndGood (from_opening fault config)
  opening_good (world.OfSet x store.DiskFault) refused = tt
  opening_good (world.OfSet x (store.Full len)) refused = tt
  opening_good (world.OfSet x store.NoMemory) refused = tt
  opening_good (world.OfSet x (store.NotAJournal place)) refused = none_refused_by_bytes x (store.NotAJournal place) tt refused.cause
  opening_good (world.OfSet x (store.OtherSet uuid)) refused = none_refused_by_bytes x (store.OtherSet uuid) tt refused.cause
  opening_good (world.OfSet x (store.OtherCount n)) refused = none_refused_by_bytes x (store.OtherCount n) tt refused.cause
  opening_good (world.Incoherent bucket entries) refused =
      let at = refused.cause in
      at.least.incoherent (good.fit at.states at.stood_for at.no_others bucket at.least.first at.least.last)
  opening_good world.NoMemory refused = tt

  module _ (scripts : Scripts) (events : List Event) where
    pub good_fault : (fault : PlayFault) → IsPlayCause fault (played_on tells config scripts events before after) → MayEndGood (from_play fault config)
    good_fault (play.Opening fault) cause = opening_good fault cause
    good_fault (play.Event number reason) cause = tt
    good_fault (play.Disk number x) cause = tt
    good_fault (play.Full number x) cause = tt
    good_fault play.NoMemory cause = tt

    possible_opening : (fault : WorldFault) → MayEndGood (from_opening fault config) → MayEndPossible (from_opening fault config)
    possible_opening (world.OfSet x store.DiskFault) may = may
    possible_opening (world.OfSet x (store.Full len)) may = may
    possible_opening (world.OfSet x store.NoMemory) may = may
    possible_opening (world.OfSet x (store.NotAJournal place)) may = may
    possible_opening (world.OfSet x (store.OtherSet uuid)) may = may
    possible_opening (world.OfSet x (store.OtherCount n)) may = may
    possible_opening (world.Incoherent bucket entries) may = may
    possible_opening world.NoMemory may = may

    -- and where all events are possible, none is refused
    pub possible_fault : (fault : PlayFault) → IsPlayCause fault (played_on tells config scripts events before after) → ArePossible (played_on tells config scripts events before after) → MayEndPossible (from_play fault config)
    possible_fault (play.Opening fault) cause can = possible_opening fault (opening_good fault cause)
    possible_fault (play.Event number reason) cause can =
        let at = cause.2 in
        let reaches = at.reaches in
        let all = can reaches.began reaches.begun in
        absurd (none_refused (start_of reaches.began) events cause.0 at.event reason at.before all.0 reaches.ran reaches.there at.refused all.1)
    possible_fault (play.Disk number x) cause can = tt
    possible_fault (play.Full number x) cause can = tt
    possible_fault play.NoMemory cause can = tt

-- disks that are good with these texts are so with equal ones
pub good_as : {D : Type 0} (tells : D → disk.Told) (config config' : Configuration) (disks : List D) → config ≡ config' → AreGoodDisks tells config' disks → AreGoodDisks tells config disks
good_as tells config config' disks same good = subst (λ (c : Configuration). AreGoodDisks tells c disks) (sym same) good

pub possible_as : {D : Type 0} (tells : D → disk.Told) (config config' : Configuration) (scripts scripts' : Scripts) (events events' : List Event) (before after : List D) → config ≡ config' → scripts ≡ scripts' → events ≡ events'
    → ArePossible (played_on tells config' scripts' events' before after) → ArePossible (played_on tells config scripts events before after)
possible_as tells config config' scripts scripts' events events' before after c s e can =
    subst (λ (x : Configuration). ArePossible (played_on tells x scripts events before after)) (sym c)
    (subst (λ (x : Scripts). ArePossible (played_on tells config' x events before after)) (sym s)
    (subst (λ (x : List Event). ArePossible (played_on tells config' scripts' x before after)) (sym e) can))
