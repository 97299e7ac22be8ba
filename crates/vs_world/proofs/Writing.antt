-- An event whose change is written to the journal of its set.
use Rattle.std.proofs.Common.{◌≡◌, ◌≢◌, ◌⊎◌, inl, inr, ⊎_elim, ℕ, ◌≤◌, true, false, List, [], ◌∷◌, ◌++◌, length, Option, Some, None, Ok, refl, sym, ap, subst, ◌∙◌, arith}
use Rattle.std.proofs.lemmas.Bool.{cases_eq}
use Rattle.vs_base.specs.Listed.{Listed}
use Rattle.vs_config.specs.Configuration.{Configuration}
use Rattle.vs_core.specs.Core as core
use Rattle.vs_core.specs.Records.{records}
use Rattle.vs_core.proofs.Journaled.{records_written}
use Rattle.vs_disk.specs.declared.disk.Disk.{Ghosts}
use Rattle.vs_disk.specs.Told.{Failed}
use Rattle.vs_disk.specs.Model.{IsLawful, LeavesThrough}
use Rattle.vs_disk.proofs.Runs.{weakened, weakened_through}
use Rattle.vs_event.specs.declared.event.Event.{Event}
use Rattle.vs_event.specs.declared.event.Event.TheVariants.{Fault, Restart}
use Rattle.vs_event.specs.declared.event.Recorded.{Recorded}
use Rattle.vs_event.specs.Recorded.{event_of}
use Rattle.vs_record.specs.Change.{Change}
use Rattle.vs_machine.specs.Journals.{durable_of, written, IsNoRestart, MayWrite, KeepsJournals}
use Rattle.vs_machine.specs.Kinds.Stops.{Recording, recording_of, is_next_fault}
use Rattle.vs_machine.specs.Laws.{PendingRuns, WrittenRuns, WrittenEvents, FaultRuns, KeptInputs}
use Rattle.vs_machine.specs.Runs.{IsReached}
use Rattle.vs_machine.specs.State.{State}
use Rattle.vs_machine.specs.Step.{step}
use Rattle.vs_machine.specs.Tables.{put, is_to}
use Rattle.vs_machine.proofs.Can.Stops.{CanFault, can_fault}
use Rattle.vs_machine.proofs.Frame.{put_here}
use Rattle.vs_state.specs.Guard.{verdict}
use Rattle.vs_store.specs.Files.{StandsFor, StandsForSome}
use Rattle.vs_store.specs.Holding.{Holds}
use Rattle.vs_store.specs.Store as store
use Rattle.vs_store.specs.Store.{told_of}
use Rattle.vs_store.specs.declared.store.Store.{Store}
use Rattle.vs_store.proofs.Holding.{may_append}
use Rattle.vs_stores.specs.Calls.{AcceptsAt, IsMade, IsPending, IsRefused, IsTooLong as IsTooLongAt, IsSafeThrough as IsStoreSafe}
use Rattle.vs_stores.specs.Due.{Due, made, awaiting}
use Rattle.vs_stores.specs.Stores.{HasSet, KeepsOthers, OfBoth, IsReadyAt, store_at, faults_at}
use Rattle.vs_stores.specs.declared.stores.Stores.{Stores}
use Rattle.vs_world.specs.Began.{begun}
use Rattle.vs_world.specs.declared.opening.Opening.{Opening}
use Rattle.vs_world.specs.Journals.{head_of, FitsFile}
use Rattle.vs_world.specs.Played.{IsAdvanced, IsSame}
use Rattle.vs_world.specs.Steps.{HasRoom, HasGoneDown, IsTooLong, length_with, fault_number}
use Rattle.vs_world.specs.Whole.{IsWhole, due_of, played_in, shown}
use Rattle.vs_world.specs.World.{KeepsDisks}
use Rattle.vs_world.proofs.Disks.{holds_at, has_new, keeps_disks, of_disks}
use Rattle.vs_world.proofs.Dues.{same_dues, made_due, awaiting_due, pending_same}
use Rattle.vs_world.proofs.Grown.{whole_more, whole_same, of_other, faults_later}
use Rattle.vs_world.proofs.Kept.{has_store, of_store, told_faults, length_is}
use Rattle.vs_world.proofs.Pending.{none_up, writes_up, writes_recorded, leaves_away, one_written, fault_down, fault_pending, fault_others}
use Rattle.vs_world.proofs.Playing.{is_reached, is_run_more, possible_step}
use Rattle.vs_world.proofs.Rising.{none_rises}

pub records_bare : (s : State) (e : Event) (r : Recording) → records s e ≡ Some r → IsNoRestart e
records_bare s (Restart x kept by) r is = absurd (cc is)
records_bare s e r is = tt

-- the laws of the machine that are used
pub record Laws : Type 0 where
  pub inputs : KeptInputs
  pub events : WrittenEvents
  pub written : WrittenRuns
  pub faults : FaultRuns
  pub pending : PendingRuns

module _ {D : Type 0} {disk : Ghosts D} (laws : Laws) (c : core.Shown) (events : Listed Event) (opening : Opening) (old : Stores D disk) (whole : IsWhole c events opening old)
    (e : Event) (possible : verdict (step (core.means c) e) ≡ Ok tt) (r : Recording) (is : records (core.means c) e ≡ Some r) where
  pub reached : IsReached (core.means c)
  reached = is_reached (played_in c events opening) whole.run

  pub bare : IsNoRestart e
  bare = records_bare (core.means c) e r is

  pub written_is : written (core.means c) e ≡ Some r
  written_is = records_written (core.means c) e r is

  pub keeps : (t : State) → step (core.means c) e ≡ Ok t → KeepsJournals (core.means c) t e
  keeps t h = laws.written (core.means c) t e reached h

  pub may : MayWrite (core.means c) r.at r.change
  may = let next = possible_step (step (core.means c) e) possible in (keeps next.0 next.1).fits_here r written_is

  pub up : (core.means c).up r.at ≡ true
  up = let next = possible_step (step (core.means c) e) possible in writes_up (core.means c) e r bare ((keeps next.0 next.1).writes_at r written_is)

  pub none : (core.means c).pending r.at ≡ None
  none = none_up laws.pending (core.means c) reached r.at up

  pub has : HasSet old r.at
  has = has_store c events opening old whole r.at may.set

  pub ready : IsReadyAt old r.at
  ready = whole.ready r.at up

  pub accepts : AcceptsAt old r.at r.change
  accepts it at =
      let held = holds_at old (due_of (core.means c)) r.at it whole.hold at in
      may_append it (head_of (core.means c).config r.at) (durable_of (core.means c) r.at) r.change
      (subst (Holds it (head_of (core.means c).config r.at) (durable_of (core.means c) r.at)) none held) may.fitting

  -- it is of a kind that may fail
  pub not_recorded : ((v : Recorded) → e ≢ event_of v) → ⊥
  not_recorded none_of = writes_recorded (core.means c) e r (laws.events (core.means c)) bare written_is none_of

  module _ (new : Stores D disk) (o : KeepsOthers old new r.at) where
    pub has_still : HasSet new r.at
    has_still = has_new old new r.at o has

    pub rose : (begun opening).faults r.at ≤ faults_at new r.at
    rose =
        let before = whole.faults r.at may.set in
        let later = faults_later old new r.at o r.at has in
        omega (arith, before, later)

  -- what a crash leaves within the call fits the set before the event
  fits_before : (f : List ℕ) → StandsFor (head_of (core.means c).config r.at) (durable_of (core.means c) r.at) f → FitsFile (core.means c) r.at f
  fits_before f stands = subst (λ (p : Option Change). StandsForSome (head_of (core.means c).config r.at) (durable_of (core.means c) r.at) p f) (sym none) stands

  -- ---- it was written
  module _ (c' : core.Shown) (events' : Listed Event) (new : Stores D disk) (o : KeepsOthers old new r.at) (m : IsMade old new r.at r.change)
      (h : step (core.means c) e ≡ Ok (core.means c')) (listed : events'.items ≡ events.items ++ e ∷ []) (spent : c'.is_reserved ≡ false) where
    config_made : (core.means c').config ≡ (core.means c).config
    config_made = (laws.inputs (core.means c) (core.means c') e h).config

    due_made : (y : ℕ) → due_of (core.means c') y ≡ put (due_of (core.means c)) r.at (made (due_of (core.means c) r.at) r.change) y
    due_made = made_due (core.means c) (core.means c') e (keeps (core.means c') h) config_made bare r written_is none

    pub advanced_made : IsAdvanced (played_in c events opening) (played_in c' events' opening) e
    advanced_made = record { step = h; events = listed; opening = refl }

    pub whole_made : IsWhole c' events' opening new
    whole_made = whole_more c c' events events' opening old new r.at whole o
        (is_run_more (played_in c events opening) (played_in c' events' opening) e whole.run advanced_made)
        config_made
        (same_dues new (put (due_of (core.means c)) r.at (made (due_of (core.means c) r.at) r.change)) (due_of (core.means c')) due_made (m.holds (due_of (core.means c)) none whole.hold))
        (λ y up'. ⊎_elim
        (λ same. subst (IsReadyAt new) (sym same) m.ready)
        (λ ne. of_other old new r.at o store.IsReady y ne (whole.ready y (none_rises (core.means c) (core.means c') e bare h y up')))
        (cases_eq y r.at))
        (λ y none'. ⊎_elim
        (λ same. subst (λ (z : ℕ). (it : Store D disk) → store_at new z ≡ Some it → store.IsCalm it) (sym same) m.calm)
        (λ ne. of_other old new r.at o store.IsCalm y ne (whole.calm y (sym (pending_same (core.means c) (core.means c') e (keeps (core.means c') h) config_made bare r written_is y) ∙ none')))
        (cases_eq y r.at))
        (λ reserved. absurd (cc (reserved, spent)))

    pub room_made : HasRoom (shown c events opening old) e
    room_made rest p also =
        let within = m.room in
        let limit = whole.limit in
        let len = length_is c events opening old whole r.at in
        let here : length_with (shown c events opening old) r ≤ (begun opening).limit = omega (arith, within, limit, len) in
        subst (λ (q : Recording). length_with (shown c events opening old) q ≤ (begun opening).limit) (one_written (core.means c) e r p written_is also) here

    fits_made : (f : List ℕ) → StandsForSome (head_of (core.means c).config r.at) (durable_of (core.means c) r.at) (Some r.change) f → FitsFile (core.means c) r.at f ⊎ FitsFile (core.means c') r.at f
    fits_made f (inl stands) = inl (fits_before f stands)
    fits_made f (inr stands) = inr (subst (λ (due : Due). StandsForSome due.head due.state due.pending f) (sym (due_made r.at ∙ put_here (due_of (core.means c)) r.at (made (due_of (core.means c) r.at) r.change))) stands)

    pub disks_made : ((d : D) → IsLawful (disk.told d)) → IsStoreSafe old new r.at None (Some r.change) → KeepsDisks disk.told (shown c events opening old) (shown c' events' opening new) e
    disks_made lawful safe = keeps_disks lawful c c' events events' opening old new r.at whole has o
        (λ a b at at'. weakened_through (told_of a) (told_of b) (StandsForSome (head_of (core.means c).config r.at) (durable_of (core.means c) r.at) (Some r.change))
        (λ file. FitsFile (core.means c) r.at file ⊎ FitsFile (core.means c') r.at file) fits_made (safe (due_of (core.means c)) none whole.hold a b at at'))
        e (leaves_away (core.means c) e r bare written_is)

  -- ---- it was refused
  module _ (c' : core.Shown) (events' : Listed Event) (new : Stores D disk) (o : KeepsOthers old new r.at) (n : IsRefused old new r.at)
      (same : core.means c' ≡ core.means c) (listed : events'.items ≡ events.items) (spent : c'.is_reserved ≡ false) where
    pub whole_refused : IsWhole c' events' opening new
    whole_refused = whole_same c c' events events' opening old new r.at whole o same listed n.holds (λ before. n.ready) n.calm (λ reserved. absurd (cc (reserved, spent)))

    pub same_refused : IsSame (played_in c events opening) (played_in c' events' opening)
    same_refused = record { state = same; events = listed; opening = refl }

    pub too_long : (len : ℕ) → IsTooLongAt old r.at r.change len → IsTooLong (shown c' events' opening new) e r.at
    too_long len long = record {
      recording = r;
      written_is = subst (λ (t : State). written t e ≡ Some r) (sym same) written_is;
      at = refl;
      above =
          let limit = whole.limit in
          let len_is = long.len_is in
          let same_length = n.length_is in
          let above = long.above in
          let len = length_is c' events' opening new whole_refused r.at in
          omega (arith, limit, len_is, same_length, above, len);
    }

    pub disks_refused : ((d : D) → IsLawful (disk.told d)) → KeepsDisks disk.told (shown c events opening old) (shown c' events' opening new) e
    disks_refused lawful = keeps_disks lawful c c' events events' opening old new r.at whole has o through e (leaves_away (core.means c) e r bare written_is)
      where
        through : OfBoth old new r.at (λ a b. LeavesThrough (told_of a) (told_of b) (λ file. FitsFile (core.means c) r.at file ⊎ FitsFile (core.means c') r.at file))
        through a b at at' honest =
            let held = holds_at old (due_of (core.means c)) r.at a whole.hold at in
            weakened (told_of a) (told_of b) (told_of a).may_leave (λ file. FitsFile (core.means c) r.at file ⊎ FitsFile (core.means c') r.at file)
            (λ file left. inl (held.leaves honest file left)) ((n.unwritten a b at at').any_moment honest)

  -- ---- its disk failed
  module _ (v : Recorded) (recorded_is : e ≡ event_of v) where
    -- the fault is possible
    pub may_fail : (n : ℕ) → is_next_fault ((core.means c).last_fault r.at) n ≡ true → verdict (step (core.means c) (Fault r.at n v)) ≡ Ok tt
    may_fail n next =
        let to = possible_step (step (core.means c) e) possible in
        let fails = laws.faults (core.means c) to.0 v r n reached (subst (λ (q : Event). step (core.means c) q ≡ Ok to.0) recorded_is to.1) (subst (λ (q : Event). written (core.means c) q ≡ Some r) recorded_is written_is) next in
        ap verdict fails.possible

    change_is : (x : ℕ) (d : Change) → recording_of (core.means c) v ≡ Some (record { at = x; change = d }) → d ≡ r.change
    change_is x d records_it =
        let w : Recording = record { at = x; change = d } in
        let same : w ≡ r = one_written (core.means c) e w r (ap (written (core.means c)) recorded_is ∙ (laws.events (core.means c)).recorded_by v ∙ records_it) written_is in
        ap (λ (q : Recording). q.change) same

    module _ (c' : core.Shown) (events' : Listed Event) (new : Stores D disk) (o : KeepsOthers old new r.at) (p : IsPending old new r.at r.change) (n : ℕ)
        (h : step (core.means c) (Fault r.at n v) ≡ Ok (core.means c')) (listed : events'.items ≡ events.items ++ Fault r.at n v ∷ []) (spent : c'.is_reserved ≡ false) where
      can : CanFault (core.means c) r.at n v (core.means c')
      can = can_fault (core.means c) (core.means c') r.at n v h

      config_failed : (core.means c').config ≡ (core.means c).config
      config_failed = (laws.inputs (core.means c) (core.means c') (Fault r.at n v) h).config

      due_failed : (y : ℕ) → due_of (core.means c') y ≡ put (due_of (core.means c)) r.at (awaiting (due_of (core.means c) r.at) r.change) y
      due_failed y = subst (λ (d : Change). due_of (core.means c') y ≡ put (due_of (core.means c)) r.at (awaiting (due_of (core.means c) r.at) d) y) (change_is r.at can.change can.records)
          (awaiting_due (core.means c) (core.means c') r.at n v (laws.written (core.means c) (core.means c') (Fault r.at n v) reached h) config_failed can y)

      advanced_failed : IsAdvanced (played_in c events opening) (played_in c' events' opening) (Fault r.at n v)
      advanced_failed = record { step = h; events = listed; opening = refl }

      pub whole_failed : IsWhole c' events' opening new
      whole_failed = whole_more c c' events events' opening old new r.at whole o
          (is_run_more (played_in c events opening) (played_in c' events' opening) (Fault r.at n v) whole.run advanced_failed)
          config_failed
          (same_dues new (put (due_of (core.means c)) r.at (awaiting (due_of (core.means c) r.at) r.change)) (due_of (core.means c')) due_failed (p.holds (due_of (core.means c)) none whole.hold))
          (λ y up'. ⊎_elim
          (λ same. absurd (cc (fault_down (core.means c) (core.means c') r.at n v can, ap (core.means c').up same, up')))
          (λ ne. of_other old new r.at o store.IsReady y ne (whole.ready y (none_rises (core.means c) (core.means c') (Fault r.at n v) tt h y up')))
          (cases_eq y r.at))
          (λ y none'. ⊎_elim
          (λ same. absurd (cc (fault_pending (core.means c) (core.means c') r.at n v can, ap (core.means c').pending same, none')))
          (λ ne. of_other old new r.at o store.IsCalm y ne (whole.calm y (sym (fault_others (core.means c) (core.means c') r.at n v can y ne) ∙ none')))
          (cases_eq y r.at))
          (λ reserved. absurd (cc (reserved, spent)))

      fits_failed : (f : List ℕ) → StandsForSome (head_of (core.means c).config r.at) (durable_of (core.means c) r.at) (Some r.change) f → FitsFile (core.means c) r.at f ⊎ FitsFile (core.means c') r.at f
      fits_failed f stands = inr (subst (λ (due : Due). StandsForSome due.head due.state due.pending f) (sym (due_failed r.at ∙ put_here (due_of (core.means c)) r.at (awaiting (due_of (core.means c) r.at) r.change))) stands)

      pub disks_failed : ((d : D) → IsLawful (disk.told d)) → IsStoreSafe old new r.at None (Some r.change) → KeepsDisks disk.told (shown c events opening old) (shown c' events' opening new) e
      disks_failed lawful safe = keeps_disks lawful c c' events events' opening old new r.at whole has o
          (λ a b at at'. weakened_through (told_of a) (told_of b) (StandsForSome (head_of (core.means c).config r.at) (durable_of (core.means c) r.at) (Some r.change))
          (λ file. FitsFile (core.means c) r.at file ⊎ FitsFile (core.means c') r.at file) fits_failed (safe (due_of (core.means c)) none whole.hold a b at at'))
          e (leaves_away (core.means c) e r bare written_is)

      room_failed : HasRoom (shown c events opening old) e
      room_failed rest q also =
          let within = p.room in
          let limit = whole.limit in
          let len = length_is c events opening old whole r.at in
          let here : length_with (shown c events opening old) r ≤ (begun opening).limit = omega (arith, within, limit, len) in
          subst (λ (w : Recording). length_with (shown c events opening old) w ≤ (begun opening).limit) (one_written (core.means c) e r q written_is also) here

      pub gone_down : n ≡ fault_number (faults_at new r.at) ((begun opening).faults r.at) ((core.means c).last_fault r.at) → HasGoneDown disk.told (shown c events opening old) (shown c' events' opening new) e r.at
      gone_down number = record {
        recorded = v;
        is = recorded_is;
        number = n;
        number_is = of_store c' events' opening new whole_failed (λ told. n ≡ fault_number told.faults ((begun opening).faults r.at) ((core.means c).last_fault r.at)) r.at
            (subst (λ (k : Configuration). is_to (length k.sets) r.at ≡ true) (sym config_failed) may.set)
            (λ it at. number ∙ ap (λ (now : ℕ). fault_number now ((begun opening).faults r.at) ((core.means c).last_fault r.at)) (told_faults c' events' opening new whole_failed r.at it at));
        advanced = advanced_failed;
        failed = of_disks old new r.at o Failed has p.failed;
        room = room_failed;
      }
