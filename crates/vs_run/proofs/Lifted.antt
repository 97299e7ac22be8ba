-- What is known of worlds holds of the disks that come back.
use Rattle.std.proofs.Common.{◌≡◌, ℕ, ◌+◌, ◌-◌, ◌^◌, ◌<◌, ◌≤◌, true, List, length, Result, Ok, Err, Some, sym, ap, subst, ◌∙◌, arith, inl, inr}
use Rattle.std.specs.Prelude.{◌⊎◌, IsOkAnd}
use Rattle.std.proofs.lemmas.Bool.Decides.{nat_tests}
use Rattle.vs_config.specs.Configuration.{Configuration}
use Rattle.vs_disk.specs.Told.{Told}
use Rattle.vs_script.specs.Scripts.{Scripts}
use Rattle.vs_core.specs.Safety.{SafeRuns}
use Rattle.vs_machine.specs.Actors.{ArePostsSteered}
use Rattle.vs_machine.specs.Journals.{held_as}
use Rattle.vs_machine.specs.Kinds.Stops.{is_finished}
use Rattle.vs_machine.specs.Laws.{BegunInputs}
use Rattle.vs_machine.specs.Settling.{IsSettled}
use Rattle.vs_machine.specs.State.{has_set}
use Rattle.vs_machine.specs.Step.{run}
use Rattle.vs_machine.specs.Tables.{is_to}
use Rattle.vs_drive.specs.Ends.{IsNearlyFull}
use Rattle.vs_settle.specs.Stopped as settle
use Rattle.vs_settle.proofs.Keeping.{there}
use Rattle.vs_store.specs.Standing.{opened, Standing}
use Rattle.vs_store.specs.declared.fault.StoreFault.{StoreFault}
use Rattle.vs_stores.specs.Numbered.{at_number}
use Rattle.vs_world.proofs.Disks.{is_set}
use Rattle.vs_world.proofs.Playing.{config_is}
use Rattle.vs_world.specs.Began.{start_of}
use Rattle.vs_world.specs.Counted as world
use Rattle.vs_world.specs.Journals.{head_of}
use Rattle.vs_world.specs.Opened.{IsOpened, IsSet}
use Rattle.vs_world.specs.Played.{began, state_of}
use Rattle.vs_world.specs.World.{World, IsKept, IsLengthAt, length_of}
use Rattle.vs_top.specs.Plays.{Played, HasFailed, played_on, journal_limit}
use Rattle.vs_top.proofs.Playing.{is_begun}
use Rattle.vs_run.specs.Runs.{OfBoth, IsCounted, IsRunTo, IsSteeredRun, IsSettledRun, IsDownAfter, IsFullOfDrivers, IsFullOfService, longest_entry}
use Rattle.vs_run.specs.Worlds.{IsSteered}

-- a number from 1 to n is that of a set
to_set : (n x : ℕ) → 1 ≤ x → x ≤ n → is_to n x ≡ true
to_set n x first last = grind (arith, nat_tests, first, last)

longer : (head_file : Result Standing StoreFault) (n least : ℕ) → least < n → IsOkAnd head_file (λ s. s.journal.gate + 1 ≡ n) → IsOkAnd head_file (λ s. least < s.journal.gate + 1)
longer (Ok s) n least above is = omega (arith, above, is)
longer (Err e) n least above is = is

module _ {D : Type 0} (told : D → Told) (config : Configuration) (scripts : Scripts) (before : List D) (first : World D) (o : IsOpened told config scripts journal_limit before first) (inputs : BegunInputs) (law : SafeRuns) where
  module _ (last : World D) (back : List D) (kept : IsKept told last) (disks : last.disks ≡ back) (same : began last.played ≡ began first.played) where
    -- what is run
    abbrev pub ran : Played D
    ran = played_on told config scripts last.played.events before back

    config_now : (state_of last.played).config ≡ config
    config_now = config_is inputs last.played kept.run ∙ (ap (λ b. b.config) same ∙ o.config_is)

    set_now : (x : ℕ) → IsSet config x → has_set (state_of last.played) x ≡ true
    set_now x set = ap (λ (c : Configuration). is_to (length c.sets) x) config_now ∙ to_set (length config.sets) x set.0 set.1

    pub run_to : IsRunTo ran (state_of last.played)
    run_to = record {
      began = began first.played;
      begun = is_begun told config scripts before first o last.played.events back;
      ran = subst (λ b. run (start_of b) last.played.events ≡ Ok (state_of last.played)) same kept.run.runs;
      safe = law (began first.played).config (began first.played).scripts (held_as (began first.played).states) last.played.events o.kept.run.opens;
      fits = λ x it set at. kept.fits x (set_now x set) it (ap (λ (ds : List D). at_number ds x) disks ∙ at);
    }

    -- how often the disk of a set had failed when the journals had been opened
    opened_since : (x : ℕ) → has_set (state_of last.played) x ≡ true → (was : D) → at_number before x ≡ Some was → (told was).faults ≤ (began last.played).faults x
    opened_since x known was at =
        let mid = there before first.disks x was o.disks.count at in
        let set : is_to (length config.sets) x ≡ true = subst (λ (c : Configuration). is_to (length c.sets) x ≡ true) config_now known in
        let kept_mid = (o.disks.of_sets x was mid.0 (is_set (length config.sets) x set) at mid.1).keeps.faults in
        let then : (began first.played).faults x ≡ (told mid.0).faults = o.faults_are x set mid.0 mid.1 in
        let now : (began last.played).faults x ≡ (began first.played).faults x = ap (λ b. b.faults x) same in
        omega (arith, kept_mid, then, now)

    counted_since : (x : ℕ) → has_set (state_of last.played) x ≡ true → world.IsCounted told last x → IsCounted ran (state_of last.played) x
    counted_since x known counted was is a b few =
        omega (arith, counted is (ap (λ (ds : List D). at_number ds x) disks ∙ b) few, opened_since x known was a)

    pub steered_run : IsSteered told last → IsSteeredRun ran (state_of last.played)
    unfolding run_to
    steered_run s = record {
      run = run_to;
      steered = subst (λ b. ArePostsSteered (start_of b) last.played.events) same s.driven.posts;
      unwaited = s.driven.unwaited;
      counted = λ x known. counted_since x known (s.counted x known);
    }

    pub settled_run : IsSteered told last → is_finished (state_of last.played) ≡ true → IsSettled (state_of last.played) → IsSettledRun ran (state_of last.played)
    settled_run s finished settled = record { steered = steered_run s; finished = finished; settled = settled }

    -- the service stopped where a disk failed
    pub down_after : (middle : World D) (x : ℕ) → IsKept told middle → began last.played ≡ began middle.played → has_set (state_of middle.played) x ≡ true → IsSteered told last → settle.HasFailed told middle last x → world.IsCounted told middle x
        → IsDownAfter ran (state_of last.played) x
    down_after middle x before_kept mid_same mid_set s failed counted = record { steered = steered_run s; set = failed.set; down = failed.down; disk = disk; fault = by (failed.fault counted) }
      where
        by : settle.EndsInFault last.played.events x ⊎ ((it : D) → at_number last.disks x ≡ Some it → (told it).faults < 2 ^ 63 → (state_of last.played).last_fault x + (began last.played).faults x < (told it).faults)
            → settle.EndsInFault last.played.events x ⊎ OfBoth ran x (λ was is. (told is).faults < 2 ^ 63 → (state_of last.played).last_fault x + (told was).faults < (told is).faults)
        by (inl end) = inl end
        by (inr more) = inr (λ was is a b few. omega (arith, more is (ap (λ (ds : List D). at_number ds x) disks ∙ b) few, opened_since x failed.set was a))

        disk : HasFailed ran x
        disk was is a b =
            let mid = there before middle.disks x was (before_kept.disks ∙ (sym o.kept.disks ∙ o.disks.count)) a in
            let since : (told was).faults ≤ (began last.played).faults x = opened_since x failed.set was a in
            let then : (began middle.played).faults x ≤ (told mid.0).faults = before_kept.faults x mid_set mid.0 mid.1 in
            let here : (began last.played).faults x ≡ (began middle.played).faults x = ap (λ k. k.faults x) mid_same in
            let rose = failed.failed mid.0 is mid.1 (ap (λ (ds : List D). at_number ds x) disks ∙ b) in
            omega (arith, since, then, here, rose)

    -- the drivers stopped where a journal had no room for every entry
    pub full_of_drivers : (x : ℕ) → IsNearlyFull last x → IsLengthAt told last x → IsFullOfDrivers ran (state_of last.played) x
    full_of_drivers x full at = record {
      run = run_to;
      long = λ it set there tells.
          let above : journal_limit - longest_entry < length_of last x = subst (λ (n : ℕ). n - longest_entry < length_of last x) limit full.above in
          subst (λ (c : Configuration). IsOkAnd (opened (head_of c x) (told it).reads_as) (λ s. journal_limit - longest_entry < s.journal.gate + 1)) config_now
          (longer (opened (head_of (state_of last.played).config x) (told it).reads_as) (length_of last x) (journal_limit - longest_entry) above (at it (ap (λ (ds : List D). at_number ds x) disks ∙ there) tells));
    }
      where
        limit : (began last.played).limit ≡ journal_limit
        limit = ap (λ b. b.limit) same ∙ o.limit_is

    -- or the service
    pub full_of_service : (x : ℕ) → IsSteered told last → settle.IsFull last x → IsFullOfService ran (state_of last.played) x
    full_of_service x s full = record {
      steered = steered_run s;
      event = full.event;
      possible = full.possible;
      recording = full.long.recording;
      written_is = full.long.written_is;
      at = full.long.at;
    }
