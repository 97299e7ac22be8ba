-- How a run on disks ends, by how it ends on worlds.
use Rattle.std.proofs.Common.{◌≡◌, ℕ, ◌<◌, ◌^◌, true, List, length, Result, Ok, Err, refl, sym, subst, ◌∙◌, inl, inr}
use Rattle.std.specs.Prelude.{IfOk, IfErr}
use Rattle.vs_auditing.specs.Texts.{IsLegalText}
use Rattle.vs_config.specs.Configuration.{Configuration}
use Rattle.vs_disk.specs.Told as disk
use Rattle.vs_event.specs.declared.event.Event.{Event}
use Rattle.vs_host.specs.Told.{Told}
use Rattle.vs_inputs.specs.Files.{Files}
use Rattle.vs_legal.specs.Laws.{AreBasesNamed}
use Rattle.vs_machine.specs.Journals.{held_as}
use Rattle.vs_named.specs.Named.{AreRead}
use Rattle.vs_named.specs.Laws.{ReportsAreLegal}
use Rattle.vs_script.specs.Scripts.{Scripts}
use Rattle.vs_core.specs.Safety.{SafeRuns}
use Rattle.vs_drive.specs.declared.driver.DriveFault.{DriveFault}
use Rattle.vs_drive.specs.declared.driver.DriveFault.TheVariants as drive
use Rattle.vs_machine.specs.Laws.{BegunInputs}
use Rattle.vs_machine.specs.Report.{report}
use Rattle.vs_machine.specs.State.{State, has_set}
use Rattle.vs_world.specs.Opened.{IsOpened}
use Rattle.vs_world.specs.Played.{began, state_of}
use Rattle.vs_world.specs.World.{World}
use Rattle.vs_top.specs.Endings.{between, MayEndGood}
use Rattle.vs_top.specs.Plays.{journal_limit, played_on}
use Rattle.vs_top.proofs.Legal.{ran_from}
use Rattle.vs_top.specs.declared.fault.Fault.{Fault}
use Rattle.vs_top.specs.declared.fault.Fault.TheVariants as faults
use Rattle.vs_run.specs.Endings.{IsRunEnd, IsRunCause}
use Rattle.vs_run.specs.Runs.{IsSettledRun}
use Rattle.vs_run.specs.Worlds.{IsRun, IsRunOn, IsStopped, IsEnd, IsEndCause, IsUntold, HasFailedAtRest, from_drivers}
use Rattle.vs_run.proofs.Steered.{set_before}
use Rattle.vs_run.proofs.Lifted.{settled_run, down_after, full_of_drivers, full_of_service}

module _ {D : Type 0} (told : D → disk.Told) (config : Configuration) (scripts : Scripts) (before : List D) (first : World D) (o : IsOpened told config scripts journal_limit before first) (inputs : BegunInputs) (law : SafeRuns) (old new : Told) (back : List D) where
  -- the report is legal
  told_legal : ReportsAreLegal → (files : Files) (names : List (List ℕ)) → AreRead files names config scripts → (events : List Event) (s : State) → IsSettledRun (played_on told config scripts events before back) s → AreBasesNamed s → length (report s) < 2 ^ 64
      → IsLegalText (report s)
  told_legal legal files names read events s settled named short =
      let r = settled.steered.run in
      legal files names config scripts (held_as r.began.states) events s read r.begun.coherent (ran_from (played_on told config scripts events before back) r.began r.begun events s r.ran) named short

  module _ (middle last : World D) (r : IsRun told first middle last back) where
    same : began last.played ≡ began first.played
    same = r.began ∙ r.driven.began

    set_then : (failed : HasFailedAtRest told middle last old new) → has_set (state_of middle.played) failed.set ≡ true
    set_then failed = set_before inputs told middle last failed.set r.before r.kept r.began failed.failed.set

    end_of : ReportsAreLegal → (files : Files) (names : List (List ℕ)) → AreRead files names config scripts → (status : ℕ) → IsEnd told status middle last old new → IsRunEnd status (between told old new before back) config scripts
    end_of legal files names read status (inl ended) =
        let settled = settled_run told config scripts before first o inputs law last back r.kept r.disks same r.steered ended.1.finished ended.1.settled in
        inl (
          ended.0,
          record {
            run = record { events = last.played.events; last = state_of last.played; holds = settled };
            out = ended.2.out;
            log = ended.2.log;
            legal = told_legal legal files names read last.played.events (state_of last.played) settled ended.2.named ended.2.short;
          },
        )
    end_of legal files names read status (inr failed) = inr (
      failed.0,
      (
        failed.1.set,
        record {
          number = failed.1.number;
          run = record { events = last.played.events; last = state_of last.played; holds = down_after told config scripts before first o inputs law last back r.kept r.disks same middle failed.1.set r.before r.began (set_then failed.1) r.steered failed.1.failed (r.driven.steered.counted failed.1.set (set_then failed.1)) };
          out = failed.1.logged.out;
          between = failed.1.logged.between;
          events = failed.1.logged.events;
          line = failed.1.logged.line_is;
        },
      ),
    )

    cause_of : (fault : Fault) → IsEndCause fault last old new → IsRunCause fault (between told old new before back) config scripts new.log
    cause_of faults.Write c = record {
      run = record { events = last.played.events; last = state_of last.played; holds = settled_run told config scripts before first o inputs law last back r.kept r.disks same r.steered c.0.finished c.0.settled };
      rose = c.1.rose;
      at = c.1.at;
    }
    cause_of faults.NoMemory c = record { out = c.out; log = c.log }
    cause_of (faults.Full x) c = record {
      at = inr (inr (record { events = last.played.events; last = state_of last.played; holds = full_of_service told config scripts before first o inputs law last back r.kept r.disks same x r.steered c.0 }));
      untold = record { out = c.1.out; log = c.1.log };
    }
    cause_of fault c = absurd c

  pub ends_on : (status : ℕ) → IsRunOn told first (Ok status) back old new → ReportsAreLegal → (files : Files) (names : List (List ℕ)) → AreRead files names config scripts → IsRunEnd status (between told old new before back) config scripts
  ends_on status on legal files names read = end_of on.0 on.1 on.2 legal files names read status on.3

  stopped : (last : World D) (fault : DriveFault) → IsStopped told first last back fault → IsUntold old new → IsRunCause (from_drivers fault) (between told old new before back) config scripts new.log
  stopped last (drive.Full x) s untold = record {
    at = inr (inl (record { events = last.played.events; last = state_of last.played; holds = full_of_drivers told config scripts before first o inputs law last back s.kept s.disks s.cause.0 x s.cause.1 (s.length_is x refl) }));
    untold = record { out = untold.out; log = untold.log };
  }
  stopped last drive.NoMemory s untold = record { out = untold.out; log = untold.log }

  pub causes_on : (fault : Fault) → IsRunOn told first (Err fault) back old new → IsRunCause fault (between told old new before back) config scripts new.log
  causes_on fault (inl s) = subst (λ (f : Fault). IsRunCause f (between told old new before back) config scripts new.log) (sym s.2) (stopped s.0 s.1 s.3 s.4)
  causes_on fault (inr e) = cause_of e.0 e.1 e.2 fault e.3

-- whatever the answer
pub end_is : {D : Type 0} (told : D → disk.Told) (config : Configuration) (scripts : Scripts) (before : List D) (first : World D) → IsOpened told config scripts journal_limit before first → BegunInputs → SafeRuns → (old new : Told) (back : List D) (r : Result ℕ Fault)
    → IsRunOn told first r back old new → ReportsAreLegal → (files : Files) (names : List (List ℕ)) → AreRead files names config scripts → IfOk r (λ status. IsRunEnd status (between told old new before back) config scripts)
end_is told config scripts before first o inputs law old new back (Ok status) on = λ legal files names read. ends_on told config scripts before first o inputs law old new back status on legal files names read
end_is told config scripts before first o inputs law old new back (Err fault) on = λ legal files names read. tt

pub cause_is : {D : Type 0} (told : D → disk.Told) (config : Configuration) (scripts : Scripts) (before : List D) (first : World D) → IsOpened told config scripts journal_limit before first → BegunInputs → SafeRuns → (old new : Told) (back : List D) (r : Result ℕ Fault)
    → IsRunOn told first r back old new → IfErr r (λ fault. IsRunCause fault (between told old new before back) config scripts new.log)
cause_is told config scripts before first o inputs law old new back (Ok status) on = tt
cause_is told config scripts before first o inputs law old new back (Err fault) on = causes_on told config scripts before first o inputs law old new back fault on

-- a run that ended, or stopped while the cluster came to rest
pub run_on : {D : Type 0} (told : D → disk.Told) (first middle last : World D) (back : List D) (old new : Told) (r : Result ℕ Fault) → IsRun told first middle last back → IfOk r (λ status. IsEnd told status middle last old new) → IfErr r (λ fault. IsEndCause fault last old new)
    → IsRunOn told first r back old new
run_on told first middle last back old new (Ok status) run ends cause = (middle, last, run, ends)
run_on told first middle last back old new (Err fault) run ends cause = inr (middle, last, run, cause)

-- with good disks
pub good_is : {D : Type 0} (told : D → disk.Told) (first : World D) (old new : Told) (back : List D) (r : Result ℕ Fault) → IsRunOn told first r back old new → IfErr r MayEndGood
good_is told first old new back (Ok status) on = tt
good_is told first old new back (Err fault) (inl s) = subst MayEndGood (sym s.2) (by s.1)
  where
    by : (stopped : DriveFault) → MayEndGood (from_drivers stopped)
    by (drive.Full x) = tt
    by drive.NoMemory = tt
good_is told first old new back (Err fault) (inr e) = by fault e.3
  where
    by : (f : Fault) → IsEndCause f e.1 old new → MayEndGood f
    by faults.Write c = tt
    by faults.NoMemory c = tt
    by (faults.Full x) c = tt
    by f c = absurd c
