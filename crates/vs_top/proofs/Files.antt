-- From the files of a command to how it ends.
use Rattle.std.proofs.Common.{◌≡◌, ℕ, ◌<◌, ◌^◌, List, length, ◌∷◌, refl, ◌∙◌, sym, subst, inl, inr, Ok, Err}
use Rattle.vs_config.specs.Configuration.{Configuration}
use Rattle.vs_disk.specs.Told as disk
use Rattle.vs_event.specs.declared.event.Event.{Event}
use Rattle.vs_host.specs.declared.fault.HostFailed.{HostFailed}
use Rattle.vs_host.specs.Faults.{Rose}
use Rattle.vs_host.specs.Told.{Told}
use Rattle.vs_host.specs.Calls.{PutsOut}
use Rattle.vs_inputs.specs.declared.fault.InputFault.{InputFault}
use Rattle.vs_inputs.specs.declared.fault.InputFault.TheVariants as input
use Rattle.vs_inputs.specs.Inputs.{AreInputs, IsInputCause, MayReadFiles}
use Rattle.vs_inputs.specs.Reading.{OnlyReads, IsOutside}
use Rattle.vs_inputs.specs.Words.{Names, files_of, IsCommand, MayRead}
use Rattle.vs_named.specs.Laws.{ReportsAreLegal}
use Rattle.vs_script.specs.Scripts.{Scripts}
use Rattle.vs_store.specs.declared.fault.StoreFault.TheVariants as store
use Rattle.vs_world.specs.NotOpened.{IsNotOpened}
use Rattle.vs_world.specs.declared.fault.WorldFault.{WorldFault}
use Rattle.vs_world.specs.declared.fault.WorldFault.TheVariants as world
use Rattle.vs_top.specs.declared.play.PlayFault.{PlayFault}
use Rattle.vs_top.specs.declared.play.PlayFault.TheVariants as play
use Rattle.vs_top.specs.Endings.{between, IsGiven, HasReport, IsPlayed, IsReportCut, IsFilesCause, MayEndGood, MayEndPossible}
use Rattle.vs_top.specs.Faults.{IsNumbered, from_inputs, from_opening, from_play}
use Rattle.vs_top.specs.Plays.{IsPlayCause, IsReportOf, journal_limit, played_on}
use Rattle.vs_top.proofs.Legal.{is_legal}

-- a command's files may be read
pub may_read_files : (host : Told) (words : List (List ℕ)) (names : Names) → IsCommand words names → MayRead host words → MayReadFiles host names
may_read_files host words names command may_read = subst (MayRead host) command.words_are may_read

-- two commands of the same words name the same files
pub same_names : (words : List (List ℕ)) (x y : Names) → IsCommand words x → IsCommand words y → x ≡ y
same_names words x y one other =
    let both : one.command ∷ files_of x ≡ other.command ∷ files_of y = sym one.words_are ∙ other.words_are in
    let config : x.config ≡ y.config = cc both in
    let events : x.events ≡ y.events = cc both in
    let scripts : x.scripts ≡ y.scripts = cc both in
    λ i. record { config = config i; events = events i; scripts = scripts i }

-- a read that failed was counted
read_rose : (k : ℕ) (names : Names) (old new : Told) → IsInputCause names (input.Read k) old new → Rose old.read_faults new.read_faults
read_rose k names old new (inl config) = config.1
read_rose k names old new (inr (inl events)) = events.cause.1
read_rose k names old new (inr (inr (inl scripts))) = scripts.script.cause.1
read_rose k names old new (inr (inr (inr gather))) = absurd gather.refused

-- what may come of files that are good
pub outside_good : (fault : InputFault) → IsOutside fault → MayEndGood (from_inputs fault)
outside_good (input.Text k fault) is = absurd is
outside_good (input.Read k) is = tt
outside_good input.NoMemory is = tt

pub outside_possible : (fault : InputFault) → IsOutside fault → MayEndPossible (from_inputs fault)
outside_possible (input.Text k fault) is = absurd is
outside_possible (input.Read k) is = tt
outside_possible input.NoMemory is = tt

module _ {D : Type 0} (tells : D → disk.Told) where
  -- files that give no inputs
  pub input_fault : (fault : InputFault) (names : Names) (old mid : Told) (disks : List D) → OnlyReads old mid → IsInputCause names fault old mid → IsFilesCause (from_inputs fault) (between tells old mid disks disks) names
  input_fault (input.Text k fault) names old mid disks reads cause = record { cause = cause; untouched = record { out = reads.out; disks = refl } }
  input_fault (input.Read k) names old mid disks reads cause = record { cause = cause; rose = read_rose k names old mid cause; untouched = record { out = reads.out; disks = refl } }
  input_fault input.NoMemory names old mid disks reads cause = reads.out

  module _ (names : Names) (config : Configuration) (scripts : Scripts) (events : List Event) (before after : List D) (old mid : Told) (inputs : AreInputs old.file names config events scripts) (reads : OnlyReads old mid) where
    abbrev given : (new : Told) → IsGiven (between tells old new before after) names
    given new = record { config = config; events = events; scripts = scripts; inputs = inputs }

    abbrev has_report : (new : Told) (text : List ℕ) → IsReportOf (played_on tells config scripts events before after) text → HasReport (between tells old new before after) names text
    has_report new text report = record { given = given new; report = report }

    -- the report, or a front of it, was put out after the files were read
    pub is_played : (text bytes : List ℕ) (new : Told) (u : Unit {0}) → IsReportOf (played_on tells config scripts events before after) text → bytes ≡ text → PutsOut bytes mid new (Ok u)
        → ReportsAreLegal → length text < 2 ^ 64 → IsPlayed (between tells old new before after) names
    is_played text bytes new u report is puts law short = record {
      text = text;
      report = has_report new text report;
      out = rw (← reads.out, ← is) puts.out;
      log = puts.log ∙ reads.log;
      legal = is_legal law old.file names (played_on tells config scripts events before after) inputs text report short;
    }

    pub is_cut : (text bytes : List ℕ) (new : Told) (e : HostFailed) → IsReportOf (played_on tells config scripts events before after) text → bytes ≡ text → PutsOut {U = Unit {0}} bytes mid new (Err e)
        → IsReportCut (between tells old new before after) names
    is_cut text bytes new e report is puts = record { text = text; report = has_report new text report; out = rw (← reads.out, ← is) puts.out; rose = rw (← reads.write_faults) puts.failed }

    -- journals that weren't opened
    opening_fault : (fault : WorldFault) → IsNumbered (from_opening fault config) → IsNotOpened tells config journal_limit before fault after → IsFilesCause (from_opening fault config) (between tells old mid before after) names
    opening_fault (world.OfSet x store.DiskFault) numbered cause = record {
      given = given mid;
      at = inl cause;
      number = numbered;
      failed = λ was is at now. (cause.cause.refused was is at now).failed refl;
      out = reads.out;
    }
    opening_fault (world.OfSet x (store.Full len)) numbered cause = record { given = given mid; at = inl (len, cause); out = reads.out }
    opening_fault (world.OfSet x store.NoMemory) numbered cause = reads.out
    opening_fault (world.OfSet x (store.NotAJournal place)) numbered cause = record { given = given mid; of_bytes = tt; uuid = refl; refused = cause; out = reads.out }
    opening_fault (world.OfSet x (store.OtherSet uuid)) numbered cause = record { given = given mid; of_bytes = tt; uuid = refl; refused = cause; out = reads.out }
    opening_fault (world.OfSet x (store.OtherCount count)) numbered cause = record { given = given mid; of_bytes = tt; uuid = refl; refused = cause; out = reads.out }
    opening_fault (world.Incoherent bucket entries) numbered cause = record { given = given mid; refused = cause; out = reads.out }
    opening_fault world.NoMemory numbered cause = reads.out

    -- inputs that have no report
    pub play_fault : (fault : PlayFault) → IsNumbered (from_play fault config) → IsPlayCause fault (played_on tells config scripts events before after) → IsFilesCause (from_play fault config) (between tells old mid before after) names
    play_fault (play.Opening fault) numbered cause = opening_fault fault numbered cause
    play_fault (play.Event number reason) numbered cause = record { given = given mid; refused = cause; out = reads.out }
    play_fault (play.Disk number x) numbered cause = record { given = given mid; at = inr (number, cause.0); number = numbered; failed = cause.1; out = reads.out }
    play_fault (play.Full number x) numbered cause = record { given = given mid; at = inr (number, cause); out = reads.out }
    play_fault play.NoMemory numbered cause = reads.out
