-- The line of a fault is logged behind what was logged.
use Rattle.std.proofs.Common.{◌≡◌, ℕ, ◌≤◌, List, Option, Result, Ok, Err, lit<, refl, sym, subst, ◌∙◌, arith, inl, inr}
use Rattle.std.specs.Prelude.{◌⊎◌, Contains}
use Rattle.std.specs.Io.KnownBytes.{Appends}
use Rattle.vs_config.specs.Configuration.{Configuration}
use Rattle.vs_disk.specs.Told as disk
use Rattle.vs_host.specs.Calls.{AppendsFront, Logs}
use Rattle.vs_host.specs.Told.{Told}
use Rattle.vs_host.specs.declared.fault.HostFailed.{HostFailed}
use Rattle.vs_inputs.specs.declared.fault.InputFault.{InputFault}
use Rattle.vs_inputs.specs.declared.fault.InputFault.TheVariants as input
use Rattle.vs_inputs.specs.declared.fault.TextFault.{TextFault}
use Rattle.vs_inputs.specs.declared.fault.TextFault.TheVariants as text
use Rattle.vs_inputs.specs.Reading.{IsFileCause, TookTooMuch}
use Rattle.vs_inputs.specs.RunInputs.{RunNames, IsRunInputCause}
use Rattle.vs_script.specs.Scripts.{Scripts}
use Rattle.vs_ending.specs.Ending.{IsLogged}
use Rattle.vs_top.specs.Endings.{Outside, between}
use Rattle.vs_top.specs.Logged.{IsToldOr, IsEarly}
use Rattle.vs_top.specs.Statuses.{status_of, fault_line}
use Rattle.vs_top.specs.declared.fault.Fault.{Fault}
use Rattle.vs_top.specs.declared.fault.Fault.TheVariants as faults
use Rattle.vs_run.specs.Endings.{HasGiven, IsRunEnd, IsRunCause, IsFilesCause, EndsBy, EndsInLine, Ends, statuses}

-- ---- what is wrong with the files is so after the line

took : (fault : TextFault) (mid new : Told) → new.taken ≡ mid.taken → TookTooMuch fault mid → TookTooMuch fault new
took text.TooLong mid new same more = omega (arith, same, more)
took fault mid new same more = tt

file_cause : {Y : Type 0} (fault : InputFault) (place : ℕ) (name : List ℕ) (Gives : List ℕ → Result Y TextFault → Type 0) (old mid new : Told) → new.taken ≡ mid.taken → new.read_faults ≡ mid.read_faults
    → IsFileCause fault place name Gives old mid → IsFileCause fault place name Gives old new
file_cause (input.Text k fault) place name Gives old mid new taken faults cause = (cause.0, cause.1, took fault mid new taken cause.2)
file_cause (input.Read k) place name Gives old mid new taken faults cause = (cause.0, omega (arith, cause.1, faults))
file_cause input.NoMemory place name Gives old mid new taken faults cause = tt

input_cause : (names : RunNames) (fault : InputFault) (old mid new : Told) → new.taken ≡ mid.taken → new.read_faults ≡ mid.read_faults → IsRunInputCause names fault old mid → IsRunInputCause names fault old new
input_cause names fault old mid new taken faults (inl config) = inl (file_cause fault _ _ _ old mid new taken faults config)
input_cause names fault old mid new taken faults (inr (inl scripts)) =
    inr (inl (record {
      config = scripts.config;
      config_file = scripts.config_file;
      script = record {
        before = scripts.script.before;
        before_files = scripts.script.before_files;
        there = scripts.script.there;
        cause = file_cause fault _ _ _ old mid new taken faults scripts.script.cause;
      };
    }))
input_cause names fault old mid new taken faults (inr (inr gather)) = inr (inr gather)

-- ---- the line

line_logged : (line : List ℕ) (old mid new : Told) (r : Result (Unit {0}) HostFailed) → mid.log ≡ old.log → old.write_faults ≤ mid.write_faults → Logs line mid new r → IsLogged line old new
line_logged line old mid new (Ok u) same grew logs = inl (rw (← same) logs.log)
line_logged line old mid new (Err e) same grew logs = inr (rw (← same) logs.log, omega (arith, logs.failed, grew))

module _ {D : Type 0} (tells : D → disk.Told) (before after : List D) (old mid new : Told) (grew : old.write_faults ≤ mid.write_faults) where
  ends_in_line : (line : List ℕ) (r : Result (Unit {0}) HostFailed) → Logs line mid new r → EndsInLine line mid.log (between tells old new before after)
  ends_in_line line (Ok u) logs = inl logs.log
  ends_in_line line (Err e) logs = inr (logs.log, omega (arith, logs.failed, grew))

  module _ (config : Configuration) (scripts : Scripts) (line : List ℕ) (r : Result (Unit {0}) HostFailed) (logs : Logs line mid new r) where
    out_still : (bytes : List ℕ) → Appends old.out mid.out bytes → Appends old.out new.out bytes
    out_still bytes a = subst (λ (o : Option (List ℕ)). Appends old.out o bytes) (sym logs.out) a

    cause_still : (fault : Fault) → IsRunCause fault (between tells old mid before after) config scripts mid.log → IsRunCause fault (between tells old new before after) config scripts mid.log
    cause_still faults.Write c = record { run = c.run; rose = omega (arith, c.rose, logs.later); at = by _ _ c.at }
      where
        by : (text events : List ℕ) → (AppendsFront old.out mid.out text × (mid.log ≡ old.log)) ⊎ (Appends old.out mid.out text × AppendsFront old.log mid.log events)
            → (AppendsFront old.out new.out text × (mid.log ≡ old.log)) ⊎ (Appends old.out new.out text × AppendsFront old.log mid.log events)
        by text events (inl (front, same)) = inl ((front.0, out_still _ front.1), same)
        by text events (inr (whole, front)) = inr (out_still text whole, front)
    cause_still (faults.Disk x) c = (c.0, record { refused = c.1.refused; untold = record { out = logs.out ∙ c.1.untold.out; log = c.1.untold.log } })
    cause_still (faults.Journal x fault wanted) c = (c.0, c.1, record { refused = c.2.refused; untold = record { out = logs.out ∙ c.2.untold.out; log = c.2.untold.log } })
    cause_still (faults.Incoherent bucket entries) c = record { refused = c.refused; untold = record { out = logs.out ∙ c.untold.out; log = c.untold.log } }
    cause_still (faults.Full x) c = record { at = c.at; untold = record { out = logs.out ∙ c.untold.out; log = c.untold.log } }
    cause_still faults.NoMemory c = record { out = logs.out ∙ c.out; log = c.log }
    cause_still fault c = absurd c

  module _ (names : RunNames) (r : Result (Unit {0}) HostFailed) where
    given_still : (fault : Fault) → Logs (fault_line fault) mid new r → HasGiven (between tells old mid before after) names (λ config scripts. IsRunCause fault (between tells old mid before after) config scripts mid.log)
        → HasGiven (between tells old new before after) names (λ config scripts. (logged : Option (List ℕ)) × IsRunCause fault (between tells old new before after) config scripts logged × EndsInLine (fault_line fault) logged (between tells old new before after))
    given_still fault logs g = record {
      config = g.config;
      scripts = g.scripts;
      inputs = g.inputs;
      holds = (mid.log, cause_still g.config g.scripts (fault_line fault) r logs fault g.holds, ends_in_line (fault_line fault) r logs);
    }

    ends_by : (fault : Fault) → Logs (fault_line fault) mid new r → IsFilesCause fault (between tells old mid before after) names → EndsBy fault names (between tells old new before after)
    ends_by (faults.Text k fault) logs c = (
      record { cause = input_cause names (input.Text k fault) old mid new logs.taken logs.read_faults c.0.cause; untouched = record { out = logs.out ∙ c.0.untouched.out; disks = c.0.untouched.disks } },
      line_logged (fault_line (faults.Text k fault)) old mid new r c.1 grew logs,
    )
    ends_by (faults.Read k) logs c = (
      (record { cause = input_cause names (input.Read k) old mid new logs.taken logs.read_faults c.0.0.cause; untouched = record { out = logs.out ∙ c.0.0.untouched.out; disks = c.0.0.untouched.disks } }, omega (arith, c.0.1, logs.read_faults)),
      line_logged (fault_line (faults.Read k)) old mid new r c.1 grew logs,
    )
    ends_by faults.NoMemory logs c = (logs.out ∙ c.out, line_logged (fault_line faults.NoMemory) old mid new r c.log grew logs)
    ends_by faults.Words logs c = given_still faults.Words logs c
    ends_by (faults.Event number reason) logs c = given_still (faults.Event number reason) logs c
    ends_by faults.Write logs c = given_still faults.Write logs c
    ends_by (faults.Disk x) logs c = given_still (faults.Disk x) logs c
    ends_by (faults.Journal x fault wanted) logs c = given_still (faults.Journal x fault wanted) logs c
    ends_by (faults.Incoherent bucket entries) logs c = given_still (faults.Incoherent bucket entries) logs c
    ends_by (faults.Full x) logs c = given_still (faults.Full x) logs c

  -- where nothing was put out or logged, there may be no memory for the line
  early_cause : (fault : Fault) (names : RunNames) → IsEarly fault → IsFilesCause fault (between tells old mid before after) names → IsFilesCause faults.NoMemory (between tells old mid before after) names
  early_cause (faults.Text k fault) names early c = record { out = c.0.untouched.out; log = c.1 }
  early_cause (faults.Read k) names early c = record { out = c.0.0.untouched.out; log = c.1 }
  early_cause (faults.Disk x) names early c = record { out = c.holds.1.untold.out; log = c.holds.1.untold.log }
  early_cause (faults.Journal x fault wanted) names early c = record { out = c.holds.2.untold.out; log = c.holds.2.untold.log }
  early_cause (faults.Incoherent bucket entries) names early c = record { out = c.holds.untold.out; log = c.holds.untold.log }
  early_cause (faults.Full x) names early c = record { out = c.holds.untold.out; log = c.holds.untold.log }
  early_cause (faults.Event number reason) names early c = absurd c.holds
  early_cause faults.Words names early c = absurd c.holds
  early_cause faults.Write names early c = absurd early
  early_cause faults.NoMemory names early c = absurd early

  pub told : (status : ℕ) (names : RunNames) (fault : Fault) → IsFilesCause fault (between tells old mid before after) names → IsToldOr fault status mid new → Ends status names (between tells old new before after)
  told status names fault c (inl is) = inr (fault, is.status_is, ends_by names is.logged.0 fault is.logged.1 c)
  told status names fault c (inr early) = inr (faults.NoMemory, early.1.status_is, ends_by names early.1.logged.0 faults.NoMemory early.1.logged.1 (early_cause fault names early.0 c))

-- ---- each status is one of eight

fault_status : {D : Type 0} (fault : Fault) (names : RunNames) (o : Outside D) → EndsBy fault names o → Contains statuses (status_of fault)
fault_status (faults.Text k fault) names o by = (1, lit< tt, refl)
fault_status (faults.Read k) names o by = (2, lit< tt, refl)
fault_status faults.Write names o by = (3, lit< tt, refl)
fault_status (faults.Disk x) names o by = (4, lit< tt, refl)
fault_status (faults.Journal x fault wanted) names o by = (5, lit< tt, refl)
fault_status (faults.Incoherent bucket entries) names o by = (5, lit< tt, refl)
fault_status faults.NoMemory names o by = (6, lit< tt, refl)
fault_status (faults.Full x) names o by = (7, lit< tt, refl)
fault_status faults.Words names o by = absurd by.holds.1
fault_status (faults.Event number reason) names o by = absurd by.holds.1

pub ends_with : {D : Type 0} (status : ℕ) (names : RunNames) (o : Outside D) → Ends status names o → Contains statuses status
ends_with status names o (inl ran) = by ran.holds
  where
    by : IsRunEnd status o ran.config ran.scripts → Contains statuses status
    by (inl zero) = subst (Contains statuses) (sym zero.0) (0, lit< tt, refl)
    by (inr seven) = subst (Contains statuses) (sym seven.0) (4, lit< tt, refl)
ends_with status names o (inr by) = subst (Contains statuses) (sym by.1) (fault_status by.0 names o by.2)
