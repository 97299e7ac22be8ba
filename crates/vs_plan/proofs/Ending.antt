-- How the command ends.
use Rattle.std.proofs.Common.{◌≡◌, ◌≤◌, ℕ, List, [], ◌∷◌, length, lit<, refl, sym, ◌∙◌, subst, arith, inl, inr, Result, Ok, Err}
use Rattle.std.specs.Prelude.{Contains, IfOk, MatchResult}
use Rattle.std.specs.Global.{Vec}
use Rattle.vs_config.specs.Configuration.{Configuration}
use Rattle.vs_base.specs.declared.memory.NoMemory.{NoMemory}
use Rattle.vs_ending.specs.Lines.{memory_line}
use Rattle.vs_ending.specs.Ending.{IsLogged, KeepsHost, NoneRose, OnlyLogs}
use Rattle.vs_host.specs.declared.fault.HostFailed.{HostFailed}
use Rattle.vs_host.specs.Told.{Told}
use Rattle.vs_host.specs.Calls.{PutsOut}
use Rattle.vs_inputs.specs.declared.fault.InputFault.{InputFault}
use Rattle.vs_inputs.specs.declared.fault.InputFault.TheVariants as input
use Rattle.vs_inputs.specs.declared.fault.TextFault.{TextFault}
use Rattle.vs_inputs.specs.declared.fault.TextFault.TheVariants as text
use Rattle.vs_inputs.specs.Files.{Files, IsTooLong, IsTextOf}
use Rattle.vs_inputs.specs.Gives.{GivesConfig}
use Rattle.vs_inputs.specs.Reading.{OnlyReads, IsFileCause, IsReadCause, TookTooMuch}
use Rattle.vs_plan.specs.declared.fault.CountsError.{CountsError}
use Rattle.vs_plan.specs.declared.fault.CountsError.TheVariants as error
use Rattle.vs_plan.specs.declared.fault.PlanFault.{PlanFault}
use Rattle.vs_plan.specs.declared.fault.PlanFault.TheVariants as faults
use Rattle.vs_plan.specs.Endings.{HasConfig, HasPlan, IsInputCause, IsCause, IsPlanned, IsPlanCut, Ends, IsTold, IsToldOr, IsEarly, IsOfOutside}
use Rattle.vs_plan.specs.Faults.{from_counts, from_input, IsBad}
use Rattle.vs_plan.specs.Lines.{status_of, fault_line}
use Rattle.vs_plan.specs.Names.{Names}
use Rattle.vs_plan.specs.Reading.{reading_of}

-- ---- files that are read one after the other

pub reads_both : (old mid new : Told) → OnlyReads old mid → OnlyReads mid new → OnlyReads old new
reads_both old mid new a b = record {
  files = record { file = b.files.file ∙ a.files.file; may_read = b.files.may_read ∙ a.files.may_read };
  out = b.out ∙ a.out;
  log = b.log ∙ a.log;
  write_faults = b.write_faults ∙ a.write_faults;
  read_faults = omega (arith, a.read_faults, b.read_faults);
}

read_cause : (fault : InputFault) (place : ℕ) (name : List ℕ) (old mid new : Told) → OnlyReads old mid → IsReadCause fault place name mid new → IsReadCause fault place name old new
read_cause (input.Text k text.TooLong) place name old mid new reads cause = (cause.0, subst (λ (f : Files). IsTooLong f name) reads.files.file cause.1, cause.2)
read_cause (input.Text k other) place name old mid new reads cause = cause
read_cause (input.Read k) place name old mid new reads cause = (cause.0, omega (arith, cause.1, reads.read_faults))
read_cause input.NoMemory place name old mid new reads cause = tt

-- ---- why files give no plan

fault_of_input : (fault : InputFault) (names : Names) (old new : Told) → OnlyReads old new → IsInputCause fault old new names → IsCause (from_input fault) old new names
fault_of_input (input.Text k fault) names old new reads cause = record { cause = cause; out = reads.out }
fault_of_input (input.Read k) names old new reads (inl config) = record { cause = inl config; rose = config.1; out = reads.out }
fault_of_input (input.Read k) names old new reads (inr counts) = record { cause = inr counts; rose = counts.2.1; out = reads.out }
fault_of_input input.NoMemory names old new reads cause = reads.out

pub config_fault : (fault : InputFault) (names : Names) (old new : Told) → OnlyReads old new → IsFileCause fault 1 names.config GivesConfig old new → IsCause (from_input fault) old new names
config_fault fault names old new reads cause = fault_of_input fault names old new reads (inl cause)

pub counts_fault : (fault : InputFault) (names : Names) (config : Configuration) (old mid new : Told) → HasConfig old.file names config → OnlyReads old mid → OnlyReads mid new → IsReadCause fault 2 names.counts mid new
    → IsCause (from_input fault) old new names
counts_fault fault names config old mid new has first second cause =
    fault_of_input fault names old new (reads_both old mid new first second) (inr (config, has, read_cause fault 2 names.counts old mid new first cause))

-- the text of the counts is the one that stood there before the configuration was read
pub text_before : (name bytes : List ℕ) (old mid : Told) → OnlyReads old mid → IsTextOf mid.file name bytes → IsTextOf old.file name bytes
text_before name bytes old mid reads is = subst (λ (f : Files). IsTextOf f name bytes) reads.files.file is

pub counts_bad : (error : CountsError) (names : Names) (config : Configuration) (bytes : List ℕ) (old mid new : Told) → HasConfig old.file names config → OnlyReads old mid → OnlyReads mid new → IsTextOf mid.file names.counts bytes
    → IsBad error (reading_of (length config.sets) bytes) → IsCause (from_counts error) old new names
counts_bad (error.Bad fault) names config bytes old mid new has first second is bad =
    record {
      config = config;
      config_file = has;
      counts_file = (bytes, text_before names.counts bytes old mid first is, bad);
      out = second.out ∙ first.out;
    }
counts_bad error.NoMemory names config bytes old mid new has first second is bad = second.out ∙ first.out

-- ---- the plan, or a front of it, is put out

pub keeps : (old new : Told) → OnlyReads old new → KeepsHost old new
keeps old new reads = record { files = reads.files; read_faults = reads.read_faults; write_faults = omega (arith, reads.write_faults) }

pub keeps_put : {U : Type 0} (bytes : List ℕ) (old mid new : Told) (r : Result U HostFailed) → OnlyReads old mid → PutsOut bytes mid new r → KeepsHost old new
keeps_put bytes old mid new r reads puts = record {
  files = record { file = puts.files.file ∙ reads.files.file; may_read = puts.files.may_read ∙ reads.files.may_read };
  read_faults = omega (arith, reads.read_faults, puts.read_faults);
  write_faults = omega (arith, reads.write_faults, puts.later);
}

pub is_planned : (names : Names) (text bytes : List ℕ) (old mid new : Told) (u : Unit {0}) → HasPlan old.file names text → OnlyReads old mid → bytes ≡ text → PutsOut bytes mid new (Ok u) → IsPlanned old new names
is_planned names text bytes old mid new u has reads is puts = record {
  text = text;
  plan = has;
  out = rw (← reads.out, ← is) puts.out;
  log = puts.log ∙ reads.log;
}

pub is_cut : (names : Names) (text bytes : List ℕ) (old mid new : Told) (e : HostFailed) → HasPlan old.file names text → OnlyReads old mid → bytes ≡ text → PutsOut {U = Unit {0}} bytes mid new (Err e) → IsPlanCut old new names
is_cut names text bytes old mid new e has reads is puts = record {
  text = text;
  plan = has;
  out = rw (← reads.out, ← is) puts.out;
  rose = rw (← reads.write_faults) puts.failed;
}

-- ---- the line is logged after the fault

took : (fault : TextFault) (mid new : Told) → new.taken ≡ mid.taken → TookTooMuch fault mid → TookTooMuch fault new
took text.TooLong mid new same more = omega (arith, same, more)
took fault mid new same more = tt

file_later : (fault : InputFault) (name : List ℕ) (old mid new : Told) → new.taken ≡ mid.taken → new.read_faults ≡ mid.read_faults → IsFileCause fault 1 name GivesConfig old mid → IsFileCause fault 1 name GivesConfig old new
file_later (input.Text k fault) name old mid new taken faults cause = (cause.0, cause.1, took fault mid new taken cause.2)
file_later (input.Read k) name old mid new taken faults cause = (cause.0, omega (arith, cause.1, faults))
file_later input.NoMemory name old mid new taken faults cause = tt

read_later : (fault : InputFault) (name : List ℕ) (old mid new : Told) → new.taken ≡ mid.taken → new.read_faults ≡ mid.read_faults → IsReadCause fault 2 name old mid → IsReadCause fault 2 name old new
read_later (input.Text k text.TooLong) name old mid new taken faults cause = (cause.0, cause.1, omega (arith, taken, cause.2))
read_later (input.Text k other) name old mid new taken faults cause = cause
read_later (input.Read k) name old mid new taken faults cause = (cause.0, omega (arith, cause.1, faults))
read_later input.NoMemory name old mid new taken faults cause = tt

input_later : (fault : InputFault) (names : Names) (old mid new : Told) → new.taken ≡ mid.taken → new.read_faults ≡ mid.read_faults → IsInputCause fault old mid names → IsInputCause fault old new names
input_later fault names old mid new taken faults (inl cause) = inl (file_later fault names.config old mid new taken faults cause)
input_later fault names old mid new taken faults (inr cause) = inr (cause.0, cause.1, read_later fault names.counts old mid new taken faults cause.2)

cause_later : (fault : PlanFault) (line : List ℕ) (names : Names) (old mid new : Told) → OnlyLogs line mid new → IsCause fault old mid names → IsCause fault old new names
cause_later (faults.Text k fault) line names old mid new logs c = record { cause = input_later (input.Text k fault) names old mid new logs.taken logs.read_faults c.cause; out = logs.out ∙ c.out }
cause_later (faults.Counts fault) line names old mid new logs c = record { config = c.config; config_file = c.config_file; counts_file = c.counts_file; out = logs.out ∙ c.out }
cause_later (faults.Read k) line names old mid new logs c = record {
  cause = input_later (input.Read k) names old mid new logs.taken logs.read_faults c.cause;
  rose = omega (arith, c.rose, logs.read_faults);
  out = logs.out ∙ c.out;
}
cause_later faults.Write line names old mid new logs c = record { text = c.text; plan = c.plan; out = rw logs.out c.out; rose = omega (arith, c.rose, logs.host.write_faults) }
cause_later faults.NoMemory line names old mid new logs c = logs.out ∙ c

early_cause : (fault : PlanFault) (names : Names) (old mid : Told) → IsEarly fault → IsCause fault old mid names → IsCause faults.NoMemory old mid names
early_cause (faults.Text k fault) names old mid early c = c.out
early_cause (faults.Counts fault) names old mid early c = c.out
early_cause (faults.Read k) names old mid early c = c.out
early_cause faults.Write names old mid early c = absurd early
early_cause faults.NoMemory names old mid early c = c

line_logged : (line : List ℕ) (old mid new : Told) → mid.log ≡ old.log → old.write_faults ≤ mid.write_faults → IsLogged line mid new → IsLogged line old new
line_logged line old mid new same grew (inl whole) = inl (rw (← same) whole)
line_logged line old mid new same grew (inr front) = inr (rw (← same) front.0, omega (arith, front.1, grew))

told : (fault : PlanFault) (status : ℕ) (names : Names) (old mid new : Told) → mid.log ≡ old.log → KeepsHost old mid → IsCause fault old mid names → IsTold fault status mid new → Ends status old new names
told fault status names old mid new same kept cause is =
    inr (
      fault,
      is.0,
      record {
        cause = cause_later fault (fault_line fault) names old mid new is.1 cause;
        logged = line_logged (fault_line fault) old mid new same kept.write_faults is.1.logged;
      },
    )

pub ends : (fault : PlanFault) (status : ℕ) (names : Names) (old mid new : Told) → mid.log ≡ old.log → KeepsHost old mid → IsCause fault old mid names → IsToldOr fault status mid new → Ends status old new names
ends fault status names old mid new same kept cause (inl is) = told fault status names old mid new same kept cause is
ends fault status names old mid new same kept cause (inr early) = told faults.NoMemory status names old mid new same kept (early_cause fault names old mid early.0 cause) early.1

-- ---- with which statuses

abbrev statuses : List ℕ
statuses = 0 ∷ 3 ∷ 5 ∷ 6 ∷ 9 ∷ []

fault_status : (fault : PlanFault) → Contains statuses (status_of fault)
fault_status (faults.Text k fault) = (1, lit< tt, refl)
fault_status (faults.Counts fault) = (1, lit< tt, refl)
fault_status (faults.Read k) = (2, lit< tt, refl)
fault_status faults.Write = (3, lit< tt, refl)
fault_status faults.NoMemory = (4, lit< tt, refl)

pub status_told : (fault : PlanFault) (status : ℕ) (mid new : Told) → IsToldOr fault status mid new → Contains statuses status
status_told fault status mid new (inl is) = subst (Contains statuses) (sym is.0) (fault_status fault)
status_told fault status mid new (inr early) = subst (Contains statuses) (sym early.1.0) (4, lit< tt, refl)

keeps_logs : (line : List ℕ) (old mid new : Told) → KeepsHost old mid → OnlyLogs line mid new → KeepsHost old new
keeps_logs line old mid new kept logs = record {
  files = record { file = logs.host.files.file ∙ kept.files.file; may_read = logs.host.files.may_read ∙ kept.files.may_read };
  read_faults = omega (arith, kept.read_faults, logs.host.read_faults);
  write_faults = omega (arith, kept.write_faults, logs.host.write_faults);
}

pub keeps_told : (fault : PlanFault) (status : ℕ) (old mid new : Told) → KeepsHost old mid → IsToldOr fault status mid new → KeepsHost old new
keeps_told fault status old mid new kept (inl is) = keeps_logs (fault_line fault) old mid new kept is.1
keeps_told fault status old mid new kept (inr early) = keeps_logs (fault_line faults.NoMemory) old mid new kept early.1.1

-- ---- what good files end with

abbrev good_statuses : List ℕ
good_statuses = 0 ∷ 9 ∷ []

good_status : (fault : PlanFault) (names : Names) (old mid new : Told) → NoneRose old new → mid.read_faults ≤ new.read_faults → mid.write_faults ≤ new.write_faults → IsCause fault old mid names → IsOfOutside fault → Contains good_statuses (status_of fault)
good_status (faults.Text k fault) names old mid new none reads writes cause may = absurd may
good_status (faults.Counts fault) names old mid new none reads writes cause may = absurd may
good_status (faults.Read k) names old mid new none reads writes cause may = absurd (none.reads (omega (arith, cause.rose, reads)))
good_status faults.Write names old mid new none reads writes cause may = absurd (none.writes (omega (arith, cause.rose, writes)))
good_status faults.NoMemory names old mid new none reads writes cause may = (1, lit< tt, refl)

pub good_told : (fault : PlanFault) (status : ℕ) (names : Names) (old mid new : Told) → NoneRose old new → IsCause fault old mid names → IsOfOutside fault → IsToldOr fault status mid new → Contains good_statuses status
good_told fault status names old mid new none cause may (inl is) =
    subst (Contains good_statuses) (sym is.0) (good_status fault names old mid new none is.1.host.read_faults is.1.host.write_faults cause may)
good_told fault status names old mid new none cause may (inr early) = subst (Contains good_statuses) (sym early.1.0) (1, lit< tt, refl)

-- ---- a line is told

pub line_told : (fault : PlanFault) (line : Result (Vec ℕ) NoMemory) (status : ℕ) (result : ℕ) (old new : Told) → IsEarly fault → IfOk line (λ (l : Vec ℕ). l.items ≡ fault_line fault) → status ≡ status_of fault
    → MatchResult line (λ (l : Vec ℕ). (result ≡ status) × OnlyLogs l.items old new) (λ (_ : NoMemory). (result ≡ 9) × OnlyLogs memory_line old new) → IsToldOr fault result old new
line_told fault (Ok line) status result old new early is of told = inl (told.0 ∙ of, subst (λ (l : List ℕ). OnlyLogs l old new) is told.1)
line_told fault (Err e) status result old new early is of told = inr (early, told)
