-- How the command ends.
use Rattle.std.proofs.Common.{◌≡◌, ◌≤◌, ℕ, List, [], ◌∷◌, lit<, refl, sym, ◌∙◌, subst, arith, inl, inr, Result, Ok, Err}
use Rattle.std.specs.Prelude.{Contains}
use Rattle.vs_base.specs.Faults.{Rose}
use Rattle.vs_base.specs.declared.numbers.Mode.{Mode}
use Rattle.vs_config.specs.Configuration.{Configuration}
use Rattle.vs_ending.specs.Ending.{IsLogged, KeepsHost, NoneRose, OnlyLogs}
use Rattle.vs_host.specs.declared.fault.HostFailed.{HostFailed}
use Rattle.vs_host.specs.Told.{Told}
use Rattle.vs_host.specs.Calls.{PutsOut}
use Rattle.vs_inputs.specs.declared.fault.InputFault.{InputFault}
use Rattle.vs_inputs.specs.declared.fault.InputFault.TheVariants as input
use Rattle.vs_inputs.specs.declared.fault.TextFault.{TextFault}
use Rattle.vs_inputs.specs.declared.fault.TextFault.TheVariants as text
use Rattle.vs_inputs.specs.Files.{Files}
use Rattle.vs_inputs.specs.Gives.{GivesConfig, GivesScript}
use Rattle.vs_inputs.specs.Reading.{OnlyReads, IsFileCause, TookTooMuch}
use Rattle.vs_reads.specs.declared.fault.ReadsFault.{ReadsFault}
use Rattle.vs_reads.specs.declared.fault.ReadsFault.TheVariants as faults
use Rattle.vs_reads.specs.Causes.{IsConfigCause, IsCallsCause, IsInputCause, config_place}
use Rattle.vs_reads.specs.Endings.{HasAnswers, IsCause, AreAnswered, AreCut, Ends, IsTold, IsToldOr, IsEarly, IsOfOutside}
use Rattle.vs_reads.specs.Given.{AreGiven}
use Rattle.vs_reads.specs.Lines.{status_of, fault_line}
use Rattle.vs_reads.specs.Names.{Names}
use Rattle.vs_reads.specs.Reads.{reads_of, reads_text, rows_in}
use Rattle.vs_script.specs.Calls.{Call}

-- ---- why files give no answers

rose_of : (k : ℕ) (names : Names) (old new : Told) → IsInputCause (faults.Read k) names old new → Rose old.read_faults new.read_faults
rose_of k names old new (inl c) = c.1
rose_of k names old new (inr (inl c)) = c.cause.1
rose_of k names old new (inr (inr (inl c))) = c.files.cause.1
rose_of k names old new (inr (inr (inr c))) = elim c.refused [ inl w ↦ absurd w | inr w ↦ absurd w ]

no_write : (names : Names) (old new : Told) → IsInputCause faults.Write names old new → ⊥
no_write names old new (inl c) = c
no_write names old new (inr (inl c)) = c.cause
no_write names old new (inr (inr (inl c))) = c.files.cause
no_write names old new (inr (inr (inr c))) = elim c.refused [ inl w ↦ absurd w | inr w ↦ absurd w ]

pub input_cause : (fault : ReadsFault) (names : Names) (old new : Told) → OnlyReads old new → IsInputCause fault names old new → IsCause fault old new names
input_cause (faults.Text k fault) names old new reads cause = record { cause = cause; out = reads.out }
input_cause (faults.NotReads k) names old new reads cause = record { cause = cause; out = reads.out }
input_cause (faults.Read k) names old new reads cause = record { cause = cause; rose = rose_of k names old new cause; out = reads.out }
input_cause faults.Write names old new reads cause = absurd (no_write names old new cause)
input_cause faults.NoMemory names old new reads cause = reads.out

-- ---- the answers, or a front of them, are put out

pub has_answers : (files : Files) (names : Names) (writes : List Call) (clients : List (List Call)) (text : List ℕ) → AreGiven files names writes clients → text ≡ reads_text (rows_in writes) (reads_of clients) → HasAnswers files names text
has_answers files names writes clients text given is = record { writes = writes; clients = clients; given = given; text_is = is }

pub keeps : (old new : Told) → OnlyReads old new → KeepsHost old new
keeps old new reads = record { files = reads.files; read_faults = reads.read_faults; write_faults = omega (arith, reads.write_faults) }

pub keeps_put : {U : Type 0} (bytes : List ℕ) (old mid new : Told) (r : Result U HostFailed) → OnlyReads old mid → PutsOut bytes mid new r → KeepsHost old new
keeps_put bytes old mid new r reads puts = record {
  files = record { file = puts.files.file ∙ reads.files.file; may_read = puts.files.may_read ∙ reads.files.may_read };
  read_faults = omega (arith, reads.read_faults, puts.read_faults);
  write_faults = omega (arith, reads.write_faults, puts.later);
}

pub are_answered : (names : Names) (text bytes : List ℕ) (old mid new : Told) (u : Unit {0}) → HasAnswers old.file names text → OnlyReads old mid → bytes ≡ text → PutsOut bytes mid new (Ok u) → AreAnswered old new names
are_answered names text bytes old mid new u has reads is puts = record {
  text = text;
  answers = has;
  out = rw (← reads.out, ← is) puts.out;
  log = puts.log ∙ reads.log;
}

pub is_cut : (names : Names) (text bytes : List ℕ) (old mid new : Told) (e : HostFailed) → HasAnswers old.file names text → OnlyReads old mid → bytes ≡ text → PutsOut {U = Unit {0}} bytes mid new (Err e) → AreCut old new names
is_cut names text bytes old mid new e has reads is puts = record {
  text = text;
  answers = has;
  out = rw (← reads.out, ← is) puts.out;
  rose = rw (← reads.write_faults) puts.failed;
}

-- ---- the line is logged after the fault

took : (fault : TextFault) (mid new : Told) → new.taken ≡ mid.taken → TookTooMuch fault mid → TookTooMuch fault new
took text.TooLong mid new same more = omega (arith, same, more)
took fault mid new same more = tt

file_later : {Y : Type 0} (fault : InputFault) (place : ℕ) (name : List ℕ) (Gives : List ℕ → Result Y TextFault → Type 0) (old mid new : Told) → new.taken ≡ mid.taken → new.read_faults ≡ mid.read_faults → IsFileCause fault place name Gives old mid
    → IsFileCause fault place name Gives old new
file_later (input.Text k fault) place name Gives old mid new taken faults cause = (cause.0, cause.1, took fault mid new taken cause.2)
file_later (input.Read k) place name Gives old mid new taken faults cause = (cause.0, omega (arith, cause.1, faults))
file_later input.NoMemory place name Gives old mid new taken faults cause = tt

config_later : (fault : ReadsFault) (names : Names) (old mid new : Told) → new.taken ≡ mid.taken → new.read_faults ≡ mid.read_faults → IsConfigCause fault names old mid → IsConfigCause fault names old new
config_later (faults.Text k fault) names old mid new taken same cause = file_later (input.Text k fault) config_place names.config GivesConfig old mid new taken same cause
config_later (faults.NotReads k) names old mid new taken same cause = cause
config_later (faults.Read k) names old mid new taken same cause = file_later (input.Read k) config_place names.config GivesConfig old mid new taken same cause
config_later faults.Write names old mid new taken same cause = cause
config_later faults.NoMemory names old mid new taken same cause = tt

calls_later : (fault : ReadsFault) (mode : Mode) (config : Configuration) (place : ℕ) (name : List ℕ) (old mid new : Told) → new.taken ≡ mid.taken → new.read_faults ≡ mid.read_faults → IsCallsCause fault mode config place name old mid
    → IsCallsCause fault mode config place name old new
calls_later (faults.Text k fault) mode config place name old mid new taken same cause = file_later (input.Text k fault) place name (GivesScript config) old mid new taken same cause
calls_later (faults.NotReads k) mode config place name old mid new taken same cause = cause
calls_later (faults.Read k) mode config place name old mid new taken same cause = file_later (input.Read k) place name (GivesScript config) old mid new taken same cause
calls_later faults.Write mode config place name old mid new taken same cause = cause
calls_later faults.NoMemory mode config place name old mid new taken same cause = tt

input_later : (fault : ReadsFault) (names : Names) (old mid new : Told) → new.taken ≡ mid.taken → new.read_faults ≡ mid.read_faults → IsInputCause fault names old mid → IsInputCause fault names old new
input_later fault names old mid new taken same (inl c) = inl (config_later fault names old mid new taken same c)
input_later fault names old mid new taken same (inr (inl c)) = inr (inl (record { config = c.config; config_file = c.config_file; cause = calls_later fault _ c.config _ _ old mid new taken same c.cause }))
input_later fault names old mid new taken same (inr (inr (inl c))) = inr (inr (inl (record {
  config = c.config;
  config_file = c.config_file;
  writes = c.writes;
  rows_file = c.rows_file;
  files = record { before = c.files.before; before_files = c.files.before_files; there = c.files.there; cause = calls_later fault _ c.config _ _ old mid new taken same c.files.cause };
})))
input_later fault names old mid new taken same (inr (inr (inr c))) = inr (inr (inr c))

cause_later : (fault : ReadsFault) (line : List ℕ) (names : Names) (old mid new : Told) → OnlyLogs line mid new → IsCause fault old mid names → IsCause fault old new names
cause_later (faults.Text k fault) line names old mid new logs c = record { cause = input_later (faults.Text k fault) names old mid new logs.taken logs.read_faults c.cause; out = logs.out ∙ c.out }
cause_later (faults.NotReads k) line names old mid new logs c = record { cause = input_later (faults.NotReads k) names old mid new logs.taken logs.read_faults c.cause; out = logs.out ∙ c.out }
cause_later (faults.Read k) line names old mid new logs c = record {
  cause = input_later (faults.Read k) names old mid new logs.taken logs.read_faults c.cause;
  rose = omega (arith, c.rose, logs.read_faults);
  out = logs.out ∙ c.out;
}
cause_later faults.Write line names old mid new logs c = record { text = c.text; answers = c.answers; out = rw logs.out c.out; rose = omega (arith, c.rose, logs.host.write_faults) }
cause_later faults.NoMemory line names old mid new logs c = logs.out ∙ c

early_cause : (fault : ReadsFault) (names : Names) (old mid : Told) → IsEarly fault → IsCause fault old mid names → IsCause faults.NoMemory old mid names
early_cause (faults.Text k fault) names old mid early c = c.out
early_cause (faults.NotReads k) names old mid early c = c.out
early_cause (faults.Read k) names old mid early c = c.out
early_cause faults.Write names old mid early c = absurd early
early_cause faults.NoMemory names old mid early c = c

line_logged : (line : List ℕ) (old mid new : Told) → mid.log ≡ old.log → old.write_faults ≤ mid.write_faults → IsLogged line mid new → IsLogged line old new
line_logged line old mid new same grew (inl whole) = inl (rw (← same) whole)
line_logged line old mid new same grew (inr front) = inr (rw (← same) front.0, omega (arith, front.1, grew))

told : (fault : ReadsFault) (status : ℕ) (names : Names) (old mid new : Told) → mid.log ≡ old.log → KeepsHost old mid → IsCause fault old mid names → IsTold fault status mid new → Ends status old new names
told fault status names old mid new same kept cause is =
    inr (
      fault,
      is.0,
      record {
        cause = cause_later fault (fault_line fault) names old mid new is.1 cause;
        logged = line_logged (fault_line fault) old mid new same kept.write_faults is.1.logged;
      },
    )

pub ends : (fault : ReadsFault) (status : ℕ) (names : Names) (old mid new : Told) → mid.log ≡ old.log → KeepsHost old mid → IsCause fault old mid names → IsToldOr fault status mid new → Ends status old new names
ends fault status names old mid new same kept cause (inl is) = told fault status names old mid new same kept cause is
ends fault status names old mid new same kept cause (inr early) = told faults.NoMemory status names old mid new same kept (early_cause fault names old mid early.0 cause) early.1

-- ---- with which statuses

abbrev statuses : List ℕ
statuses = 0 ∷ 3 ∷ 5 ∷ 6 ∷ 9 ∷ []

fault_status : (fault : ReadsFault) → Contains statuses (status_of fault)
fault_status (faults.Text k fault) = (1, lit< tt, refl)
fault_status (faults.NotReads k) = (1, lit< tt, refl)
fault_status (faults.Read k) = (2, lit< tt, refl)
fault_status faults.Write = (3, lit< tt, refl)
fault_status faults.NoMemory = (4, lit< tt, refl)

pub status_told : (fault : ReadsFault) (status : ℕ) (mid new : Told) → IsToldOr fault status mid new → Contains statuses status
status_told fault status mid new (inl is) = subst (Contains statuses) (sym is.0) (fault_status fault)
status_told fault status mid new (inr early) = subst (Contains statuses) (sym early.1.0) (4, lit< tt, refl)

keeps_logs : (line : List ℕ) (old mid new : Told) → KeepsHost old mid → OnlyLogs line mid new → KeepsHost old new
keeps_logs line old mid new kept logs = record {
  files = record { file = logs.host.files.file ∙ kept.files.file; may_read = logs.host.files.may_read ∙ kept.files.may_read };
  read_faults = omega (arith, kept.read_faults, logs.host.read_faults);
  write_faults = omega (arith, kept.write_faults, logs.host.write_faults);
}

pub keeps_told : (fault : ReadsFault) (status : ℕ) (old mid new : Told) → KeepsHost old mid → IsToldOr fault status mid new → KeepsHost old new
keeps_told fault status old mid new kept (inl is) = keeps_logs (fault_line fault) old mid new kept is.1
keeps_told fault status old mid new kept (inr early) = keeps_logs (fault_line faults.NoMemory) old mid new kept early.1.1

-- ---- what good files end with

abbrev good_statuses : List ℕ
good_statuses = 0 ∷ 9 ∷ []

good_status : (fault : ReadsFault) (names : Names) (old mid new : Told) → NoneRose old new → mid.read_faults ≤ new.read_faults → mid.write_faults ≤ new.write_faults → IsCause fault old mid names → IsOfOutside fault → Contains good_statuses (status_of fault)
good_status (faults.Text k fault) names old mid new none reads writes cause may = absurd may
good_status (faults.NotReads k) names old mid new none reads writes cause may = absurd may
good_status (faults.Read k) names old mid new none reads writes cause may = absurd (none.reads (omega (arith, cause.rose, reads)))
good_status faults.Write names old mid new none reads writes cause may = absurd (none.writes (omega (arith, cause.rose, writes)))
good_status faults.NoMemory names old mid new none reads writes cause may = (1, lit< tt, refl)

pub good_told : (fault : ReadsFault) (status : ℕ) (names : Names) (old mid new : Told) → NoneRose old new → IsCause fault old mid names → IsOfOutside fault → IsToldOr fault status mid new → Contains good_statuses status
good_told fault status names old mid new none cause may (inl is) =
    subst (Contains good_statuses) (sym is.0) (good_status fault names old mid new none is.1.host.read_faults is.1.host.write_faults cause may)
good_told fault status names old mid new none cause may (inr early) = subst (Contains good_statuses) (sym early.1.0) (1, lit< tt, refl)
