-- How the command ends.
use Rattle.std.proofs.Common.{◌≡◌, ◌≤◌, ℕ, List, [], ◌∷◌, lit<, refl, sym, ◌∙◌, subst, arith, inl, inr}
use Rattle.std.specs.Prelude.{Contains}
use Rattle.vs_ending.specs.Ending.{IsLogged, KeepsHost, NoneRose, OnlyLogs}
use Rattle.vs_audit.specs.Legal.{IsLegalAccount}
use Rattle.vs_host.specs.Told.{Told}
use Rattle.vs_inputs.specs.Files.{Files, HasText}
use Rattle.vs_auditing.specs.declared.fault.ReportFault.{ReportFault}
use Rattle.vs_auditing.specs.declared.fault.ReportFault.TheVariants as faults
use Rattle.vs_auditing.specs.Endings.{IsCause, Ends, IsTold, IsToldOr, IsEarly, IsTextFile}
use Rattle.vs_auditing.specs.Lines.{status_of, fault_line}
use Rattle.vs_auditing.specs.Texts.{IsLegalText, IsIllegalText, IsNoReport, IsBadAt, IsIllegalAt}

-- ---- the line is logged after the fault

cause_later : (fault : ReportFault) (line name : List ℕ) (old mid new : Told) → OnlyLogs line mid new → IsCause fault old mid name → IsCause fault old new name
cause_later faults.TooLong line name old mid new logs c = record { long = c.long; taken = omega (arith, c.taken, logs.taken); out = logs.out ∙ c.out }
cause_later (faults.BadReport number) line name old mid new logs c = record { report = c.report; out = logs.out ∙ c.out }
cause_later faults.Read line name old mid new logs c = record { rose = omega (arith, c.rose, logs.read_faults); out = logs.out ∙ c.out }
cause_later faults.Write line name old mid new logs c = record { report = c.report; out = rw logs.out c.out; rose = omega (arith, c.rose, logs.host.write_faults) }
cause_later (faults.Illegal number kind) line name old mid new logs c = record { report = c.report; out = logs.out ∙ c.out }
cause_later faults.NoMemory line name old mid new logs c = logs.out ∙ c

early_cause : (fault : ReportFault) (name : List ℕ) (old mid : Told) → IsEarly fault → IsCause fault old mid name → IsCause faults.NoMemory old mid name
early_cause faults.TooLong name old mid early c = c.out
early_cause (faults.BadReport number) name old mid early c = c.out
early_cause faults.Read name old mid early c = c.out
early_cause faults.Write name old mid early c = absurd early
early_cause (faults.Illegal number kind) name old mid early c = c.out
early_cause faults.NoMemory name old mid early c = c

line_logged : (line : List ℕ) (old mid new : Told) → mid.log ≡ old.log → old.write_faults ≤ mid.write_faults → IsLogged line mid new → IsLogged line old new
line_logged line old mid new same grew (inl whole) = inl (rw (← same) whole)
line_logged line old mid new same grew (inr front) = inr (rw (← same) front.0, omega (arith, front.1, grew))

told : (fault : ReportFault) (status : ℕ) (name : List ℕ) (old mid new : Told) → mid.log ≡ old.log → KeepsHost old mid → IsCause fault old mid name → IsTold fault status mid new → Ends status old new name
told fault status name old mid new same kept cause is =
    inr (
      fault,
      is.0,
      record {
        cause = cause_later fault (fault_line fault) name old mid new is.1 cause;
        logged = line_logged (fault_line fault) old mid new same kept.write_faults is.1.logged;
      },
    )

pub ends : (fault : ReportFault) (status : ℕ) (name : List ℕ) (old mid new : Told) → mid.log ≡ old.log → KeepsHost old mid → IsCause fault old mid name → IsToldOr fault status mid new → Ends status old new name
ends fault status name old mid new same kept cause (inl is) = told fault status name old mid new same kept cause is
ends fault status name old mid new same kept cause (inr early) = told faults.NoMemory status name old mid new same kept (early_cause fault name old mid early.0 cause) early.1

-- ---- with which statuses

abbrev statuses : List ℕ
statuses = 0 ∷ 3 ∷ 5 ∷ 6 ∷ 9 ∷ 11 ∷ []

fault_status : (fault : ReportFault) → Contains statuses (status_of fault)
fault_status faults.TooLong = (1, lit< tt, refl)
fault_status (faults.BadReport number) = (1, lit< tt, refl)
fault_status faults.Read = (2, lit< tt, refl)
fault_status faults.Write = (3, lit< tt, refl)
fault_status (faults.Illegal number kind) = (5, lit< tt, refl)
fault_status faults.NoMemory = (4, lit< tt, refl)

pub status_told : (fault : ReportFault) (status : ℕ) (mid new : Told) → IsToldOr fault status mid new → Contains statuses status
status_told fault status mid new (inl is) = subst (Contains statuses) (sym is.0) (fault_status fault)
status_told fault status mid new (inr early) = subst (Contains statuses) (sym early.1.0) (4, lit< tt, refl)

keeps_logs : (line : List ℕ) (old mid new : Told) → KeepsHost old mid → OnlyLogs line mid new → KeepsHost old new
keeps_logs line old mid new kept logs = record {
  files = record { file = logs.host.files.file ∙ kept.files.file; may_read = logs.host.files.may_read ∙ kept.files.may_read };
  read_faults = omega (arith, kept.read_faults, logs.host.read_faults);
  write_faults = omega (arith, kept.write_faults, logs.host.write_faults);
}

pub keeps_told : (fault : ReportFault) (status : ℕ) (old mid new : Told) → KeepsHost old mid → IsToldOr fault status mid new → KeepsHost old new
keeps_told fault status old mid new kept (inl is) = keeps_logs (fault_line fault) old mid new kept is.1
keeps_told fault status old mid new kept (inr early) = keeps_logs (fault_line faults.NoMemory) old mid new kept early.1.1

-- ---- with which statuses a file that is told ends, where neither a read nor a write fails

-- what the file holds is the text that is told
text_is : (files : Files) (name : List ℕ) (P Q : List ℕ → Type 0) (file : IsTextFile files name P) → HasText files name Q → Q file.text
text_is files name P Q file has =
    let same : has.0 ≡ file.text = rw file.told at has.1 in
    subst Q same has.2

module _ (old new : Told) (name : List ℕ) (none : NoneRose old new) where
  pub legal_ends : (status : ℕ) → IsTextFile old.file name IsLegalText → Ends status old new name → Contains (0 ∷ 9 ∷ []) status
  legal_ends status file (inl good) = (0, lit< tt, sym good.0)
  legal_ends status file (inr (faults.TooLong, is, by)) = let long = rw file.told at by.cause.long in absurd (omega (arith, long, file.short))
  legal_ends status file (inr (faults.BadReport number, is, by)) = let bad = text_is old.file name IsLegalText (IsBadAt number) file by.cause.report in let no : ⊥ = cc (bad, file.is.1) in absurd no
  legal_ends status file (inr (faults.Read, is, by)) = absurd (none.reads by.cause.rose)
  legal_ends status file (inr (faults.Write, is, by)) = absurd (none.writes by.cause.rose)
  legal_ends status file (inr (faults.Illegal number kind, is, by)) =
      let wrong = text_is old.file name IsLegalText (IsIllegalAt number kind) file by.cause.report in
      let same : wrong.0 ≡ file.is.0 = cc (wrong.1, file.is.1) in
      absurd (file.is.2 number kind (rw same at wrong.2.wrong))
  legal_ends status file (inr (faults.NoMemory, is, by)) = (1, lit< tt, sym is)

  pub illegal_ends : (status : ℕ) → IsTextFile old.file name IsIllegalText → Ends status old new name → Contains (9 ∷ 11 ∷ []) status
  illegal_ends status file (inl good) =
      let legal = text_is old.file name IsIllegalText IsLegalText file good.1.report in
      let same : legal.0 ≡ file.is.0 = cc (legal.1, file.is.1) in
      absurd (file.is.2 (subst IsLegalAccount same legal.2))
  illegal_ends status file (inr (faults.TooLong, is, by)) = let long = rw file.told at by.cause.long in absurd (omega (arith, long, file.short))
  illegal_ends status file (inr (faults.BadReport number, is, by)) = let bad = text_is old.file name IsIllegalText (IsBadAt number) file by.cause.report in let no : ⊥ = cc (bad, file.is.1) in absurd no
  illegal_ends status file (inr (faults.Read, is, by)) = absurd (none.reads by.cause.rose)
  illegal_ends status file (inr (faults.Write, is, by)) = absurd (none.writes by.cause.rose)
  illegal_ends status file (inr (faults.Illegal number kind, is, by)) = (1, lit< tt, sym is)
  illegal_ends status file (inr (faults.NoMemory, is, by)) = (0, lit< tt, sym is)

  pub refused_ends : (status : ℕ) → IsTextFile old.file name IsNoReport → Ends status old new name → Contains (3 ∷ 9 ∷ []) status
  refused_ends status file (inl good) = let legal = text_is old.file name IsNoReport IsLegalText file good.1.report in let no : ⊥ = cc (legal.1, file.is.1) in absurd no
  refused_ends status file (inr (faults.TooLong, is, by)) = (0, lit< tt, sym is)
  refused_ends status file (inr (faults.BadReport number, is, by)) = (0, lit< tt, sym is)
  refused_ends status file (inr (faults.Read, is, by)) = absurd (none.reads by.cause.rose)
  refused_ends status file (inr (faults.Write, is, by)) = absurd (none.writes by.cause.rose)
  refused_ends status file (inr (faults.Illegal number kind, is, by)) = let wrong = text_is old.file name IsNoReport (IsIllegalAt number kind) file by.cause.report in let no : ⊥ = cc (wrong.1, file.is.1) in absurd no
  refused_ends status file (inr (faults.NoMemory, is, by)) = (1, lit< tt, sym is)
