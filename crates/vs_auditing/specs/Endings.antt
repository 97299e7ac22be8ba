-- How the command ends: a record for each status.
use Rattle.std.specs.Prelude.{◌≡◌, ◌⊎◌, ◌≤◌, ◌<◌, ℕ, List, length, Some}
use Rattle.std.specs.Io.KnownBytes.{Appends}
use Rattle.vs_audit.specs.declared.fault.Illegal as kinds
use Rattle.vs_base.specs.Faults.{Rose}
use Rattle.vs_ending.specs.Ending.{IsLogged, OnlyLogs}
use Rattle.vs_host.specs.Calls.{AppendsFront}
use Rattle.vs_host.specs.Told.{Told}
use Rattle.vs_inputs.specs.declared.read.TheConstants.{MOST_BYTES}
use Rattle.vs_inputs.specs.Files.{Files, HasText, IsTooLong}
use Rattle.vs_auditing.specs.declared.fault.ReportFault.{ReportFault}
use Rattle.vs_auditing.specs.declared.fault.ReportFault.TheVariants as faults
use Rattle.vs_auditing.specs.Lines.{status_of, fault_line, legal_line}
use Rattle.vs_auditing.specs.Texts.{IsLegalText, IsBadAt, IsIllegalAt}

-- ---- status 0: the report is legal, `legal` was put out, and nothing was logged
pub record IsFoundLegal (old new : Told) (name : List ℕ) : Type 0 where
  pub report : HasText old.file name IsLegalText
  pub out : Appends old.out new.out legal_line
  pub log : new.log ≡ old.log

-- ---- status 3: the file is too long, or this line is the first that isn't in the grammar
pub record IsLongFile (old new : Told) (name : List ℕ) : Type 0 where
  pub long : IsTooLong old.file name
  pub taken : MOST_BYTES < new.taken
  pub out : new.out ≡ old.out

pub record IsBadFile (line : ℕ) (old new : Told) (name : List ℕ) : Type 0 where
  pub report : HasText old.file name (IsBadAt line)
  pub out : new.out ≡ old.out

-- ---- status 5: reading the file failed
pub record IsReadFault (old new : Told) : Type 0 where
  pub rose : Rose old.read_faults new.read_faults
  pub out : new.out ≡ old.out

-- ---- status 6: the report is legal, and a front of `legal` was put out before a write failed
pub record IsCut (old new : Told) (name : List ℕ) : Type 0 where
  pub report : HasText old.file name IsLegalText
  pub out : AppendsFront old.out new.out legal_line
  pub rose : Rose old.write_faults new.write_faults

-- ---- status 11: the report isn't legal, and this line shows it first, by this kind
pub record IsIllegalFile (line : ℕ) (kind : kinds.Illegal) (old new : Told) (name : List ℕ) : Type 0 where
  pub report : HasText old.file name (IsIllegalAt line kind)
  pub out : new.out ≡ old.out

-- ---- status 9: memory was refused, and nothing was put out

-- why it wasn't told that the report is legal
abbrev pub IsCause : ReportFault → Told → Told → List ℕ → Type 0
IsCause faults.TooLong old new name = IsLongFile old new name
IsCause (faults.BadReport line) old new name = IsBadFile line old new name
IsCause faults.Read old new name = IsReadFault old new
IsCause faults.Write old new name = IsCut old new name
IsCause (faults.Illegal line kind) old new name = IsIllegalFile line kind old new name
IsCause faults.NoMemory old new name = new.out ≡ old.out

-- the fault has its cause, and its line was logged
pub record EndsBy (fault : ReportFault) (old new : Told) (name : List ℕ) : Type 0 where
  pub cause : IsCause fault old new name
  pub logged : IsLogged (fault_line fault) old new

-- how the command ends, by its status
abbrev pub Ends : ℕ → Told → Told → List ℕ → Type 0
Ends status old new name =
    ((status ≡ 0) × IsFoundLegal old new name)
    ⊎ ((fault : ReportFault) × (status ≡ status_of fault) × EndsBy fault old new name)

-- the fault is told, or, where nothing was put out before, that there was no memory for its line
abbrev pub IsTold : ReportFault → ℕ → Told → Told → Type 0
IsTold fault status old new = (status ≡ status_of fault) × OnlyLogs (fault_line fault) old new

abbrev pub IsEarly : ReportFault → Type 0
IsEarly faults.Write = ⊥
IsEarly fault = Unit {0}

abbrev pub IsToldOr : ReportFault → ℕ → Told → Told → Type 0
IsToldOr fault status old new = IsTold fault status old new ⊎ (IsEarly fault × IsTold faults.NoMemory status old new)

-- ---- the file is told, is no longer than a text may be, and such a text
pub record IsTextFile (files : Files) (name : List ℕ) (P : List ℕ → Type 0) : Type 0 where
  pub text : List ℕ
  pub told : files name ≡ Some text
  pub short : length text ≤ MOST_BYTES
  pub is : P text
