-- How the command ends: a record for each status.
use Rattle.std.specs.Prelude.{◌≡◌, ◌⊎◌, ℕ, List}
use Rattle.std.specs.Io.KnownBytes.{Appends}
use Rattle.vs_base.specs.Faults.{Rose}
use Rattle.vs_ending.specs.Ending.{IsLogged, OnlyLogs}
use Rattle.vs_host.specs.Told.{Told}
use Rattle.vs_host.specs.Calls.{AppendsFront}
use Rattle.vs_inputs.specs.Files.{Files}
use Rattle.vs_script.specs.Calls.{Call}
use Rattle.vs_reads.specs.declared.fault.ReadsFault.{ReadsFault}
use Rattle.vs_reads.specs.declared.fault.ReadsFault.TheVariants as faults
use Rattle.vs_reads.specs.Causes.{IsInputCause}
use Rattle.vs_reads.specs.Given.{AreGiven}
use Rattle.vs_reads.specs.Lines.{status_of, fault_line}
use Rattle.vs_reads.specs.Names.{Names}
use Rattle.vs_reads.specs.Reads.{reads_of, reads_text, rows_in}

-- the text that the files give: what the reads answer on the rows that the writes leave
pub record HasAnswers (files : Files) (names : Names) (text : List ℕ) : Type 0 where
  pub writes : List Call
  pub clients : List (List Call)
  pub given : AreGiven files names writes clients
  pub text_is : text ≡ reads_text (rows_in writes) (reads_of clients)

-- ---- status 0: the answers were put out, and nothing was logged
pub record AreAnswered (old new : Told) (names : Names) : Type 0 where
  pub text : List ℕ
  pub answers : HasAnswers old.file names text
  pub out : Appends old.out new.out text
  pub log : new.log ≡ old.log

-- ---- status 3: this is wrong with a text, which is the first that isn't good, or the scripts may
-- not run together; status 5: reading a file failed, and the count of that rose
pub record AreRefused (fault : ReadsFault) (old new : Told) (names : Names) : Type 0 where
  pub cause : IsInputCause fault names old new
  pub out : new.out ≡ old.out

pub record IsReadFault (k : ℕ) (old new : Told) (names : Names) : Type 0 where
  pub cause : IsInputCause (faults.Read k) names old new
  pub rose : Rose old.read_faults new.read_faults
  pub out : new.out ≡ old.out

-- ---- status 6: a write failed, and a front of the answers was put out
pub record AreCut (old new : Told) (names : Names) : Type 0 where
  pub text : List ℕ
  pub answers : HasAnswers old.file names text
  pub out : AppendsFront old.out new.out text
  pub rose : Rose old.write_faults new.write_faults

-- ---- status 9: memory was refused, and nothing was put out

-- why no answers were put out
abbrev pub IsCause : ReadsFault → Told → Told → Names → Type 0
IsCause (faults.Text k fault) old new names = AreRefused (faults.Text k fault) old new names
IsCause (faults.NotReads k) old new names = AreRefused (faults.NotReads k) old new names
IsCause (faults.Read k) old new names = IsReadFault k old new names
IsCause faults.Write old new names = AreCut old new names
IsCause faults.NoMemory old new names = new.out ≡ old.out

-- the fault has its cause, and its line was logged
pub record EndsBy (fault : ReadsFault) (old new : Told) (names : Names) : Type 0 where
  pub cause : IsCause fault old new names
  pub logged : IsLogged (fault_line fault) old new

-- how the command ends, by its status
abbrev pub Ends : ℕ → Told → Told → Names → Type 0
Ends status old new names =
    ((status ≡ 0) × AreAnswered old new names)
    ⊎ ((fault : ReadsFault) × (status ≡ status_of fault) × EndsBy fault old new names)

-- the fault is told, or, where nothing was put out before, that there was no memory for its line
abbrev pub IsTold : ReadsFault → ℕ → Told → Told → Type 0
IsTold fault status old new = (status ≡ status_of fault) × OnlyLogs (fault_line fault) old new

abbrev pub IsEarly : ReadsFault → Type 0
IsEarly faults.Write = ⊥
IsEarly fault = Unit {0}

abbrev pub IsToldOr : ReadsFault → ℕ → Told → Told → Type 0
IsToldOr fault status old new =
    IsTold fault status old new ⊎ (IsEarly fault × IsTold faults.NoMemory status old new)

-- the fault isn't one of the texts
abbrev pub IsOfOutside : ReadsFault → Type 0
IsOfOutside (faults.Text k fault) = ⊥
IsOfOutside (faults.NotReads k) = ⊥
IsOfOutside fault = Unit {0}
