-- How the command ends: a record for each status.
use Rattle.std.specs.Prelude.{◌≡◌, ◌⊎◌, ◌≤◌, ℕ, List, length, Some, Ok, Err}
use Rattle.std.specs.Io.KnownBytes.{Appends}
use Rattle.vs_base.specs.Faults.{Rose}
use Rattle.vs_config.specs.Configuration.{Configuration}
use Rattle.vs_ending.specs.Ending.{IsLogged, OnlyLogs}
use Rattle.vs_host.specs.Told.{Told}
use Rattle.vs_host.specs.Calls.{AppendsFront}
use Rattle.vs_inputs.specs.declared.fault.InputFault.{InputFault}
use Rattle.vs_inputs.specs.declared.fault.InputFault.TheVariants as input
use Rattle.vs_inputs.specs.declared.fault.TextFault.{TextFault}
use Rattle.vs_inputs.specs.declared.read.TheConstants.{MOST_BYTES}
use Rattle.vs_inputs.specs.Files.{Files, HasText}
use Rattle.vs_inputs.specs.Gives.{GivesConfig}
use Rattle.vs_inputs.specs.Reading.{IsFileCause, IsGood, IsReadCause}
use Rattle.vs_plan.specs.declared.counts.SetCount.{SetCount}
use Rattle.vs_plan.specs.declared.fault.CountsFault.{CountsFault}
use Rattle.vs_plan.specs.declared.fault.PlanFault.{PlanFault}
use Rattle.vs_plan.specs.declared.fault.PlanFault.TheVariants as faults
use Rattle.vs_plan.specs.Lines.{status_of, fault_line}
use Rattle.vs_plan.specs.Names.{Names}
use Rattle.vs_plan.specs.Reading.{reading_of}
use Rattle.vs_plan.specs.Text.{IsPlanText}

abbrev pub HasConfig : Files → Names → Configuration → Type 0
HasConfig files names config = HasText files names.config (λ text. GivesConfig text (Ok config))

-- the text that the files give
pub record HasPlan (files : Files) (names : Names) (text : List ℕ) : Type 0 where
  pub config : Configuration
  pub config_file : HasConfig files names config
  pub counts : List SetCount
  pub counts_file : HasText files names.counts
      (λ text. reading_of (length config.sets) text ≡ Ok counts)
  pub plan : IsPlanText config counts text

-- ---- status 0: the plan was put out, and nothing was logged
pub record IsPlanned (old new : Told) (names : Names) : Type 0 where
  pub text : List ℕ
  pub plan : HasPlan old.file names text
  pub out : Appends old.out new.out text
  pub log : new.log ≡ old.log

-- why a file was not read: the configuration, or else the counts
abbrev pub IsInputCause : InputFault → Told → Told → Names → Type 0
IsInputCause fault old new names =
    IsFileCause fault 1 names.config GivesConfig old new
    ⊎ ((config : Configuration) × HasConfig old.file names config
    × IsReadCause fault 2 names.counts old new)

-- ---- status 3: this is wrong with a text, which is the first that isn't good
pub record IsTextRefused (k : ℕ) (fault : TextFault) (old new : Told) (names : Names)
    : Type 0 where
  pub cause : IsInputCause (input.Text k fault) old new names
  pub out : new.out ≡ old.out

pub record IsCountsRefused (fault : CountsFault) (old new : Told) (names : Names)
    : Type 0 where
  pub config : Configuration
  pub config_file : HasConfig old.file names config
  pub counts_file : HasText old.file names.counts
      (λ text. reading_of (length config.sets) text ≡ Err fault)
  pub out : new.out ≡ old.out

-- ---- status 5: reading a file failed
pub record IsReadFault (k : ℕ) (old new : Told) (names : Names) : Type 0 where
  pub cause : IsInputCause (input.Read k) old new names
  pub rose : Rose old.read_faults new.read_faults
  pub out : new.out ≡ old.out

-- ---- status 6: a write failed, and a front of the plan was put out
pub record IsPlanCut (old new : Told) (names : Names) : Type 0 where
  pub text : List ℕ
  pub plan : HasPlan old.file names text
  pub out : AppendsFront old.out new.out text
  pub rose : Rose old.write_faults new.write_faults

-- ---- status 9: memory was refused, and nothing was put out

-- why no plan was put out
abbrev pub IsCause : PlanFault → Told → Told → Names → Type 0
IsCause (faults.Text k fault) old new names = IsTextRefused k fault old new names
IsCause (faults.Counts fault) old new names = IsCountsRefused fault old new names
IsCause (faults.Read k) old new names = IsReadFault k old new names
IsCause faults.Write old new names = IsPlanCut old new names
IsCause faults.NoMemory old new names = new.out ≡ old.out

-- the fault has its cause, and its line was logged
pub record EndsBy (fault : PlanFault) (old new : Told) (names : Names) : Type 0 where
  pub cause : IsCause fault old new names
  pub logged : IsLogged (fault_line fault) old new

-- how the command ends, by its status
abbrev pub Ends : ℕ → Told → Told → Names → Type 0
Ends status old new names =
    ((status ≡ 0) × IsPlanned old new names)
    ⊎ ((fault : PlanFault) × (status ≡ status_of fault) × EndsBy fault old new names)

-- the fault is told, or, where nothing was put out before, that there was no memory for its line
abbrev pub IsTold : PlanFault → ℕ → Told → Told → Type 0
IsTold fault status old new = (status ≡ status_of fault) × OnlyLogs (fault_line fault) old new

abbrev pub IsEarly : PlanFault → Type 0
IsEarly faults.Write = ⊥
IsEarly fault = Unit {0}

abbrev pub IsToldOr : PlanFault → ℕ → Told → Told → Type 0
IsToldOr fault status old new =
    IsTold fault status old new ⊎ (IsEarly fault × IsTold faults.NoMemory status old new)

-- ---- what must be planned: both files are told, no longer than a text may be, and in their form
pub record AreGood (files : Files) (names : Names) : Type 0 where
  pub config : Configuration
  pub config_file : IsGood files names.config GivesConfig config
  pub counts : List SetCount
  pub text : List ℕ
  pub told : files names.counts ≡ Some text
  pub short : length text ≤ MOST_BYTES
  pub given : reading_of (length config.sets) text ≡ Ok counts

-- the fault isn't one of the texts
abbrev pub IsOfOutside : PlanFault → Type 0
IsOfOutside (faults.Text k fault) = ⊥
IsOfOutside (faults.Counts fault) = ⊥
IsOfOutside fault = Unit {0}
