-- How the program ends, by the command that its words are.
use Rattle.std.specs.Prelude.{◌≡◌, ◌⊎◌, ℕ, List, [], ◌∷◌, Option, Some, None}
use Rattle.vs_command.specs.Command.{Command}
use Rattle.vs_command.specs.Command as command
use Rattle.vs_command.specs.Usage.{usage}
use Rattle.vs_command.specs.Word.{Text}
use Rattle.vs_command.specs.declared.verbs.TheConstants.{BUILT}
use Rattle.vs_ending.specs.Ending.{IsLogged}
use Rattle.vs_ending.specs.Lines.{memory_line}
use Rattle.vs_auditing.specs.Endings as audit
use Rattle.vs_generating.specs.Endings as generating
use Rattle.vs_host.specs.Told.{Told}
use Rattle.vs_informing.specs.Endings as info
use Rattle.vs_inputs.specs.Words.{Names, files}
use Rattle.vs_plan.specs.Endings as plan
use Rattle.vs_plan.specs.Names.{files as plan_files}
use Rattle.vs_reads.specs.Endings as reads
use Rattle.vs_reads.specs.Names.{Names as ReadsNames}
use Rattle.vs_inputs.specs.RunInputs.{run_names}
use Rattle.vs_run.specs.Endings as run
use Rattle.vs_top.specs.Endings.{Outside, IsUntouched, IsPlayed, IsFilesCause}
use Rattle.vs_top.specs.Statuses.{status_of, fault_line}
use Rattle.vs_top.specs.declared.fault.Fault.{Fault}

abbrev pub statuses : List ℕ
statuses = 0 ∷ 2 ∷ 3 ∷ 4 ∷ 5 ∷ 6 ∷ 7 ∷ 8 ∷ 9 ∷ 10 ∷ 11 ∷ []

-- ---- words that are no command: that was logged, or that there was no memory to tell it
pub record AreNoCommand {D : Type 0} (status : ℕ) (o : Outside D) : Type 0 where
  pub untouched : IsUntouched o
  pub told : ((status ≡ 2) × IsLogged (usage BUILT) o.old o.new)
      ⊎ ((status ≡ 9) × IsLogged memory_line o.old o.new)

-- ---- `play`: the files were played, or the fault has its cause and its line was logged

pub record IsNotPlayed {D : Type 0} (fault : Fault) (status : ℕ) (names : Names) (o : Outside D)
    : Type 0 where
  pub status_is : status ≡ status_of fault
  pub cause : IsFilesCause fault o names
  pub logged : IsLogged (fault_line fault) o.old o.new

abbrev pub PlayEnds : {D : Type 0} → ℕ → Names → Outside D → Type 0
PlayEnds status names o =
    ((status ≡ 0) × IsPlayed o names) ⊎ ((fault : Fault) × IsNotPlayed fault status names o)

-- ---- commands that open no journal: the host is such before and after, and no disk is touched
pub record WithoutDisks {D : Type 0} (OfHost : Told → Told → Type 0) (o : Outside D) : Type 0 where
  pub host : OfHost o.old o.new
  pub disks : o.after ≡ o.before

-- the names of the files of `reads`
abbrev pub reads_files : Text → Text → List Text → ReadsNames
reads_files config rows scripts = record { config = config; rows = rows; files = scripts }

-- ---- each command

abbrev pub EndsBy : {D : Type 0} → Command → ℕ → Outside D → Type 0
EndsBy (command.Play config events scripts) status o = PlayEnds status (files config events scripts) o
EndsBy (command.Info config) status o = info.Ends status o config
EndsBy (command.Run config scripts) status o = run.Ends status (run_names config scripts) o
EndsBy (command.Gen number) status o = WithoutDisks (generating.Ends status number) o
EndsBy (command.Reads config rows scripts) status o = WithoutDisks (λ old new. reads.Ends status old new (reads_files config rows scripts)) o
EndsBy (command.Plan config counts) status o = WithoutDisks (λ old new. plan.Ends status old new (plan_files config counts)) o
EndsBy (command.Audit report) status o = WithoutDisks (λ old new. audit.Ends status old new report) o

abbrev pub Ends : {D : Type 0} → Option Command → ℕ → Outside D → Type 0
Ends None status o = AreNoCommand status o
Ends (Some c) status o = EndsBy c status o
