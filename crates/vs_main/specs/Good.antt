-- How a command ends that has good inputs, where nothing of the outside fails.
use Rattle.std.specs.Prelude.{ℕ, List, Contains, [], ◌∷◌, Option, Some, None}
use Rattle.vs_base.specs.Faults.{Rose}
use Rattle.vs_command.specs.Command.{Command}
use Rattle.vs_command.specs.Command as command
use Rattle.vs_command.specs.Word.{Text}
use Rattle.vs_auditing.specs.Endings as audit
use Rattle.vs_auditing.specs.Texts.{IsLegalText, IsIllegalText, IsNoReport}
use Rattle.vs_ending.specs.Ending as ending
use Rattle.vs_informing.specs.Endings as info
use Rattle.vs_plan.specs.Endings as plan
use Rattle.vs_plan.specs.Names.{files as plan_files}
use Rattle.vs_inputs.specs.Words.{Names, files}
use Rattle.vs_reads.specs.Given as reads
use Rattle.vs_main.specs.Endings.{reads_files}
use Rattle.vs_inputs.specs.RunInputs.{run_names}
use Rattle.vs_run.specs.Endings as run
use Rattle.vs_top.specs.Endings.{Outside, IsGood, CanBePlayed, NoneRose}

-- good files over good disks end by a report, an impossible event or want of memory; where all events are possible no event is
-- refused
abbrev pub PlayEndsWell : {D : Type 0} → ℕ → Names → Outside D → Type 0
PlayEndsWell status names o =
    (IsGood o names → NoneRose o → Contains (0 ∷ 4 ∷ 9 ∷ []) status)
    × (CanBePlayed o names → NoneRose o → Contains (0 ∷ 9 ∷ []) status)

-- a good configuration over good disks is told
abbrev pub InfoEndsWell : {D : Type 0} → ℕ → Text → Outside D → Type 0
InfoEndsWell status config o = info.IsGood o config → NoneRose o → Contains (0 ∷ 9 ∷ []) status

-- good scripts of reads are answered
abbrev pub ReadsEndWell : {D : Type 0} → ℕ → Text → Text → List Text → Outside D → Type 0
ReadsEndWell status config rows scripts o =
    reads.AreGood o.old.file (reads_files config rows scripts) → ending.NoneRose o.old o.new → Contains (0 ∷ 9 ∷ []) status

-- good files of a plan give one
abbrev pub PlanEndsWell : {D : Type 0} → ℕ → Text → Text → Outside D → Type 0
PlanEndsWell status config counts o =
    plan.AreGood o.old.file (plan_files config counts) → ending.NoneRose o.old o.new → Contains (0 ∷ 9 ∷ []) status

-- a legal report, one that isn't, and a text that is none
pub record AuditEndsWell {D : Type 0} (status : ℕ) (report : Text) (o : Outside D) : Type 0 where
  pub legal : audit.IsTextFile o.old.file report IsLegalText → ending.NoneRose o.old o.new → Contains (0 ∷ 9 ∷ []) status
  pub illegal : audit.IsTextFile o.old.file report IsIllegalText → ending.NoneRose o.old o.new → Contains (9 ∷ 11 ∷ []) status
  pub refused : audit.IsTextFile o.old.file report IsNoReport → ending.NoneRose o.old o.new → Contains (3 ∷ 9 ∷ []) status

-- a number's work is run, where no write fails
abbrev pub GenEndsWell : {D : Type 0} → ℕ → Outside D → Type 0
GenEndsWell status o = ¬ (Rose o.old.write_faults o.new.write_faults) → Contains (0 ∷ 9 ∷ []) status

abbrev pub EndsWellBy : {D : Type 0} → Command → ℕ → Outside D → Type 0
EndsWellBy (command.Run config scripts) status o = run.EndsWell status (run_names config scripts) o
EndsWellBy (command.Play config events scripts) status o =
    PlayEndsWell status (files config events scripts) o
EndsWellBy (command.Info config) status o = InfoEndsWell status config o
EndsWellBy (command.Reads config rows scripts) status o = ReadsEndWell status config rows scripts o
EndsWellBy (command.Plan config counts) status o = PlanEndsWell status config counts o
EndsWellBy (command.Audit report) status o = AuditEndsWell status report o
EndsWellBy (command.Gen number) status o = GenEndsWell status o

abbrev pub EndsWell : {D : Type 0} → Option Command → ℕ → Outside D → Type 0
EndsWell None status o = Unit {0}
EndsWell (Some c) status o = EndsWellBy c status o
