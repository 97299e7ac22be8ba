-- How the command `run` ends, by its status.
use Rattle.std.specs.Prelude.{◌≡◌, ◌⊎◌, ℕ, List, [], ◌∷◌, Option, Contains}
use Rattle.std.specs.Io.KnownBytes.{Appends}
use Rattle.vs_auditing.specs.Texts.{IsLegalText}
use Rattle.vs_base.specs.Faults.{Rose}
use Rattle.vs_base.specs.Numbers.{IsSetNo}
use Rattle.vs_config.specs.Configuration.{Configuration}
use Rattle.vs_disk.specs.Told.{Told}
use Rattle.vs_event.specs.declared.event.Event.{Event}
use Rattle.vs_event.specs.Event.{events_text}
use Rattle.vs_host.specs.Calls.{AppendsFront}
use Rattle.vs_inputs.specs.declared.fault.InputFault.{InputFault}
use Rattle.vs_inputs.specs.declared.fault.InputFault.TheVariants as input
use Rattle.vs_inputs.specs.RunInputs.{RunNames, AreRunInputs, AreGoodRunInputs, IsRunInputCause}
use Rattle.vs_machine.specs.Report.{report}
use Rattle.vs_machine.specs.State.{State}
use Rattle.vs_script.specs.Scripts.{Scripts}
use Rattle.vs_store.specs.declared.fault.StoreFault.TheVariants as store
use Rattle.vs_world.specs.Journals.{head_of}
use Rattle.vs_world.specs.NotOpened.{IsNotOpened}
use Rattle.vs_world.specs.declared.fault.WorldFault.{WorldFault}
use Rattle.vs_world.specs.declared.fault.WorldFault.TheVariants as world
use Rattle.vs_ending.specs.Ending.{IsLogged}
use Rattle.vs_top.specs.Endings.{Outside, IsUntouched, IsOfBytes, NoneRose, AreGoodDisks}
use Rattle.vs_top.specs.Plays.{Played, played_on, journal_limit}
use Rattle.vs_top.specs.Statuses.{status_of, fault_line}
use Rattle.vs_top.specs.declared.fault.Fault.{Fault}
use Rattle.vs_top.specs.declared.fault.Fault.TheVariants as faults
use Rattle.vs_run.specs.Runs.{IsSettledRun, IsDownAfter, IsFullOfDrivers, IsFullOfService}

-- these scripts were run on the disks, with some list of events, of which and of the state after it this holds
pub record IsRunWith {D : Type 0} (told : D → Told) (config : Configuration) (scripts : Scripts) (before after : List D) (Holds : Played D → State → Type 0) : Type 0 where
  pub events : List Event
  pub last : State
  pub holds : Holds (played_on told config scripts events before after) last

abbrev pub HasRun : {D : Type 0} → Outside D → Configuration → Scripts → (Played D → State → Type 0) → Type 0
HasRun o config scripts Holds = IsRunWith o.told config scripts o.before o.after Holds

-- the files are the texts of a configuration and of scripts of which this holds
pub record HasGiven {D : Type 0} (o : Outside D) (names : RunNames) (Holds : Configuration → Scripts → Type 0) : Type 0 where
  pub config : Configuration
  pub scripts : Scripts
  pub inputs : AreRunInputs o.old.file names config scripts
  pub holds : Holds config scripts

-- behind what was logged before stands this line, or a front of it where a write failed
abbrev pub EndsInLine : {D : Type 0} → List ℕ → Option (List ℕ) → Outside D → Type 0
EndsInLine line before o = Appends before o.new.log line ⊎ (AppendsFront before o.new.log line × Rose o.old.write_faults o.new.write_faults)

-- ---- status 0: the report was put out, which an audit finds legal, and the text of the events was logged
pub record IsRan {D : Type 0} (o : Outside D) (config : Configuration) (scripts : Scripts) : Type 0 where
  pub run : HasRun o config scripts IsSettledRun
  pub out : Appends o.old.out o.new.out (report run.last)
  pub log : Appends o.old.log o.new.log (events_text run.events)
  pub legal : IsLegalText (report run.last)

-- ---- status 7, where the cluster came to be settled: the text of the events was logged, or a front of it where a write failed, and then
-- the line
pub record IsFailedAtRest {D : Type 0} (x : ℕ) (o : Outside D) (config : Configuration) (scripts : Scripts) : Type 0 where
  pub number : IsSetNo x
  pub run : HasRun o config scripts (λ p last. IsDownAfter p last x)
  pub out : o.new.out ≡ o.old.out
  pub between : Option (List ℕ)
  pub events : Appends o.old.log between (events_text run.events) ⊎ (AppendsFront o.old.log between (events_text run.events) × Rose o.old.write_faults o.new.write_faults)
  pub line : EndsInLine (fault_line (faults.Disk x)) between o

-- ---- the faults that are logged as a line alone

-- nothing was put out, and nothing was logged before
pub record IsUntold {D : Type 0} (o : Outside D) (logged : Option (List ℕ)) : Type 0 where
  pub out : o.new.out ≡ o.old.out
  pub log : logged ≡ o.old.log

-- the journals weren't opened, for this cause
pub record IsNotBegun {D : Type 0} (fault : WorldFault) (o : Outside D) (config : Configuration) (logged : Option (List ℕ)) : Type 0 where
  pub refused : IsNotOpened o.told config journal_limit o.before fault o.after
  pub untold : IsUntold o logged

-- a write failed, that of the report or that of the events
pub record IsCut {D : Type 0} (o : Outside D) (config : Configuration) (scripts : Scripts) (logged : Option (List ℕ)) : Type 0 where
  pub run : HasRun o config scripts IsSettledRun
  pub rose : Rose o.old.write_faults o.new.write_faults
  pub at : (AppendsFront o.old.out o.new.out (report run.last) × (logged ≡ o.old.log))
      ⊎ (Appends o.old.out o.new.out (report run.last) × AppendsFront o.old.log logged (events_text run.events))

-- the journal of set x has no room: as it was opened, for every entry, or for one of the service
pub record IsFull {D : Type 0} (x : ℕ) (o : Outside D) (config : Configuration) (scripts : Scripts) (logged : Option (List ℕ)) : Type 0 where
  pub at : ((len : ℕ) × IsNotOpened o.told config journal_limit o.before (world.OfSet x (store.Full len)) o.after)
      ⊎ HasRun o config scripts (λ p last. IsFullOfDrivers p last x)
      ⊎ HasRun o config scripts (λ p last. IsFullOfService p last x)
  pub untold : IsUntold o logged

-- why scripts were not run to the end, where this was logged when the fault came
abbrev pub IsRunCause : {D : Type 0} → Fault → Outside D → Configuration → Scripts → Option (List ℕ) → Type 0
IsRunCause faults.Write o config scripts logged = IsCut o config scripts logged
IsRunCause (faults.Disk x) o config scripts logged = IsSetNo x × IsNotBegun (world.OfSet x store.DiskFault) o config logged
IsRunCause (faults.Journal x fault wanted) o config scripts logged = IsOfBytes fault × (wanted ≡ (head_of config x).uuid) × IsNotBegun (world.OfSet x fault) o config logged
IsRunCause (faults.Incoherent bucket entries) o config scripts logged = IsNotBegun (world.Incoherent bucket entries) o config logged
IsRunCause (faults.Full x) o config scripts logged = IsFull x o config scripts logged
IsRunCause faults.NoMemory o config scripts logged = IsUntold o logged
IsRunCause fault o config scripts logged = ⊥

-- ---- the files

-- the first file that isn't good, or the scripts together; no disk was touched
pub record IsInputRefused {D : Type 0} (fault : InputFault) (o : Outside D) (names : RunNames) : Type 0 where
  pub cause : IsRunInputCause names fault o.old o.new
  pub untouched : IsUntouched o

abbrev pub IsReadCause : {D : Type 0} → ℕ → Outside D → RunNames → Type 0
IsReadCause k o names = IsInputRefused (input.Read k) o names × Rose o.old.read_faults o.new.read_faults

-- ---- the end

-- it ended by itself, with this status
abbrev pub IsRunEnd : {D : Type 0} → ℕ → Outside D → Configuration → Scripts → Type 0
IsRunEnd status o config scripts = ((status ≡ 0) × IsRan o config scripts) ⊎ ((status ≡ 7) × ((x : ℕ) × IsFailedAtRest x o config scripts))

-- why it didn't, where nothing but events was logged
abbrev pub IsFilesCause : {D : Type 0} → Fault → Outside D → RunNames → Type 0
IsFilesCause (faults.Text k fault) o names = IsInputRefused (input.Text k fault) o names × (o.new.log ≡ o.old.log)
IsFilesCause (faults.Read k) o names = IsReadCause k o names × (o.new.log ≡ o.old.log)
IsFilesCause faults.NoMemory o names = IsUntold o o.new.log
IsFilesCause fault o names = HasGiven o names (λ config scripts. IsRunCause fault o config scripts o.new.log)

-- and the line of that was logged
abbrev pub EndsBy : {D : Type 0} → Fault → RunNames → Outside D → Type 0
EndsBy (faults.Text k fault) names o = IsInputRefused (input.Text k fault) o names × IsLogged (fault_line (faults.Text k fault)) o.old o.new
EndsBy (faults.Read k) names o = IsReadCause k o names × IsLogged (fault_line (faults.Read k)) o.old o.new
EndsBy faults.NoMemory names o = (o.new.out ≡ o.old.out) × IsLogged (fault_line faults.NoMemory) o.old o.new
EndsBy fault names o = HasGiven o names (λ config scripts. (logged : Option (List ℕ)) × IsRunCause fault o config scripts logged × EndsInLine (fault_line fault) logged o)

-- how the command ends, by its status
abbrev pub Ends : {D : Type 0} → ℕ → RunNames → Outside D → Type 0
Ends status names o = HasGiven o names (IsRunEnd status o) ⊎ ((fault : Fault) × (status ≡ status_of fault) × EndsBy fault names o)

abbrev pub statuses : List ℕ
statuses = 0 ∷ 3 ∷ 5 ∷ 6 ∷ 7 ∷ 8 ∷ 9 ∷ 10 ∷ []

-- ---- good files over good disks

-- each file is in its form, the scripts may run together, and no journal is full
pub record IsGood {D : Type 0} (o : Outside D) (names : RunNames) : Type 0 where
  pub files : AreGoodRunInputs o.old.file names
  pub disks : AreGoodDisks o.told files.config o.before
  pub none_full : (x : ℕ) → ¬ (HasGiven o names (λ config scripts. (logged : Option (List ℕ)) × IsFull x o config scripts logged))

-- where neither a read nor a write failed, and no disk, they end so
abbrev pub EndsWell : {D : Type 0} → ℕ → RunNames → Outside D → Type 0
EndsWell status names o = IsGood o names → NoneRose o → Contains (0 ∷ 9 ∷ []) status
