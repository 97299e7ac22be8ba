-- How a command ends: a record for each status.
use Rattle.std.specs.Prelude.{◌≡◌, ◌≢◌, ◌⊎◌, ◌≤◌, ℕ, IsTrue, IsOkAnd, Contains, List, [], ◌∷◌, length, Some, Ok}
use Rattle.std.specs.Io.KnownBytes.{Appends}
use Rattle.vs_auditing.specs.Texts.{IsLegalText}
use Rattle.vs_base.specs.Listed.{Listed}
use Rattle.vs_base.specs.Numbers.{IsSetNo}
use Rattle.vs_config.specs.Configuration.{Configuration}
use Rattle.vs_core.specs.Opened.{IsCoherentAt}
use Rattle.vs_disk.specs.Told as disk
use Rattle.vs_ending.specs.Ending.{IsLogged}
use Rattle.vs_event.specs.declared.event.Event.{Event}
use Rattle.vs_event.specs.declared.reason.Reason.{Reason}
use Rattle.vs_host.specs.Faults.{Rose}
use Rattle.vs_host.specs.Told.{Told}
use Rattle.vs_host.specs.Calls.{AppendsFront}
use Rattle.vs_inputs.specs.declared.fault.InputFault.TheVariants as input
use Rattle.vs_inputs.specs.declared.fault.TextFault.{TextFault}
use Rattle.vs_inputs.specs.Inputs.{AreInputs, AreGood, IsInputCause}
use Rattle.vs_inputs.specs.Words.{Names, IsCommand}
use Rattle.vs_machine.specs.Journals.{held_as, nothing}
use Rattle.vs_machine.specs.State.{State}
use Rattle.vs_machine.specs.Step.{run}
use Rattle.vs_record.specs.Durable.{Durable}
use Rattle.vs_script.specs.Scripts.{Scripts}
use Rattle.vs_space.specs.declared.status.Status.{Status}
use Rattle.vs_store.specs.Opening.{HasRoom}
use Rattle.vs_store.specs.Standing.{opened}
use Rattle.vs_store.specs.declared.fault.StoreFault.{StoreFault}
use Rattle.vs_store.specs.declared.fault.StoreFault.TheVariants as store
use Rattle.vs_stores.specs.Numbered.{at_number}
use Rattle.vs_world.specs.Began.{Began, start_of}
use Rattle.vs_world.specs.Journals.{head_of}
use Rattle.vs_world.specs.NotOpened.{IsNotOpened}
use Rattle.vs_world.specs.Opened.{AreStoodFor, IsSet, OfGiven}
use Rattle.vs_world.specs.declared.fault.WorldFault.TheVariants as world
use Rattle.vs_top.specs.declared.fault.Fault.{Fault}
use Rattle.vs_top.specs.declared.fault.Fault.TheVariants as faults
use Rattle.vs_top.specs.Plays.{Played, IsBegun, IsReportOf, IsRefusedAt, IsFailedAt, IsFullAt, HasFailed, AtNumber, journal_limit, played_on}
use Rattle.vs_top.specs.Statuses.{status_of, fault_line}

-- The outside of a call: what a disk tells, the host before and after, and the disks before and after.
pub record Outside (D : Type 0) : Type 1 where
  pub told : D → disk.Told
  pub old : Told
  pub new : Told
  pub before : List D
  pub after : List D

abbrev pub between : {D : Type 0} → (D → disk.Told) → Told → Told → List D → List D → Outside D
between told old new before after = record { told = told; old = old; new = new; before = before; after = after }

-- the words are a command, of whose files this holds
pub record ByCommand (words : List (List ℕ)) (Holds : Names → Type 0) : Type 0 where
  pub names : Names
  pub command : IsCommand words names
  pub holds : Holds names

-- the files are the texts of this configuration, these events and these scripts
pub record IsGiven {D : Type 0} (o : Outside D) (names : Names) : Type 0 where
  pub config : Configuration
  pub events : List Event
  pub scripts : Scripts
  pub inputs : AreInputs o.old.file names config events scripts

-- they are played on the disks
abbrev pub played : {D : Type 0} {o : Outside D} {names : Names} → IsGiven o names → Played D
played {D} {o} {names} given = record { told = o.told; config = given.config; scripts = given.scripts; events = given.events; before = o.before; after = o.after }

-- nothing was put out, and no disk was touched
pub record IsUntouched {D : Type 0} (o : Outside D) : Type 0 where
  pub out : o.new.out ≡ o.old.out
  pub disks : o.after ≡ o.before

-- the text is the report of what the files and the disks are
pub record HasReport {D : Type 0} (o : Outside D) (names : Names) (text : List ℕ) : Type 0 where
  pub given : IsGiven o names
  pub report : IsReportOf (played given) text

-- ---- status 0: the report was put out, which an audit finds legal, and nothing was logged
pub record IsPlayed {D : Type 0} (o : Outside D) (names : Names) : Type 0 where
  pub text : List ℕ
  pub report : HasReport o names text
  pub out : Appends o.old.out o.new.out text
  pub log : o.new.log ≡ o.old.log
  pub legal : IsLegalText text

-- ---- status 2: the words are no command
pub record IsNoCommand {D : Type 0} (o : Outside D) (words : List (List ℕ)) : Type 0 where
  pub none : (names : Names) → ¬ (IsCommand words names)
  pub untouched : IsUntouched o

-- ---- status 3: this is wrong with the text of the input, which is the first that isn't good
pub record IsTextRefused {D : Type 0} (k : ℕ) (fault : TextFault) (o : Outside D) (names : Names) : Type 0 where
  pub cause : IsInputCause names (input.Text k fault) o.old o.new
  pub untouched : IsUntouched o

-- ---- status 4: an event is impossible, after a run of those before it
pub record IsEventRefused {D : Type 0} (number : ℕ) (reason : Reason) (o : Outside D) (names : Names) : Type 0 where
  pub given : IsGiven o names
  pub refused : AtNumber (λ i. IsRefusedAt (played given) i reason) number
  pub out : o.new.out ≡ o.old.out

-- ---- status 5: reading the file of the input failed
pub record IsReadFault {D : Type 0} (k : ℕ) (o : Outside D) (names : Names) : Type 0 where
  pub cause : IsInputCause names (input.Read k) o.old o.new
  pub rose : Rose o.old.read_faults o.new.read_faults
  pub untouched : IsUntouched o

-- ---- status 6: a write failed, and a front of the report was put out
pub record IsReportCut {D : Type 0} (o : Outside D) (names : Names) : Type 0 where
  pub text : List ℕ
  pub report : HasReport o names text
  pub out : AppendsFront o.old.out o.new.out text
  pub rose : Rose o.old.write_faults o.new.write_faults

-- ---- status 7: the disk of set x failed, while the journals were opened or at an event
pub record IsDiskFault {D : Type 0} (x : ℕ) (o : Outside D) (names : Names) : Type 0 where
  pub given : IsGiven o names
  pub at : IsNotOpened o.told given.config journal_limit o.before (world.OfSet x store.DiskFault) o.after ⊎ ((n : ℕ) × AtNumber (λ i. IsFailedAt (played given) i x) n)
  pub number : IsSetNo x
  pub failed : HasFailed (played given) x
  pub out : o.new.out ≡ o.old.out

-- ---- status 8: the journal of set x is none, or that of another set than the one of this uuid, or of another number of buckets
abbrev pub IsOfBytes : StoreFault → Type 0
IsOfBytes (store.NotAJournal place) = Unit {0}
IsOfBytes (store.OtherSet uuid) = Unit {0}
IsOfBytes (store.OtherCount count) = Unit {0}
IsOfBytes fault = ⊥

pub record IsJournalRefused {D : Type 0} (x : ℕ) (fault : StoreFault) (wanted : List ℕ) (o : Outside D) (names : Names) : Type 0 where
  pub given : IsGiven o names
  pub of_bytes : IsOfBytes fault
  pub uuid : wanted ≡ (head_of given.config x).uuid
  pub refused : IsNotOpened o.told given.config journal_limit o.before (world.OfSet x fault) o.after
  pub out : o.new.out ≡ o.old.out

-- or what the journals stand for doesn't fit together
pub record IsIncoherent {D : Type 0} (bucket : ℕ) (entries : Listed (ℕ × Status)) (o : Outside D) (names : Names) : Type 0 where
  pub given : IsGiven o names
  pub refused : IsNotOpened o.told given.config journal_limit o.before (world.Incoherent bucket entries) o.after
  pub out : o.new.out ≡ o.old.out

-- ---- status 9: memory was refused, and nothing was put out

-- ---- status 10: an entry would carry the journal of set x past the limit, or its entries, written in the present form
pub record IsFull {D : Type 0} (x : ℕ) (o : Outside D) (names : Names) : Type 0 where
  pub given : IsGiven o names
  pub at : ((len : ℕ) × IsNotOpened o.told given.config journal_limit o.before (world.OfSet x (store.Full len)) o.after) ⊎ ((n : ℕ) × AtNumber (λ i. IsFullAt (played given) i x) n)
  pub out : o.new.out ≡ o.old.out

-- why files are not played
abbrev pub IsFilesCause : {D : Type 0} → Fault → Outside D → Names → Type 0
IsFilesCause faults.Words o names = ⊥
IsFilesCause (faults.Text k fault) o names = IsTextRefused k fault o names
IsFilesCause (faults.Event number reason) o names = IsEventRefused number reason o names
IsFilesCause (faults.Read k) o names = IsReadFault k o names
IsFilesCause faults.Write o names = IsReportCut o names
IsFilesCause (faults.Disk x) o names = IsDiskFault x o names
IsFilesCause (faults.Journal x fault wanted) o names = IsJournalRefused x fault wanted o names
IsFilesCause (faults.Incoherent bucket entries) o names = IsIncoherent bucket entries o names
IsFilesCause (faults.Full x) o names = IsFull x o names
IsFilesCause faults.NoMemory o names = o.new.out ≡ o.old.out

-- why a command ends with this fault
abbrev pub IsCause : {D : Type 0} → Fault → List (List ℕ) → Outside D → Type 0
IsCause faults.Words words o = IsNoCommand o words
IsCause fault words o = ByCommand words (IsFilesCause fault o)

-- the fault has its cause, and its line was logged
pub record EndsBy {D : Type 0} (fault : Fault) (words : List (List ℕ)) (o : Outside D) : Type 0 where
  pub cause : IsCause fault words o
  pub logged : IsLogged (fault_line fault) o.old o.new

-- how a command ends, by its status
abbrev pub Ends : {D : Type 0} → ℕ → List (List ℕ) → Outside D → Type 0
Ends status words o =
    ((status ≡ 0) × ByCommand words (IsPlayed o))
    ⊎ ((fault : Fault) × (status ≡ status_of fault) × EndsBy fault words o)

abbrev pub statuses : List ℕ
statuses = 0 ∷ 2 ∷ 3 ∷ 4 ∷ 5 ∷ 6 ∷ 7 ∷ 8 ∷ 9 ∷ 10 ∷ []

-- ---- what must be played

-- The disks tell what they read. Each holds nothing or the journal of its set, which has room to be written in the present form,
-- and what they stand for fits together.
pub record AreGoodDisks {D : Type 0} (told : D → disk.Told) (config : Configuration) (disks : List D) : Type 0 where
  pub tell : (x : ℕ) → OfGiven config disks x (λ it. IsTrue (told it).tells_reads)
  pub whole : (x : ℕ) → OfGiven config disks x (λ it. (told it).reads_as ≢ [] → IsOkAnd (opened (head_of config x) (told it).reads_as) (HasRoom journal_limit))
  pub fit : (states : ℕ → Durable) → AreStoodFor told config disks states → ((x : ℕ) → ¬ (IsSet config x) → states x ≡ nothing)
      → (b : ℕ) → 1 ≤ b → b ≤ config.bucket_count → IsCoherentAt (length config.sets) (held_as states) b

-- files of which each is in its form, and whose scripts may run together, over such disks; and no journal is full
pub record IsGood {D : Type 0} (o : Outside D) (names : Names) : Type 0 where
  pub files : AreGood o.old.file names
  pub disks : AreGoodDisks o.told files.config o.before
  pub none_full : (x : ℕ) → ¬ (IsFull x o names)

-- however it begins, all events are possible
abbrev pub ArePossible : {D : Type 0} → Played D → Type 0
ArePossible p = (b : Began) → IsBegun p b → (last : State) × (run (start_of b) p.events ≡ Ok last)

-- good files and disks, of which all events are possible
pub record CanBePlayed {D : Type 0} (o : Outside D) (names : Names) : Type 0 where
  pub good : IsGood o names
  pub possible : ArePossible (played_on o.told good.files.config good.files.scripts good.files.events o.before o.after)

-- neither a read nor a write failed, and no disk
pub record NoneRose {D : Type 0} (o : Outside D) : Type 0 where
  pub reads : ¬ (Rose o.old.read_faults o.new.read_faults)
  pub writes : ¬ (Rose o.old.write_faults o.new.write_faults)
  pub disks : (x : ℕ) (was is : D) → at_number o.before x ≡ Some was → at_number o.after x ≡ Some is → ¬ (disk.Failed (o.told was) (o.told is))

-- where none of them failed, a command of which this holds ends with one of these statuses
abbrev pub MayEndWith : {D : Type 0} → List ℕ → (Outside D → Names → Type 0) → ℕ → List (List ℕ) → Outside D → Type 0
MayEndWith all Holds status words o = ByCommand words (Holds o) → NoneRose o → Contains all status

-- ---- what may still happen to good files and disks, and where all events are possible

abbrev pub MayEndGood : Fault → Type 0
MayEndGood (faults.Text k fault) = ⊥
MayEndGood (faults.Journal x fault wanted) = ⊥
MayEndGood (faults.Incoherent bucket entries) = ⊥
MayEndGood fault = Unit {0}

abbrev pub MayEndPossible : Fault → Type 0
MayEndPossible (faults.Event number reason) = ⊥
MayEndPossible fault = MayEndGood fault
