-- How the command ends: a record for each status.
use Rattle.std.specs.Prelude.{◌≡◌, ◌⊎◌, ℕ, List, Ok}
use Rattle.std.specs.Io.KnownBytes.{Appends}
use Rattle.vs_base.specs.Faults.{Rose}
use Rattle.vs_base.specs.Listed.{Listed}
use Rattle.vs_base.specs.Numbers.{IsSetNo}
use Rattle.vs_config.specs.Configuration.{Configuration}
use Rattle.vs_ending.specs.Ending.{IsLogged}
use Rattle.vs_host.specs.Calls.{AppendsFront}
use Rattle.vs_inputs.specs.declared.fault.InputFault.{InputFault}
use Rattle.vs_inputs.specs.declared.fault.InputFault.TheVariants as input
use Rattle.vs_inputs.specs.declared.fault.TextFault.{TextFault}
use Rattle.vs_inputs.specs.Files.{HasText}
use Rattle.vs_inputs.specs.Gives.{GivesConfig}
use Rattle.vs_inputs.specs.Places.{config_place}
use Rattle.vs_inputs.specs.Reading as reading
use Rattle.vs_inputs.specs.Reading.{IsFileCause}
use Rattle.vs_space.specs.declared.status.Status.{Status}
use Rattle.vs_store.specs.declared.fault.StoreFault.{StoreFault}
use Rattle.vs_store.specs.declared.fault.StoreFault.TheVariants as store
use Rattle.vs_top.specs.Endings.{AreGoodDisks, IsOfBytes, IsUntouched, Outside}
use Rattle.vs_top.specs.Plays.{HasFailed, journal_limit}
use Rattle.vs_top.specs.Statuses.{status_of, fault_line}
use Rattle.vs_top.specs.declared.fault.Fault.{Fault}
use Rattle.vs_top.specs.declared.fault.Fault.TheVariants as faults
use Rattle.vs_world.specs.Journals.{head_of}
use Rattle.vs_world.specs.NotOpened.{IsNotOpened}
use Rattle.vs_world.specs.declared.fault.WorldFault.{WorldFault}
use Rattle.vs_world.specs.declared.fault.WorldFault.TheVariants as world
use Rattle.vs_informing.specs.Cluster.{IsInfoOf, opened_on}

-- the file is the text of this configuration
abbrev pub HasConfig : {D : Type 0} → Outside D → List ℕ → Configuration → Type 0
HasConfig o name config = HasText o.old.file name (λ text. GivesConfig text (Ok config))

-- the text is what is told of the file and the disks
pub record HasInfo {D : Type 0} (o : Outside D) (name text : List ℕ) : Type 0 where
  pub config : Configuration
  pub config_file : HasConfig o name config
  pub info : IsInfoOf (opened_on o.told config o.before o.after) text

-- the journals of the configuration weren't opened, for this fault, and nothing was put out
pub record AreRefused {D : Type 0} (fault : WorldFault) (config : Configuration) (o : Outside D) (name : List ℕ) : Type 0 where
  pub config_file : HasConfig o name config
  pub refused : IsNotOpened o.told config journal_limit o.before fault o.after
  pub out : o.new.out ≡ o.old.out

-- ---- status 0: the line was put out, and nothing was logged
pub record IsTold {D : Type 0} (o : Outside D) (name : List ℕ) : Type 0 where
  pub text : List ℕ
  pub info : HasInfo o name text
  pub out : Appends o.old.out o.new.out text
  pub log : o.new.log ≡ o.old.log

-- ---- status 3: this is wrong with the text of the configuration
pub record IsTextRefused {D : Type 0} (k : ℕ) (fault : TextFault) (o : Outside D) (name : List ℕ) : Type 0 where
  pub cause : IsFileCause (input.Text k fault) config_place name GivesConfig o.old o.new
  pub untouched : IsUntouched o

-- ---- status 5: reading its file failed
pub record IsReadFault {D : Type 0} (k : ℕ) (o : Outside D) (name : List ℕ) : Type 0 where
  pub place : k ≡ config_place
  pub rose : Rose o.old.read_faults o.new.read_faults
  pub untouched : IsUntouched o

-- ---- status 6: a write failed, and a front of the line was put out
pub record IsInfoCut {D : Type 0} (o : Outside D) (name : List ℕ) : Type 0 where
  pub text : List ℕ
  pub info : HasInfo o name text
  pub out : AppendsFront o.old.out o.new.out text
  pub rose : Rose o.old.write_faults o.new.write_faults

-- ---- status 7: the disk of set x failed while the journals were opened
pub record IsDiskFault {D : Type 0} (x : ℕ) (o : Outside D) (name : List ℕ) : Type 0 where
  pub config : Configuration
  pub refused : AreRefused (world.OfSet x store.DiskFault) config o name
  pub number : IsSetNo x
  pub failed : HasFailed (opened_on o.told config o.before o.after) x

-- ---- status 8: the journal of set x is none, or that of another set than the one of this uuid, or of another number of buckets
pub record IsJournalRefused {D : Type 0} (x : ℕ) (fault : StoreFault) (wanted : List ℕ) (o : Outside D) (name : List ℕ) : Type 0 where
  pub config : Configuration
  pub refused : AreRefused (world.OfSet x fault) config o name
  pub of_bytes : IsOfBytes fault
  pub uuid : wanted ≡ (head_of config x).uuid

-- or what the journals stand for doesn't fit together
pub record IsIncoherent {D : Type 0} (bucket : ℕ) (entries : Listed (ℕ × Status)) (o : Outside D) (name : List ℕ) : Type 0 where
  pub config : Configuration
  pub refused : AreRefused (world.Incoherent bucket entries) config o name

-- ---- status 9: memory was refused, and nothing was put out

-- ---- status 10: the entries of the journal of set x, written in the present form, would carry it past the limit
pub record IsFull {D : Type 0} (x : ℕ) (o : Outside D) (name : List ℕ) : Type 0 where
  pub config : Configuration
  pub long : ℕ
  pub refused : AreRefused (world.OfSet x (store.Full long)) config o name

-- why nothing is told
abbrev pub IsCause : {D : Type 0} → Fault → Outside D → List ℕ → Type 0
IsCause faults.Words o name = ⊥
IsCause (faults.Text k fault) o name = IsTextRefused k fault o name
IsCause (faults.Event number reason) o name = ⊥
IsCause (faults.Read k) o name = IsReadFault k o name
IsCause faults.Write o name = IsInfoCut o name
IsCause (faults.Disk x) o name = IsDiskFault x o name
IsCause (faults.Journal x fault wanted) o name = IsJournalRefused x fault wanted o name
IsCause (faults.Incoherent bucket entries) o name = IsIncoherent bucket entries o name
IsCause (faults.Full x) o name = IsFull x o name
IsCause faults.NoMemory o name = o.new.out ≡ o.old.out

-- the fault has its cause, and its line was logged
pub record EndsBy {D : Type 0} (fault : Fault) (o : Outside D) (name : List ℕ) : Type 0 where
  pub cause : IsCause fault o name
  pub logged : IsLogged (fault_line fault) o.old o.new

-- how the command ends, by its status
abbrev pub Ends : {D : Type 0} → ℕ → Outside D → List ℕ → Type 0
Ends status o name =
    ((status ≡ 0) × IsTold o name)
    ⊎ ((fault : Fault) × (status ≡ status_of fault) × EndsBy fault o name)

-- ---- what must be told

-- a configuration's file in its form, over disks that hold nothing or the journals of its sets, which fit together
pub record IsGood {D : Type 0} (o : Outside D) (name : List ℕ) : Type 0 where
  pub config : Configuration
  pub config_file : reading.IsGood o.old.file name GivesConfig config
  pub disks : AreGoodDisks o.told config o.before

-- what may still happen then
abbrev pub MayEndGood : Fault → Type 0
MayEndGood faults.Write = Unit {0}
MayEndGood (faults.Read k) = Unit {0}
MayEndGood (faults.Disk x) = Unit {0}
MayEndGood faults.NoMemory = Unit {0}
MayEndGood fault = ⊥
