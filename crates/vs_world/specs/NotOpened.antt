-- Why a world wasn't opened.
use Rattle.std.specs.Prelude.{◌≡◌, ◌≢◌, ℕ, ◌<◌, List, [], length, Some, IsOkAnd}
use Rattle.vs_config.specs.Configuration.{Configuration}
use Rattle.vs_disk.specs.Told.{Told, Reads}
use Rattle.vs_record.specs.Durable.{Durable}
use Rattle.vs_core.specs.Opened.{IsLeastIncoherent, placement_of}
use Rattle.vs_base.specs.Listed.{Listed}
use Rattle.vs_space.specs.declared.status.Status.{Status}
use Rattle.vs_machine.specs.Journals.{held_as, nothing}
use Rattle.vs_store.specs.Opening as store
use Rattle.vs_store.specs.Standing.{opened}
use Rattle.vs_store.specs.declared.fault.StoreFault.{StoreFault}
use Rattle.vs_store.specs.declared.fault.StoreFault.TheVariants.{DiskFault, NoMemory as NoStoreMemory}
use Rattle.vs_stores.specs.Numbered.{at_number}
use Rattle.vs_world.specs.Journals.{head_of}
use Rattle.vs_world.specs.Opened.{AreOpenedDisks, AreStoodFor, IsSet, OfGiven}
use Rattle.vs_world.specs.declared.fault.WorldFault.{WorldFault}
use Rattle.vs_world.specs.declared.fault.WorldFault.TheVariants.{OfSet, Incoherent, NoMemory}

-- Set x is the first whose journal was refused. Where that wasn't for a fault of its disk, those in front of it open.
pub record IsRefusedAt {D : Type 0} (told : D → Told) (config : Configuration) (limit : ℕ) (before after : List D) (x : ℕ) (fault : StoreFault) : Type 0 where
  pub set : IsSet config x
  pub known : fault ≢ NoStoreMemory
  pub refused : (was is : D) → at_number before x ≡ Some was → at_number after x ≡ Some is → store.IsNotOpened (head_of config x) limit (told was) fault (told is)
  pub first : fault ≢ DiskFault → (y : ℕ) → y < x → OfGiven config before y (λ was. Reads (told was) (λ file. file ≢ [] → IsOkAnd (opened (head_of config y) file) (store.HasRoom limit)))

-- The journals were opened, and what they stand for doesn't fit together. Nothing else is counted.
pub record AreIncoherent {D : Type 0} (told : D → Told) (config : Configuration) (before : List D) (bucket : ℕ) (entries : Listed (ℕ × Status)) : Type 0 where
  pub states : ℕ → Durable
  pub stood_for : AreStoodFor told config before states
  pub no_others : (x : ℕ) → ¬ (IsSet config x) → states x ≡ nothing
  pub least : IsLeastIncoherent (length config.sets) config.bucket_count (held_as states) bucket
  pub entries_are : entries.items ≡ placement_of (λ x. (states x).entry bucket) (length config.sets)

-- the cause, which want of memory doesn't have
abbrev pub IsOpenCause : {D : Type 0} → (D → Told) → Configuration → ℕ → List D → List D → WorldFault → Type 0
IsOpenCause told config limit before after (OfSet x fault) = IsRefusedAt told config limit before after x fault
IsOpenCause told config limit before after (Incoherent bucket entries) = AreIncoherent told config before bucket entries
IsOpenCause told config limit before after NoMemory = Unit {0}

-- The disks come back.
pub record IsNotOpened {D : Type 0} (told : D → Told) (config : Configuration) (limit : ℕ) (before : List D) (fault : WorldFault) (after : List D) : Type 0 where
  pub disks : AreOpenedDisks told config before after
  pub cause : IsOpenCause told config limit before after fault
