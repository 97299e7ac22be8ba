-- What opening a world gives.
use Rattle.std.specs.Prelude.{◌≡◌, ◌≢◌, ℕ, ◌<◌, ◌≤◌, IsTrue, true, false, List, [], length, Some}
use Rattle.vs_config.specs.Configuration.{Configuration}
use Rattle.vs_disk.specs.Told.{Told, Reads}
use Rattle.vs_record.specs.Durable.{Durable}
use Rattle.vs_script.specs.Scripts.{Scripts}
use Rattle.vs_core.specs.Booted.{booted}
use Rattle.vs_machine.specs.Journals.{nothing}
use Rattle.vs_machine.specs.Tables.{is_to}
use Rattle.vs_store.specs.Files.{StandsFor}
use Rattle.vs_store.specs.Opening.{IsOpenedDisk}
use Rattle.vs_stores.specs.Numbered.{at_number}
use Rattle.vs_world.specs.Began.{start_of}
use Rattle.vs_world.specs.Journals.{head_of}
use Rattle.vs_world.specs.Played.{state_of, began}
use Rattle.vs_world.specs.World.{World, IsKept, OfDisk}

-- this is the number of a set
abbrev pub IsSet : Configuration → ℕ → Type 0
IsSet config x = (1 ≤ x) × (x ≤ length config.sets)

-- of the disk of set x, one of those that were given
abbrev pub OfGiven : {D : Type 0} → Configuration → List D → ℕ → (D → Type 0) → Type 0
OfGiven {D} config disks x P = (it : D) → IsSet config x → at_number disks x ≡ Some it → P it

-- what set x of a new cluster has
abbrev pub new_state : Configuration → ℕ → Durable
new_state config x = record { entry = (booted config).entry x; rows = (booted config).rows x }

-- nothing is on the disk, as it tells
pub record IsEmpty (disk : Told) : Type 0 where
  pub tells : IsTrue disk.tells_reads
  pub reads : disk.reads_as ≡ []

-- The sets have what their journals stand for. Where all disks were empty, they have what a new cluster has; a set that is
-- added to others has nothing.
pub record AreStoodFor {D : Type 0} (told : D → Told) (config : Configuration) (disks : List D) (states : ℕ → Durable) : Type 0 where
  pub whole : (x : ℕ) → OfGiven config disks x (λ it. Reads (told it) (λ file. file ≢ [] → StandsFor (head_of config x) (states x) file))
  pub new : ((x : ℕ) → OfGiven config disks x (λ it. IsEmpty (told it))) → (x : ℕ) → IsSet config x → states x ≡ new_state config x
  pub added : (x y : ℕ) → OfGiven config disks x (λ it. IsEmpty (told it)
      → OfGiven config disks y (λ other. IsTrue (told other).tells_reads → (told other).reads_as ≢ [] → states x ≡ nothing))

-- what opening did to the disks; those that no set uses are the same
pub record AreOpenedDisks {D : Type 0} (told : D → Told) (config : Configuration) (before after : List D) : Type 0 where
  pub count : length after ≡ length before
  pub of_sets : (x : ℕ) (was is : D) → IsSet config x → at_number before x ≡ Some was → at_number after x ≡ Some is → IsOpenedDisk (head_of config x) (told was) (told is)
  pub spare : (x : ℕ) → length config.sets < x → at_number after x ≡ at_number before x

-- A world that begins: nothing has happened in it.
pub record IsOpened {D : Type 0} (told : D → Told) (config : Configuration) (scripts : Scripts) (limit : ℕ) (before : List D) (w : World D) : Type 0 where
  pub config_is : (began w.played).config ≡ config
  pub scripts_are : (began w.played).scripts ≡ scripts
  pub limit_is : (began w.played).limit ≡ limit
  pub states_are : AreStoodFor told config before (began w.played).states
  pub faults_are : (x : ℕ) → is_to (length config.sets) x ≡ true → OfDisk w x (λ it. (began w.played).faults x ≡ (told it).faults)
  pub state : state_of w.played ≡ start_of (began w.played)
  pub events : w.played.events ≡ []
  pub unreserved : w.is_reserved ≡ false
  pub disks : AreOpenedDisks told config before w.disks
  pub kept : IsKept told w
