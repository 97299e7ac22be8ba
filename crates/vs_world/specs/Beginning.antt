-- How a world begins, whose journals are opened.
use Rattle.std.specs.Prelude.{◌≡◌, ℕ, suc, false, List, [], length, Some, None, slice_get}
use Rattle.vs_config.specs.Configuration.{Configuration}
use Rattle.vs_core.specs.Opened.{IsLeastIncoherent, placement_of}
use Rattle.vs_core.specs.declared.fault.CoreFault.{CoreFault}
use Rattle.vs_core.specs.declared.fault.CoreFault.TheVariants as core
use Rattle.vs_disk.specs.declared.disk.Disk.{Ghosts}
use Rattle.vs_record.specs.States.{durable}
use Rattle.vs_record.specs.declared.set_state.SetState.{SetState}
use Rattle.vs_script.specs.Scripts.{Scripts}
use Rattle.vs_machine.specs.Journals.{nothing}
use Rattle.vs_machine.specs.Opening.{Holdings}
use Rattle.vs_state.specs.Tables.{numbered}
use Rattle.vs_store.specs.Holding.{Holds}
use Rattle.vs_store.specs.declared.store.Store.{Store}
use Rattle.vs_stores.specs.Stores.{stores_of, disks_of, limit_of, faults_at, IsReadyAt, IsCalmAt}
use Rattle.vs_stores.specs.declared.fault.OpenFault.{OpenFault}
use Rattle.vs_stores.specs.declared.fault.OpenFault.TheVariants as stores
use Rattle.vs_stores.specs.declared.stores.Stores.{Stores}
use Rattle.vs_world.specs.Began.{start_of}
use Rattle.vs_world.specs.Journals.{head_of}
use Rattle.vs_world.specs.Played.{began, state_of}
use Rattle.vs_world.specs.World.{World, IsKept}
use Rattle.vs_world.specs.declared.fault.WorldFault.{WorldFault}
use Rattle.vs_world.specs.declared.fault.WorldFault.TheVariants.{OfSet, Incoherent, NoMemory}

-- the refusal of the journals
abbrev pub of_journals : OpenFault → WorldFault
of_journals (stores.OfSet x fault) = OfSet x fault
of_journals stores.NoMemory = NoMemory

-- that of the cluster
abbrev pub of_cluster : CoreFault → WorldFault
of_cluster (core.Incoherent bucket entries) = Incoherent bucket entries
of_cluster core.NoMemory = NoMemory

-- these stores hold these states of the sets, and all are ready
pub record AreReadyToBegin {D : Type 0} {disk : Ghosts D} (config : Configuration) (limit : ℕ) (states : List SetState) (all : Stores D disk) : Type 0 where
  pub sets : length (stores_of all) ≡ length config.sets
  pub count : length states ≡ length config.sets
  pub disks : length (disks_of all) ≡ 32
  pub limit_is : limit_of all ≡ limit
  pub hold : (i : ℕ) (it : Store D disk) (state : SetState) → slice_get (stores_of all) i ≡ Some it → slice_get states i ≡ Some state → Holds it (head_of config (suc i)) (durable state) None
  pub ready : (x : ℕ) → IsReadyAt all x
  pub calm : (x : ℕ) → IsCalmAt all x

-- a world begins with them
pub record BeginsWith {D : Type 0} {disk : Ghosts D} (config : Configuration) (scripts : Scripts) (limit : ℕ) (states : List SetState) (all : Stores D disk) (w : World D) : Type 0 where
  pub config_is : (began w.played).config ≡ config
  pub scripts_are : (began w.played).scripts ≡ scripts
  pub limit_is : (began w.played).limit ≡ limit
  pub states_are : (began w.played).states ≡ numbered durable nothing states
  pub faults_are : (x : ℕ) → (began w.played).faults x ≡ faults_at all x
  pub state : state_of w.played ≡ start_of (began w.played)
  pub events : w.played.events ≡ []
  pub unreserved : w.is_reserved ≡ false
  pub disks : w.disks ≡ disks_of all
  pub kept : IsKept disk.told w

-- why none begins: what n sets hold of m buckets
abbrev pub IsBeginFault : ℕ → ℕ → Holdings → WorldFault → Type 0
IsBeginFault n m held (OfSet x fault) = ⊥
IsBeginFault n m held (Incoherent bucket entries) = IsLeastIncoherent n m held bucket × (entries.items ≡ placement_of (λ x. held.entry x bucket) n)
IsBeginFault n m held NoMemory = Unit {0}
