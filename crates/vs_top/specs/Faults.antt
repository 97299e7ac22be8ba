-- The faults of a command that the faults of its parts are.
use Rattle.std.specs.Prelude.{ℕ, ◌≤◌, List}
use Rattle.vs_base.specs.Numbers.{IsSetNo}
use Rattle.vs_config.specs.Configuration.{Configuration}
use Rattle.vs_inputs.specs.declared.fault.InputFault.{InputFault}
use Rattle.vs_inputs.specs.declared.fault.InputFault.TheVariants as input
use Rattle.vs_store.specs.declared.fault.StoreFault.TheVariants as store
use Rattle.vs_world.specs.Journals.{head_of}
use Rattle.vs_world.specs.declared.fault.WorldFault.{WorldFault}
use Rattle.vs_world.specs.declared.fault.WorldFault.TheVariants as world
use Rattle.vs_top.specs.declared.play.PlayFault.{PlayFault}
use Rattle.vs_top.specs.declared.play.PlayFault.TheVariants as play
use Rattle.vs_top.specs.declared.fault.Fault.{Fault}
use Rattle.vs_top.specs.declared.fault.Fault.TheVariants.{Text, Event, Read, Disk, Journal, Incoherent, Full, NoMemory}

abbrev pub from_inputs : InputFault → Fault
from_inputs (input.Text k fault) = Text k fault
from_inputs (input.Read k) = Read k
from_inputs input.NoMemory = NoMemory

-- the uuid of a set
abbrev pub uuid_in : Configuration → ℕ → List ℕ
uuid_in config x = (head_of config x).uuid

-- where the journals weren't opened
abbrev pub from_opening : WorldFault → Configuration → Fault
from_opening (world.OfSet x store.DiskFault) config = Disk x
from_opening (world.OfSet x (store.Full len)) config = Full x
from_opening (world.OfSet x store.NoMemory) config = NoMemory
from_opening (world.OfSet x (store.NotAJournal place)) config = Journal x (store.NotAJournal place) (uuid_in config x)
from_opening (world.OfSet x (store.OtherSet uuid)) config = Journal x (store.OtherSet uuid) (uuid_in config x)
from_opening (world.OfSet x (store.OtherCount count)) config = Journal x (store.OtherCount count) (uuid_in config x)
from_opening (world.Incoherent bucket entries) config = Incoherent bucket entries
from_opening world.NoMemory config = NoMemory

abbrev pub from_play : PlayFault → Configuration → Fault
from_play (play.Opening fault) config = from_opening fault config
from_play (play.Event number reason) config = Event number reason
from_play (play.Disk number x) config = Disk x
from_play (play.Full number x) config = Full x
from_play play.NoMemory config = NoMemory

-- ---- the sets that are named

-- one of so many
abbrev pub IsOfSets : WorldFault → ℕ → Type 0
IsOfSets (world.OfSet x fault) n = x ≤ n
IsOfSets (world.Incoherent bucket entries) n = Unit {0}
IsOfSets world.NoMemory n = Unit {0}

abbrev pub IsOfPlay : PlayFault → ℕ → Type 0
IsOfPlay (play.Opening fault) n = IsOfSets fault n
IsOfPlay fault n = Unit {0}

-- a disk that is named is one of the 32
abbrev pub IsNumbered : Fault → Type 0
IsNumbered (Disk x) = IsSetNo x
IsNumbered fault = Unit {0}
