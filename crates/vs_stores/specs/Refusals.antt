-- Why a call of the stores was refused, as that of one store.
use Rattle.std.specs.Prelude.{ℕ}
use Rattle.vs_store.specs.declared.fault.StoreFault.{StoreFault}
use Rattle.vs_store.specs.declared.fault.StoreFault.TheVariants as store
use Rattle.vs_stores.specs.declared.fault.AppendFault.{AppendFault}
use Rattle.vs_stores.specs.declared.fault.AppendFault.TheVariants.{Full, DiskFault, NoMemory}
use Rattle.vs_stores.specs.declared.fault.OpenFault.{OpenFault}
use Rattle.vs_stores.specs.declared.fault.OpenFault.TheVariants.{OfSet, NoMemory as NoOpenMemory}

abbrev pub store_fault : AppendFault → StoreFault
store_fault (Full len) = store.Full len
store_fault DiskFault = store.DiskFault
store_fault NoMemory = store.NoMemory

-- that of opening the store of a set
abbrev pub open_fault : ℕ → StoreFault → OpenFault
open_fault x store.NoMemory = NoOpenMemory
open_fault x (store.Full len) = OfSet x (store.Full len)
open_fault x store.DiskFault = OfSet x store.DiskFault
open_fault x (store.NotAJournal place) = OfSet x (store.NotAJournal place)
open_fault x (store.OtherSet uuid) = OfSet x (store.OtherSet uuid)
open_fault x (store.OtherCount count) = OfSet x (store.OtherCount count)
