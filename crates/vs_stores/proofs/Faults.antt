-- Which fault it was.
use Rattle.std.proofs.Common.{◌≡◌, ℕ, Result, Err, refl}
use Rattle.vs_store.specs.declared.fault.StoreFault.{StoreFault}
use Rattle.vs_store.specs.declared.fault.StoreFault.TheVariants.{Full, DiskFault, NotAJournal, OtherSet, OtherCount, NoMemory}
use Rattle.vs_store.specs.Faults.{IsOfAppend}
use Rattle.vs_stores.specs.Refusals.{store_fault}
use Rattle.vs_stores.specs.declared.fault.AppendFault.{AppendFault}
use Rattle.vs_stores.specs.declared.fault.AppendFault.TheVariants as faults

abbrev pub refused_by : StoreFault → Result (Unit {0}) StoreFault
refused_by fault = Err fault

abbrev pub refused_for : AppendFault → Result (Unit {0}) AppendFault
refused_for fault = Err fault

pub disk_fault_or_not : (X : Type 0) (fault : StoreFault) → (refused_by fault ≡ Err DiskFault → X) → ((fault ≡ DiskFault → ⊥) → X) → X
disk_fault_or_not X DiskFault is not = is refl
disk_fault_or_not X (Full len) is not = not (λ e. cc e)
disk_fault_or_not X NoMemory is not = not (λ e. cc e)
disk_fault_or_not X (NotAJournal place) is not = not (λ e. cc e)
disk_fault_or_not X (OtherSet uuid) is not = not (λ e. cc e)
disk_fault_or_not X (OtherCount count) is not = not (λ e. cc e)

pub full_of : (fault : StoreFault) (answer : AppendFault) (len : ℕ) → store_fault answer ≡ fault → refused_for answer ≡ Err (faults.Full len) → refused_by fault ≡ Err (Full len)
full_of fault (faults.Full n) len e is = cc (e, is)
full_of fault faults.DiskFault len e is = absurd (cc is)
full_of fault faults.NoMemory len e is = absurd (cc is)

pub disk_fault_of : (fault : StoreFault) (answer : AppendFault) → store_fault answer ≡ fault → refused_for answer ≡ Err faults.DiskFault → refused_by fault ≡ Err DiskFault
disk_fault_of fault faults.DiskFault e is = cc e
disk_fault_of fault (faults.Full n) e is = absurd (cc is)
disk_fault_of fault faults.NoMemory e is = absurd (cc is)

pub no_disk_fault_of : (fault : StoreFault) (answer : AppendFault) → store_fault answer ≡ fault → (answer ≡ faults.DiskFault → ⊥) → fault ≡ DiskFault → ⊥
no_disk_fault_of fault faults.DiskFault e not is = not refl
no_disk_fault_of fault (faults.Full n) e not is = cc (e, is)
no_disk_fault_of fault faults.NoMemory e not is = cc (e, is)

-- an append that was refused before anything was written
pub append_refused : (X : Type 0) (fault : StoreFault) → IsOfAppend fault → (fault ≡ DiskFault → ⊥) → ((len : ℕ) → refused_by fault ≡ Err (Full len) → X) → (refused_by fault ≡ Err NoMemory → X) → X
append_refused X (Full len) cause not full memory = full len refl
append_refused X NoMemory cause not full memory = memory refl
append_refused X DiskFault cause not full memory = absurd (not refl)
append_refused X (NotAJournal place) cause not full memory = absurd cause
append_refused X (OtherSet uuid) cause not full memory = absurd cause
append_refused X (OtherCount count) cause not full memory = absurd cause
