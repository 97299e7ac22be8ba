-- The line of a fault is logged.
use Rattle.std.specs.Prelude.{◌≡◌, ◌⊎◌, ℕ, Result}
use Rattle.vs_host.specs.declared.fault.HostFailed.{HostFailed}
use Rattle.vs_host.specs.Told.{Told}
use Rattle.vs_host.specs.Calls.{Logs}
use Rattle.vs_top.specs.declared.fault.Fault.{Fault}
use Rattle.vs_top.specs.declared.fault.Fault.TheVariants as faults
use Rattle.vs_top.specs.Statuses.{status_of, fault_line}

-- the status is the fault's, and its line was logged, or a front of it
pub record IsTold (fault : Fault) (status : ℕ) (old new : Told) : Type 0 where
  pub status_is : status ≡ status_of fault
  pub logged : (r : Result (Unit {0}) HostFailed) × Logs (fault_line fault) old new r

-- nothing was put out before
abbrev pub IsEarly : Fault → Type 0
IsEarly (faults.Text k fault) = Unit {0}
IsEarly (faults.Event number reason) = Unit {0}
IsEarly (faults.Read k) = Unit {0}
IsEarly (faults.Disk x) = Unit {0}
IsEarly (faults.Journal x fault wanted) = Unit {0}
IsEarly (faults.Incoherent bucket entries) = Unit {0}
IsEarly (faults.Full x) = Unit {0}
IsEarly fault = ⊥

-- the fault is told, or that there was no memory for its line
abbrev pub IsToldOr : Fault → ℕ → Told → Told → Type 0
IsToldOr fault status old new = IsTold fault status old new ⊎ (IsEarly fault × IsTold faults.NoMemory status old new)
