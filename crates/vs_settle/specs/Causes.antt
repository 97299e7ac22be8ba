-- Why an event isn't carried out, and why the cluster isn't settled then.
use Rattle.std.specs.Prelude.{◌≡◌}
use Rattle.vs_world.specs.declared.fault.StepFault.{StepFault}
use Rattle.vs_world.specs.declared.fault.StepFault.TheVariants as step
use Rattle.vs_settle.specs.declared.fault.SettleFault.{SettleFault}
use Rattle.vs_settle.specs.declared.fault.SettleFault.TheVariants.{DiskFault, Full, NoMemory}

abbrev pub IsCause : StepFault → SettleFault → Type 0
IsCause (step.WentDown x) fault = fault ≡ DiskFault x
IsCause (step.OpenFault x) fault = fault ≡ DiskFault x
IsCause (step.Full x) fault = fault ≡ Full x
IsCause step.NoMemory fault = fault ≡ NoMemory
IsCause (step.NotNow reason) fault = ⊥

-- a set went down
abbrev pub IsGoingDown : StepFault → Type 0
IsGoingDown (step.WentDown x) = Unit {0}
IsGoingDown fault = ⊥
