-- The faults of the command that the faults of its parts are.
use Rattle.std.specs.Prelude.{◌≡◌, Result, Err}
use Rattle.vs_inputs.specs.declared.fault.InputFault.{InputFault}
use Rattle.vs_inputs.specs.declared.fault.InputFault.TheVariants as input
use Rattle.vs_plan.specs.declared.fault.CountsError.{CountsError}
use Rattle.vs_plan.specs.declared.fault.CountsError.TheVariants as error
use Rattle.vs_plan.specs.declared.fault.CountsFault.{CountsFault}
use Rattle.vs_plan.specs.declared.fault.PlanFault.{PlanFault}
use Rattle.vs_plan.specs.declared.fault.PlanFault.TheVariants.{Text, Counts, Read, NoMemory}

abbrev pub from_input : InputFault → PlanFault
from_input (input.Text k fault) = Text k fault
from_input (input.Read k) = Read k
from_input input.NoMemory = NoMemory

abbrev pub from_counts : CountsError → PlanFault
from_counts (error.Bad fault) = Counts fault
from_counts error.NoMemory = NoMemory

-- the text has this fault, or memory was wanted
abbrev pub IsBad : {A : Type 0} → CountsError → Result A CountsFault → Type 0
IsBad (error.Bad fault) reading = reading ≡ Err fault
IsBad error.NoMemory reading = Unit {0}
