-- The faults of the command that the faults of its parts are.
use Rattle.vs_inputs.specs.declared.fault.InputFault.{InputFault}
use Rattle.vs_inputs.specs.declared.fault.InputFault.TheVariants as input
use Rattle.vs_reads.specs.declared.fault.ReadsFault.{ReadsFault}
use Rattle.vs_reads.specs.declared.fault.ReadsFault.TheVariants.{Text, Read, NoMemory}

abbrev pub from_input : InputFault → ReadsFault
from_input (input.Text k fault) = Text k fault
from_input (input.Read k) = Read k
from_input input.NoMemory = NoMemory
