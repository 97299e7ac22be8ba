-- The statuses with which the command ends, and the line that is logged with each but 0.
use Rattle.std.specs.Prelude.{ℕ, List, ◌++◌, codes}
use Rattle.std.specs.Fmt.{decimal}
use Rattle.vs_ending.specs.Lines.{memory_line, read_line, write_line}
use Rattle.vs_inputs.specs.FaultLine as inputs
use Rattle.vs_inputs.specs.declared.fault.InputFault.TheVariants as input
use Rattle.vs_reads.specs.declared.fault.ReadsFault.{ReadsFault}
use Rattle.vs_reads.specs.declared.fault.ReadsFault.TheVariants.{Text, NotReads, Read, Write, NoMemory}

abbrev pub status_of : ReadsFault → ℕ
status_of (Text k fault) = 3
status_of (NotReads k) = 3
status_of (Read k) = 5
status_of Write = 6
status_of NoMemory = 9

-- inputs are counted from 1
abbrev pub not_reads_line : ℕ → List ℕ
not_reads_line input = codes "vshard: input " ++ decimal input ++ codes ": NotReads\n"

abbrev pub fault_line : ReadsFault → List ℕ
fault_line (Text k fault) = inputs.fault_line (input.Text k fault)
fault_line (NotReads k) = not_reads_line k
fault_line (Read k) = read_line k
fault_line Write = write_line
fault_line NoMemory = memory_line
