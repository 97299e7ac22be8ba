-- The statuses with which the command ends, and the line that is logged with each but 0.
use Rattle.std.specs.Prelude.{ℕ, List, ◌++◌, codes}
use Rattle.std.specs.Fmt.{decimal}
use Rattle.vs_ending.specs.Lines.{memory_line, read_line, write_line}
use Rattle.vs_inputs.specs.FaultLine as inputs
use Rattle.vs_inputs.specs.declared.fault.InputFault.TheVariants as input
use Rattle.vs_plan.specs.declared.fault.LineKind.{LineKind}
use Rattle.vs_plan.specs.declared.fault.LineKind.TheVariants.{BadByte, LongWord, BadCounts}
use Rattle.vs_plan.specs.declared.fault.CountsFault.{CountsFault}
use Rattle.vs_plan.specs.declared.fault.CountsFault.TheVariants.{Line, MissingSet, TooMany}
use Rattle.vs_plan.specs.declared.fault.PlanFault.{PlanFault}
use Rattle.vs_plan.specs.declared.fault.PlanFault.TheVariants.{Text, Counts, Read, Write, NoMemory}

abbrev pub status_of : PlanFault → ℕ
status_of (Text k fault) = 3
status_of (Counts fault) = 3
status_of (Read k) = 5
status_of Write = 6
status_of NoMemory = 9

abbrev pub line_kind : LineKind → List ℕ
line_kind BadByte = codes "BadByte"
line_kind LongWord = codes "LongWord"
line_kind BadCounts = codes "BadCounts"

abbrev pub counts_line : CountsFault → List ℕ
counts_line (Line n kind) =
    codes "vshard: input 2 line " ++ decimal n ++ codes ": " ++ line_kind kind ++ codes "\n"
counts_line MissingSet = codes "vshard: input 2: MissingSet\n"
counts_line TooMany = codes "vshard: input 2: TooMany\n"

abbrev pub fault_line : PlanFault → List ℕ
fault_line (Text k fault) = inputs.fault_line (input.Text k fault)
fault_line (Counts fault) = counts_line fault
fault_line (Read k) = read_line k
fault_line Write = write_line
fault_line NoMemory = memory_line
