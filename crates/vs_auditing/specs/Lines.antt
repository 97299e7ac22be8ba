-- The statuses with which the command ends, and the line that is logged with each but 0.
use Rattle.std.specs.Prelude.{ℕ, List, ◌++◌, codes}
use Rattle.std.specs.Fmt.{decimal}
use Rattle.vs_audit.specs.declared.fault.Illegal as kinds
use Rattle.vs_audit.specs.declared.fault.Illegal.TheVariants.{DoubleCall, WrongPlace, WrongAnswers, NoEntry, WrongOrder}
use Rattle.vs_ending.specs.Lines.{memory_line, read_line, write_line}
use Rattle.vs_auditing.specs.declared.fault.ReportFault.{ReportFault}
use Rattle.vs_auditing.specs.declared.fault.ReportFault.TheVariants.{TooLong, BadReport, Read, Write, Illegal, NoMemory}

abbrev pub status_of : ReportFault → ℕ
status_of TooLong = 3
status_of (BadReport number) = 3
status_of Read = 5
status_of Write = 6
status_of (Illegal number kind) = 11
status_of NoMemory = 9

-- what is put out of a legal report
abbrev pub legal_line : List ℕ
legal_line = codes "legal\n"

abbrev pub kind_name : kinds.Illegal → List ℕ
kind_name DoubleCall = codes "DoubleCall"
kind_name WrongPlace = codes "WrongPlace"
kind_name WrongAnswers = codes "WrongAnswers"
kind_name NoEntry = codes "NoEntry"
kind_name WrongOrder = codes "WrongOrder"

abbrev pub long_line : List ℕ
long_line = codes "vshard: input 1: TooLong\n"

abbrev pub bad_line : ℕ → List ℕ
bad_line number = codes "vshard: input 1 line " ++ decimal number ++ codes ": BadReport\n"

abbrev pub illegal_line : ℕ → kinds.Illegal → List ℕ
illegal_line number kind = codes "vshard: audit line " ++ decimal number ++ codes ": " ++ kind_name kind ++ codes "\n"

abbrev pub fault_line : ReportFault → List ℕ
fault_line TooLong = long_line
fault_line (BadReport number) = bad_line number
fault_line Read = read_line 1
fault_line Write = write_line
fault_line (Illegal number kind) = illegal_line number kind
fault_line NoMemory = memory_line
