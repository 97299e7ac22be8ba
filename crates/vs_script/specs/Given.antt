-- What a function of code answers against what was to be read.
use Rattle.std.specs.Prelude.{◌≡◌, ℕ, List, Result, Ok, Err, ⊤}
use Rattle.vs_script.specs.declared.fault.ScriptFault.{ScriptFault}
use Rattle.vs_script.specs.declared.fault.ScriptFault.TheVariants as script_fault
use Rattle.vs_script.specs.declared.fault.ScriptKind.{ScriptKind}
use Rattle.vs_script.specs.declared.line_fault.LineFault.{LineFault}
use Rattle.vs_script.specs.declared.line_fault.LineFault.TheVariants as line_fault
use Rattle.vs_script.specs.Words.{Read}

-- ---- at the next words of a line: what was read, seen by `view`, and the words after it

abbrev pub Takes : {X Y : Type 0} → (X → Y) → Result X ScriptKind → List (List ℕ) → Read Y → Type 0
Takes view (Ok x) rest read = read ≡ Ok (view x, rest)
Takes view (Err kind) rest read = read ≡ Err kind

-- where memory may be wanted
abbrev pub IsFaultOf : {Y : Type 0} → LineFault → Result Y ScriptKind → Type 0
IsFaultOf (line_fault.Bad kind) read = read ≡ Err kind
IsFaultOf line_fault.NoMemory read = ⊤

abbrev pub MayTake : {X Y : Type 0} → (X → Y) → Result X LineFault → List (List ℕ) → Read Y → Type 0
MayTake view (Ok x) rest read = read ≡ Ok (view x, rest)
MayTake view (Err fault) rest read = IsFaultOf fault read

-- ---- of a whole line

abbrev pub MayGive : {X Y : Type 0} → (X → Y) → Result X LineFault → Result Y ScriptKind → Type 0
MayGive view (Ok x) read = read ≡ Ok (view x)
MayGive view (Err fault) read = IsFaultOf fault read

-- the fault of a text whose line of this number has that fault
abbrev pub at_number : ℕ → LineFault → ScriptFault
at_number line (line_fault.Bad kind) = script_fault.Bad kind line
at_number line line_fault.NoMemory = script_fault.NoMemory

-- ---- of a text

abbrev pub IsTextFaultOf : {Y : Type 0} → ScriptFault → Result Y ScriptFault → Type 0
IsTextFaultOf (script_fault.Bad kind line) read = read ≡ Err (script_fault.Bad kind line)
IsTextFaultOf script_fault.NoMemory read = ⊤

abbrev pub MayFind : {X Y : Type 0} → (X → Y) → Result X ScriptFault → Result Y ScriptFault → Type 0
MayFind view (Ok x) read = read ≡ Ok (view x)
MayFind view (Err fault) read = IsTextFaultOf fault read
