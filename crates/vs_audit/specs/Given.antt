-- What a function of code answers against what was to be read.
use Rattle.std.specs.Prelude.{◌≡◌, ℕ, ◌+◌, ◌<◌, ◌≤◌, List, ◌∷◌, length, Result, Ok, Err, ⊤}
use Rattle.vs_text.specs.Split.{words_of}
use Rattle.vs_audit.specs.Words.{Words, Bad, Told, Read}
use Rattle.vs_audit.specs.Report.{Rest, ReadLines}
use Rattle.vs_audit.specs.declared.audit_text.AuditText.{AuditText}
use Rattle.vs_audit.specs.declared.audit_text.AuditText.TheVariants as text
use Rattle.vs_audit.specs.declared.line_fault.LineFault.{LineFault}
use Rattle.vs_audit.specs.declared.line_fault.LineFault.TheVariants as fault

-- ---- at the next words of a line

-- the line is bad, or memory was wanted
abbrev pub IsFaultOf : {Y : Type 0} → LineFault → Told Y → Type 0
IsFaultOf fault.Bad read = read ≡ Err Bad
IsFaultOf fault.NoMemory read = ⊤

-- what was read, seen by `view`, and the words after it
abbrev pub MayTake : {X Y : Type 0} → (X → Y) → Result X LineFault → Words → Read Y → Type 0
MayTake view (Ok x) rest read = read ≡ Ok (view x, rest)
MayTake view (Err fault) rest read = IsFaultOf fault read

-- the words that follow
abbrev pub MayFollow : Result (Unit {0}) LineFault → Words → Told Words → Type 0
MayFollow (Ok x) rest read = read ≡ Ok rest
MayFollow (Err fault) rest read = IsFaultOf fault read

-- items were read, and dropped
abbrev pub MayDrop : {Y : Type 0} → Result (Unit {0}) LineFault → Words → Read Y → Type 0
MayDrop {Y} (Ok x) rest read = (y : Y) × (read ≡ Ok (y, rest))
MayDrop (Err fault) rest read = IsFaultOf fault read

-- ---- of a whole line

abbrev pub MayTell : {X Y : Type 0} → (X → Y) → Result X LineFault → Told Y → Type 0
MayTell view (Ok x) read = read ≡ Ok (view x)
MayTell view (Err fault) read = IsFaultOf fault read

-- a line of this number that isn't read for this fault
abbrev pub at_line : ℕ → LineFault → AuditText
at_line number fault.Bad = text.Bad number
at_line number fault.NoMemory = text.NoMemory

abbrev pub told_at : {X : Type 0} → ℕ → Result X LineFault → Result X AuditText
told_at number (Ok x) = Ok x
told_at number (Err fault) = Err (at_line number fault)

-- ---- of lines

abbrev pub IsTextFaultOf : {Y : Type 0} → AuditText → Result Y ℕ → Type 0
IsTextFaultOf (text.Bad line) read = read ≡ Err line
IsTextFaultOf text.NoMemory read = ⊤

-- what was read, seen by `view`, and the lines after it
abbrev pub MayRead : {X Y : Type 0} → (X → Y) → Result X AuditText → Rest → ReadLines Y → Type 0
MayRead view (Ok x) rest read = read ≡ Ok (view x, rest)
MayRead view (Err fault) rest read = IsTextFaultOf fault read

-- lines were read, and dropped
abbrev pub MayPass : {Y : Type 0} → Result (Unit {0}) AuditText → Rest → ReadLines Y → Type 0
MayPass {Y} (Ok x) rest read = (y : Y) × (read ≡ Ok (y, rest))
MayPass (Err fault) rest read = IsTextFaultOf fault read

-- the next line has this number and these words, and others follow
pub record IsNext (old : Rest) (number : ℕ) (words : Words) (new : Rest) : Type 0 where
  pub line : List ℕ
  pub first : old.lines ≡ line ∷ new.lines
  pub is_words : words ≡ words_of line
  pub more : 0 < length new.lines
  pub is_number : number ≡ old.number
  pub next : new.number ≡ old.number + 1

-- no line is left, or memory was wanted
abbrev pub IsEnd : AuditText → Rest → Type 0
IsEnd (text.Bad line) rest = (line ≡ rest.number) × (length rest.lines ≤ 1)
IsEnd text.NoMemory rest = ⊤

-- ---- of a whole text

abbrev pub MayGive : {X Y : Type 0} → (X → Y) → Result X AuditText → Result Y ℕ → Type 0
MayGive view (Ok x) read = read ≡ Ok (view x)
MayGive view (Err fault) read = IsTextFaultOf fault read
