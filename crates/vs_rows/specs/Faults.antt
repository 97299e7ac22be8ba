-- Why a text is refused as a key or a value.
use Rattle.std.specs.Prelude.{ℕ, List}
use Rattle.vs_rows.specs.declared.fault.RowFault.{RowFault}
use Rattle.vs_rows.specs.declared.fault.RowFault.TheVariants.{BadText, NoMemory}

-- `BadText` exactly where the text isn't what it is to be: a key, or a value
abbrev pub IsCauseOf : (List ℕ → Type 0) → RowFault → List ℕ → Type 0
IsCauseOf IsText BadText bytes = ¬ (IsText bytes)
IsCauseOf IsText NoMemory bytes = IsText bytes
