-- What files hold, where that is told.
use Rattle.std.specs.Prelude.{◌≡◌, ℕ, ◌<◌, List, length, Option, IfSome}
use Rattle.vs_inputs.specs.declared.read.TheConstants.{MOST_BYTES}

-- what each named file holds, where that is told
abbrev pub Files : Type 0
Files = List ℕ → Option (List ℕ)

-- the text is what the named file holds, where that is told
abbrev pub IsTextOf : Files → List ℕ → List ℕ → Type 0
IsTextOf files name text = IfSome (files name) (λ file. text ≡ file)

-- a text with this property is what the named file holds, where that is told
abbrev pub HasText : Files → List ℕ → (List ℕ → Type 0) → Type 0
HasText files name P = (text : List ℕ) × IsTextOf files name text × P text

-- the named file is longer than a text may be, where that is told
abbrev pub IsTooLong : Files → List ℕ → Type 0
IsTooLong files name = IfSome (files name) (λ file. MOST_BYTES < length file)
