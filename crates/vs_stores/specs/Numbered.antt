-- What stands at a number that counts from 1.
use Rattle.std.specs.Prelude.{ℕ, zero, suc, List, Option, None, slice_get}

abbrev pub at_number : {A : Type 0} → List A → ℕ → Option A
at_number items zero = None
at_number items (suc i) = slice_get items i
