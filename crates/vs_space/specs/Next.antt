-- The next number that passes a test.
use Rattle.std.specs.Prelude.{◌≡◌, ◌<◌, ℕ, Bool, true, false, Option, Some, None}

-- the least number above this one that passes, or none where no number above it does
abbrev pub IsNext : (ℕ → Bool) → ℕ → Option ℕ → Type 0
IsNext p after None = (n : ℕ) → after < n → p n ≡ false
IsNext p after (Some next) = (after < next) × (p next ≡ true) × ((n : ℕ) → after < n → n < next → p n ≡ false)
