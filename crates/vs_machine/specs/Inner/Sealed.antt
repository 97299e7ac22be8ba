-- A bucket that was handed over stays as it was at its seal until it is active again.
use Rattle.std.specs.Prelude.{◌≡◌, ℕ, Some}
use Rattle.vs_history.specs.History.{write_count}
use Rattle.vs_space.specs.declared.status.Status.TheVariants.{Receiving}
use Rattle.vs_machine.specs.State.{State, Bucket}

-- where the owner is receiving from set x, no write came since the place that x kept
abbrev pub SealFits : ℕ → Bucket → Type 0
SealFits o b = (x : ℕ) → b.entry o ≡ Some (Receiving x) → b.kept x ≡ write_count b.history

abbrev pub SealsFit : (ℕ → ℕ) → State → Type 0
SealsFit own s = (b : ℕ) → SealFits (own b) (s.bucket b)
