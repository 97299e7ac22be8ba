-- Which of two faults of an account is told: the one at the lower line, and on one line the one
-- of the first kind.
use Rattle.std.specs.Prelude.{ℕ, ◌≡◌, ◌+◌, ◌*◌, ◌≤◌, ◌⊎◌, Option, Some}
use Rattle.vs_audit.specs.declared.fault.Illegal.{Illegal}
use Rattle.vs_audit.specs.declared.fault.Illegal.TheVariants.{DoubleCall, WrongPlace, WrongAnswers, NoEntry, WrongOrder}
use Rattle.vs_audit.specs.declared.least.Fault.{Fault}

-- the order of the kinds
abbrev pub rank : Illegal → ℕ
rank DoubleCall = 0
rank WrongPlace = 1
rank WrongAnswers = 2
rank NoEntry = 3
rank WrongOrder = 4

-- the turn of a fault among all that there could be: by line, then by kind
abbrev pub turn : ℕ → Illegal → ℕ
turn line kind = line * 5 + rank kind

-- a fault was found whose turn is no later
abbrev pub IsReached : Option Fault → ℕ → Illegal → Type 0
IsReached least line kind = (f : Fault) × (least ≡ Some f) × (turn f.line f.kind ≤ turn line kind)

-- the least fault, once those that `IsFault` tells were added
pub record Adds (IsFault : ℕ → Illegal → Type 0) (old new : Option Fault) : Type 0 where
  pub from : (f : Fault) → new ≡ Some f → (old ≡ Some f) ⊎ IsFault f.line f.kind
  pub reached : (line : ℕ) (kind : Illegal) → IsFault line kind → IsReached new line kind
  pub kept : (line : ℕ) (kind : Illegal) → IsReached old line kind → IsReached new line kind
