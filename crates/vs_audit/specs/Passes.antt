-- What each pass of an audit looks for.
use Rattle.std.specs.Prelude.{ℕ, ◌≡◌, ◌≢◌, ◌+◌, ◌<◌, ◌≤◌, ◌⊎◌, length}
use Rattle.vs_audit.specs.Account.{Entry, History}
use Rattle.vs_audit.specs.Legal.{IsAt, rows_at, HasAnswers}
use Rattle.vs_audit.specs.declared.fault.Illegal.{Illegal}
use Rattle.vs_audit.specs.declared.fault.Illegal.TheVariants.{DoubleCall, WrongPlace, WrongAnswers, NoEntry, WrongOrder}

-- what is wrong at the write of this number, from 0, its call aside
abbrev pub WriteFault : History → ℕ → ℕ → Illegal → Type 0
WriteFault h n line DoubleCall = ⊥
WriteFault h n line WrongPlace = (w : Entry) × IsAt h.writes n w × (line ≡ w.line) × (w.place ≢ n + 1)
WriteFault h n line WrongAnswers =
    (w : Entry) × IsAt h.writes n w × (line ≡ w.line) × ¬ HasAnswers (rows_at h n) w
WriteFault h n line NoEntry = ⊥
WriteFault h n line WrongOrder = ⊥

abbrev pub WritesFault : History → ℕ → ℕ → ℕ → Illegal → Type 0
WritesFault h from to line kind = (n : ℕ) × (from ≤ n) × (n < to) × WriteFault h n line kind

-- what is wrong at the read of this number
abbrev pub ReadFault : History → ℕ → ℕ → Illegal → Type 0
ReadFault h n line DoubleCall = ⊥
ReadFault h n line WrongPlace =
    (r : Entry) × IsAt h.reads n r × (line ≡ r.line) × (length h.writes < r.place)
ReadFault h n line WrongAnswers =
    (r : Entry) × IsAt h.reads n r × (line ≡ r.line)
    × (r.place ≤ length h.writes) × ¬ HasAnswers (rows_at h r.place) r
ReadFault h n line NoEntry = ⊥
ReadFault h n line WrongOrder = ⊥

-- what is wrong at the places and answers of a history
abbrev pub PlaceFault : History → ℕ → Illegal → Type 0
PlaceFault h line kind =
    WritesFault h 0 (length h.writes) line kind
    ⊎ ((n : ℕ) × (n < length h.reads) × ReadFault h n line kind)
