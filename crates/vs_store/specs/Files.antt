-- What the file of a set stands for.
use Rattle.std.specs.Prelude.{◌≡◌, ◌⊎◌, ℕ, List, Option, Some, None, Ok, IsOkAnd}
use Rattle.vs_frame.specs.declared.head.Head.{Head}
use Rattle.vs_record.specs.Change.{Change}
use Rattle.vs_record.specs.Durable.{Durable, FitsState, applied}
use Rattle.vs_store.specs.Standing.{Standing, state_of, opened}

-- it opens with the set's head, and stands for this state
abbrev pub StandsFor : Head → Durable → List ℕ → Type 0
StandsFor head d file = IsOkAnd (opened head file) (λ s. s.state ≡ d)

-- the same, where a change may be pending: the file has it or not
abbrev pub StandsForSome : Head → Durable → Option Change → List ℕ → Type 0
StandsForSome head d None file = StandsFor head d file
StandsForSome head d (Some c) file = StandsFor head d file ⊎ StandsFor head (applied d c) file

-- the state with the pending change, if any
abbrev pub taken : Durable → Option Change → Durable
taken d None = d
taken d (Some c) = applied d c

-- the change fits the state that the file stands for
abbrev pub FitsFile : Change → List ℕ → Type 0
FitsFile c file = (s : Standing) → state_of file ≡ Ok s → FitsState s.journal.head.bucket_count s.state c
