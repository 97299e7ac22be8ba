-- What it means that a file stands for a set's entries and rows: a relation between bytes, changes and a state.
use Rattle.std.specs.Prelude.{◌≡◌, ◌⊎◌, ⊤, ℕ, ◌<◌, List, [], ◌∷◌, ◌++◌, length, get_or, Option, Some, None}
use Rattle.vs_frame.specs.Head.{HasHead}
use Rattle.vs_frame.specs.Journal.{Journal, IsJournal, IsAlong, IsEntry, Breaks}
use Rattle.vs_frame.specs.declared.head.Head.{Head}
use Rattle.vs_record.specs.Body.{IsBodyOf}
use Rattle.vs_record.specs.Change.{Change}
use Rattle.vs_record.specs.Durable.{Durable, FitsState, booted, applied, fold}
use Rattle.vs_store.specs.Replay.{number_in}
use Rattle.vs_store.specs.Standing.{Standing, next}

-- a file is of bytes
abbrev pub AreBytes : List ℕ → Type 0
AreBytes file = (place : ℕ) → get_or file place 0 < 256

-- these bodies are, one after the other, the spellings of these changes; the first has this number, where they have numbers
abbrev pub AreSpelled : Option ℕ → List (List ℕ) → List Change → Type 0
AreSpelled number [] [] = ⊤
AreSpelled number (body ∷ bodies) (c ∷ cs) = IsBodyOf body number c × AreSpelled (next number) bodies cs
AreSpelled number bodies cs = ⊥

-- each change fits the state that those before it make
abbrev pub FitInTurn : ℕ → Durable → List Change → Type 0
FitInTurn buckets d [] = ⊤
FitInTurn buckets d (c ∷ cs) = FitsState buckets d c × FitInTurn buckets (applied d c) cs

-- the buckets that a journal begins with
abbrev pub start_of : Head → Durable
start_of head = booted head.boot_first head.boot_count

-- The bodies of a journal spell changes: those of the first part without numbers, and those of the second with the numbers
-- from 1 on. The changes of the first part and then those of the second fit in turn, and this state is their fold.
pub record IsMade (j : Journal) (d : Durable) : Type 0 where
  pub first : List Change
  pub second : List Change
  pub first_spelled : AreSpelled None j.first first
  pub second_spelled : AreSpelled (Some 1) j.second second
  pub fit : FitInTurn j.head.bucket_count (start_of j.head) (first ++ second)
  pub state : fold (start_of j.head) (first ++ second) ≡ d

-- the file is this journal, and stands for this state
pub record Means (file : List ℕ) (s : Standing) : Type 0 where
  pub journal : IsJournal file s.journal
  pub made : IsMade s.journal s.state

-- behind the gate at this place stands a whole entry, and its body, the next of this part, spells no change that fits
pub record HasWrongBody (file : List ℕ) (place part : ℕ) (j : Journal) (d : Durable) : Type 0 where
  pub body : List ℕ
  pub entry : IsEntry file place body
  pub none : (c : Change) → IsBodyOf body (number_in part (length j.second)) c → ¬ FitsState j.head.bucket_count d c

-- up to the gate at this place the file is a journal whose bodies make some state, and there it is wrong
pub record GoesWrongAt (file : List ℕ) (place : ℕ) : Type 0 where
  pub journal : Journal
  pub part : ℕ
  pub state : Durable
  pub along : IsAlong file journal part
  pub gate : journal.gate ≡ place
  pub made : IsMade journal state
  pub wrong : Breaks file place ⊎ HasWrongBody file place part journal state

-- the least place at which the file is wrong: 0 for the head, and else that of a gate
abbrev pub IsLeastWrong : List ℕ → ℕ → Type 0
IsLeastWrong file place = ((place ≡ 0) × ((head : Head) → ¬ HasHead file head)) ⊎ GoesWrongAt file place
