-- What was read of a journal so far.
use Rattle.std.specs.Prelude.{◌≡◌, ℕ, ◌+◌, ◌==◌, if◌then◌else◌, List, length, Option, Some, None, Ok}
use Rattle.vs_frame.specs.Journal.{Journal}
use Rattle.vs_frame.specs.Scan.{IsSoFar}
use Rattle.vs_frame.specs.declared.head.Head.{Head}
use Rattle.vs_record.specs.Durable.{Durable}
use Rattle.vs_store.specs.Standing.{Standing, folded_in}

-- the number that a body of this part is to have, behind so many bodies of the second part
abbrev pub number_in : ℕ → ℕ → Option ℕ
number_in part count = if part == 2 then Some (count + 1) else None

-- how many bodies of the second part there are then
abbrev pub count_in : ℕ → ℕ → ℕ
count_in part count = if part == 2 then count + 1 else count

-- The bodies that were read are those of a journal with this head, so many of them of the second part, and they make this
-- state.
pub record IsReadSoFar (file : List ℕ) (part place : ℕ) (head : Head) (count : ℕ) (d : Durable) : Type 0 where
  pub journal : Journal
  pub so_far : IsSoFar file part place journal
  pub head_is : journal.head ≡ head
  pub count_is : length journal.second ≡ count
  pub folds : folded_in journal ≡ Ok d

-- what a whole journal was read as
pub record IsReadAs (place count version : ℕ) (d : Durable) (s : Standing) : Type 0 where
  pub gate : s.journal.gate ≡ place
  pub count_is : length s.journal.second ≡ count
  pub version_is : s.journal.version ≡ version
  pub state : s.state ≡ d
