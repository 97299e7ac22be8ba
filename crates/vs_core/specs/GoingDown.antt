-- What a set that goes down leaves, part by part.
use Rattle.std.specs.Prelude.{◌≡◌, ℕ, ◌==◌, ◌&&◌, Bool, false, if◌then◌else◌, None}
use Rattle.vs_link.specs.Connection.{unused}
use Rattle.vs_refs.specs.Counts.{no_counts}
use Rattle.vs_refs.specs.Refs.{counts_of}
use Rattle.vs_machine.specs.State as machine
use Rattle.vs_machine.specs.Tables.{put, is_to}
use Rattle.vs_machine.specs.Kinds.Sender.{move_of}
use Rattle.vs_machine.specs.Kinds.Stops.{closed_at, is_move_from, lost_at, stopped_move, without_work}
use Rattle.vs_state.specs.declared.state.State.{State}
use Rattle.vs_state.specs.declared.tables.SetTables.{SetTables}
use Rattle.vs_state.specs.Agrees.{counts_at, hauls_in}
use Rattle.vs_core.specs.Cells.{cell}

-- ---- tables

-- the tables have no references, no transfers and no asks, and else what they had
pub record IsCleared (old new : SetTables) : Type 0 where
  pub cells : (q : ℕ) → cell new q ≡ record (cell old q) { transfer = None; ask = None }
  pub counts : (q : ℕ) → counts_of new.refs.items q ≡ no_counts
  pub hauls : new.hauls ≡ 0
  pub up : new.is_up ≡ false
  pub pending : new.pending ≡ old.pending
  pub last_fault : new.last_fault ≡ old.last_fault

-- no reference is left at set x, and at the other sets they are as they were
pub record ForgetsAt (s t : State) (x : ℕ) : Type 0 where
  pub counts : (y q : ℕ) → counts_at t y q ≡ (if y == x then no_counts else counts_at s y q)
  pub hauls : (y : ℕ) → hauls_in t y ≡ (if y == x then 0 else hauls_in s y)

-- ---- the machine, with one part of set x gone

abbrev pub without_tables : machine.State → ℕ → machine.State
without_tables s x = record s { up = put s.up x false; bucket = λ b. without_work x (s.bucket b) }

abbrev pub without_calls : machine.State → ℕ → machine.State
without_calls s x = record s { client = λ c. lost_at x (s.client c) }

abbrev pub without_moves : machine.State → ℕ → machine.State
without_moves s x = record s { operator = λ o. stopped_move x (s.operator o) }

abbrev pub without_lines : machine.State → ℕ → machine.State
without_lines s x = record s { link = λ p q. if machine.is_link s p q then closed_at x p q (s.link p q) else unused }

-- the operator's next command moves a bucket from set x
abbrev pub moves_from : ℕ → machine.Operator → Bool
moves_from x o = o.moving && is_move_from x (move_of (machine.next_command o))

-- ---- connections

-- the connection from p to q is one of the two between x and y
abbrev pub is_between : ℕ → ℕ → ℕ → ℕ → Bool
is_between x y p q = if p == x then q == y else if q == x then p == y else false

-- it is one of those between x and the sets up to n
abbrev pub is_between_to : ℕ → ℕ → ℕ → ℕ → Bool
is_between_to x n p q = if p == x then is_to n q else if q == x then is_to n p else false
