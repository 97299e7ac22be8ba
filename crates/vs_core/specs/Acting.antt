-- What is made ready for a call that acts.
use Rattle.std.specs.Prelude.{◌≡◌, ℕ, ◌≤◌, List, [], length, Some, None, unwrap_or}
use Rattle.vs_base.specs.Listed.{Listed}
use Rattle.vs_rows.specs.Changes.{with_changes}
use Rattle.vs_rows.specs.Operations.{answers_to, rows_after}
use Rattle.vs_rows.specs.Said.{said_all}
use Rattle.vs_rows.specs.declared.op.Op.{Op}
use Rattle.vs_rows.specs.declared.staged.Staged.{Staged}
use Rattle.vs_history.specs.declared.history.History.{History}
use Rattle.vs_history.specs.Means.{write_room, read_room}
use Rattle.vs_record.specs.RowTable.{Places, rows_at}
use Rattle.vs_machine.specs.State as machine
use Rattle.vs_script.specs.Calls.{Call}
use Rattle.vs_state.specs.declared.state.State.{State}
use Rattle.vs_state.specs.Plain.{plain}
use Rattle.vs_state.specs.Tables.{numbered}
use Rattle.vs_core.specs.declared.kinds.act.PreparedAct.{PreparedAct}

-- the rows of a bucket with their room
abbrev pub no_rows : Listed (List ℕ × List ℕ)
no_rows = record { items = []; room = 0 }

abbrev pub stored : Places → ℕ → Listed (List ℕ × List ℕ)
stored places b = unwrap_or (rows_at places b) no_rows

abbrev pub stored_at : State → ℕ → ℕ → Listed (List ℕ × List ℕ)
stored_at s x b = numbered (λ t. stored t.rows b) no_rows s.sets.items x

-- what operations on these rows change and answer, and the room for the changes
pub record IsStaged (rows : Listed (List ℕ × List ℕ)) (ops : List Op) (staged : Staged) : Type 0 where
  pub answers : said_all staged.answers.items ≡ answers_to rows.items ops
  pub changes : with_changes rows.items staged.changes.items ≡ rows_after rows.items ops
  pub places : length staged.changes.items ≤ rows.room

-- the operations, what they change and answer, and the answers once more
pub record IsPrepared (rows : Listed (List ℕ × List ℕ)) (ops : List Op) (p : PreparedAct) : Type 0 where
  pub ops_are : p.ops.items ≡ ops
  pub staged : IsStaged rows ops (record { changes = p.changes; answers = p.answers })
  pub said : said_all p.said.items ≡ answers_to rows.items ops

-- the history has room for one more write and one more read
pub record HasEntryRoom (h : History) : Type 0 where
  pub writes : 1 ≤ write_room h
  pub reads : 1 ≤ read_room h

-- the history of this bucket has
abbrev pub HasHistoryRoom : State → ℕ → Type 0
HasHistoryRoom s b = (h : History) → numbered Some None s.histories.items b ≡ Some h → HasEntryRoom h

-- the operations of the client's call are prepared, and what it changes has room
pub record IsActReady (s : State) (c : ℕ) (p : PreparedAct) : Type 0 where
  pub prepared : (k : Call) (x : ℕ) → machine.next_call ((plain s).client c) ≡ Some k → ((plain s).client c).present.set ≡ Some x → IsPrepared (stored_at s x k.bucket) k.ops p
  pub history : (k : Call) → machine.next_call ((plain s).client c) ≡ Some k → HasHistoryRoom s k.bucket
