-- What is made ready where a set sends a bucket away.
use Rattle.std.specs.Prelude.{◌≡◌, ℕ, ◌-◌, ◌^◌, ◌<◌, ◌≤◌, [], List, Option, Some, None}
use Rattle.std.specs.Ordering.{nat_cmp}
use Rattle.vs_table.specs.Entries.{value_of}
use Rattle.vs_link.specs.Links.{Links, line_of, connection_of}
use Rattle.vs_record.specs.RowTable.{row_map_at}
use Rattle.vs_rows.specs.RowMap.{RowMap}
use Rattle.vs_send.specs.declared.transfer.By.{By}
use Rattle.vs_send.specs.declared.transfer.By.TheVariants.{Command, Haul}
use Rattle.vs_send.specs.declared.transfer.Transfer.{Transfer}
use Rattle.vs_machine.specs.State.{next_command}
use Rattle.vs_machine.specs.Kinds.Sender.{Move, move_of, sent_up_to, next_page, last_key}
use Rattle.vs_state.specs.declared.actors.OperatorTables.{OperatorTables}
use Rattle.vs_state.specs.declared.state.State.{State}
use Rattle.vs_state.specs.declared.tables.SetTables.{SetTables}
use Rattle.vs_state.specs.Plain.{plain, transfer_in}
use Rattle.vs_state.specs.Tables.{numbered}
use Rattle.vs_core.specs.Rooms.{HasAnswerRoom}
use Rattle.vs_core.specs.declared.kinds.chunk.PreparedChunk.{PreparedChunk}

-- the transfer of a bucket from a set, and its rows there
abbrev pub transfer_at : State → ℕ → ℕ → Option Transfer
transfer_at s x b = numbered (λ t. transfer_in t b) None s.sets.items x

abbrev pub rows_at : State → ℕ → ℕ → RowMap
rows_at s x b = numbered (λ t. row_map_at t.rows b) [] s.sets.items x

-- the connection has room for one more message, and a number for it
pub record HasLineRoom (links : Links) (x y : ℕ) : Type 0 where
  pub room : 1 ≤ (line_of links x y).room
  pub number : (connection_of links x y).next < 2 ^ 63 - 1

-- the set has room to send its transfer's receiver one more message
abbrev pub HasMessageRoom : State → ℕ → ℕ → Type 0
HasMessageRoom s x b = (t : Transfer) → transfer_at s x b ≡ Some t → HasLineRoom s.links x t.dest

-- the page has the rows that are to be sent next, the key of the last of them stands beside it, and the message has room
pub record IsChunkReady (s : State) (x b : ℕ) (p : PreparedChunk) : Type 0 where
  pub page : (t : Transfer) (k : Option (List ℕ)) → transfer_at s x b ≡ Some t → sent_up_to t.phase ≡ Some k → p.page.items ≡ next_page (rows_at s x b) k
  pub last : p.last ≡ last_key p.page.items
  pub line : HasMessageRoom s x b

-- there is room to keep the place of a bucket that is sent
abbrev pub HasKeptRoom : SetTables → ℕ → Type 0
HasKeptRoom t b = value_of nat_cmp t.kept.items b ≡ None → 1 ≤ t.kept.room

abbrev pub HasPlaceRoom : State → ℕ → ℕ → Type 0
HasPlaceRoom s x b = (t : SetTables) → numbered Some None s.sets.items x ≡ Some t → HasKeptRoom t b

-- there is room for one more transfer, and for its lock
pub record HasTransferRoom (t : SetTables) : Type 0 where
  pub transfers : 1 ≤ t.transfers.room
  pub refs : 1 ≤ t.refs.room

abbrev pub HasMoveRoom : State → ℕ → Type 0
HasMoveRoom s x = (t : SetTables) → numbered Some None s.sets.items x ≡ Some t → HasTransferRoom t

-- a haul is one of those that a set counts
abbrev pub counted_by : By → ℕ
counted_by (Command o) = 0
counted_by (Haul o) = 1

-- an operator's round can count one more bucket
abbrev pub HasMovedRoom : State → ℕ → Type 0
HasMovedRoom s o = (t : OperatorTables) → numbered Some None s.operators.items o ≡ Some t → t.moved < 2 ^ 64 - 1

-- what a transfer that is given up, or has ended, tells who began it has room
abbrev pub HasAbortRoom : State → By → Type 0
HasAbortRoom s (Command o) = HasAnswerRoom s o
HasAbortRoom s (Haul o) = Unit {0}

abbrev pub HasEndRoom : State → By → Type 0
HasEndRoom s (Command o) = HasAnswerRoom s o
HasEndRoom s (Haul o) = HasMovedRoom s o

abbrev pub IsAbortReady : State → ℕ → ℕ → Type 0
IsAbortReady s x b = (t : Transfer) → transfer_at s x b ≡ Some t → HasAbortRoom s t.by

abbrev pub IsEndReady : State → ℕ → ℕ → Type 0
IsEndReady s x b = (t : Transfer) → transfer_at s x b ≡ Some t → HasEndRoom s t.by

-- the operator's command can be answered, and the transfer that it begins has room
pub record IsStartReady (s : State) (o : ℕ) : Type 0 where
  pub answer : HasAnswerRoom s o
  pub move : (m : Move) → move_of (next_command ((plain s).operator o)) ≡ Some m → HasMoveRoom s m.from
