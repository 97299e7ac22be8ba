-- What is made ready where a set takes a message, and what it does with it.
use Rattle.std.specs.Prelude.{◌≡◌, ◌⊎◌, ℕ, ◌≤◌, true, false, length, IsNone, Option, Some, None, Ok}
use Rattle.vs_link.specs.Connection.{Sent, Message, Chunk, Last, Stat}
use Rattle.vs_recv.specs.declared.took.Took.{Took}
use Rattle.vs_space.specs.declared.reply.Reply.{Reply}
use Rattle.vs_space.specs.declared.status.Status.{Status}
use Rattle.vs_space.specs.declared.status.Status.TheVariants.{Receiving}
use Rattle.vs_machine.specs.State as machine
use Rattle.vs_machine.specs.Kinds.Connections.{first_call, received_at, bucket_taking, reply_of, status_at}
use Rattle.vs_state.specs.declared.state.State.{State}
use Rattle.vs_state.specs.declared.tables.SetTables.{SetTables}
use Rattle.vs_state.specs.Plain.{plain, entry_in}
use Rattle.vs_state.specs.Tables.{numbered}
use Rattle.vs_core.specs.Acting.{stored}

-- ---- what is made ready

-- there is room for an entry of the bucket, where it has none, and for so many rows more
pub record HasPageRoom (t : SetTables) (b n : ℕ) : Type 0 where
  pub entry : IsNone (entry_in t b) → 1 ≤ t.space.room
  pub rows : n ≤ (stored t.rows b).room

abbrev pub HasPageRoomAt : State → ℕ → ℕ → ℕ → Type 0
HasPageRoomAt s x b n = (t : SetTables) → numbered Some None s.sets.items x ≡ Some t → HasPageRoom t b n

-- rows that set y takes from set x have room
abbrev pub IsMessageReady : State → ℕ → ℕ → Message → Type 0
IsMessageReady s x y (Chunk b page) = (took : Took) → received_at (plain s) x y b false ≡ Ok took → HasPageRoomAt s y b (length page)
IsMessageReady s x y (Last b) = Unit {0}
IsMessageReady s x y (Stat b) = Unit {0}

abbrev pub IsDeliverReady : State → ℕ → ℕ → Type 0
IsDeliverReady s x y = (sent : Sent) → first_call (plain s) x y ≡ Some sent → IsMessageReady s x y sent.message

-- ---- what is known

-- rows from this set may be taken: the bucket has no entry yet, or is being received from there
abbrev pub IsOpenTo : Option Status → ℕ → Type 0
IsOpenTo entry x = (entry ≡ None) ⊎ (entry ≡ Some (Receiving x))

-- a bucket that a message may change is one of the cluster
abbrev pub HasItsBucket : machine.State → Message → Type 0
HasItsBucket s (Chunk b page) = machine.has_bucket s b ≡ true
HasItsBucket s (Last b) = machine.has_bucket s b ≡ true
HasItsBucket s (Stat b) = Unit {0}

-- ---- what set y does with a message from set x

abbrev pub reply_to : machine.State → ℕ → ℕ → Message → Reply
reply_to s x y (Chunk b page) = reply_of (received_at s x y b false)
reply_to s x y (Last b) = reply_of (received_at s x y b true)
reply_to s x y (Stat b) = status_at (s.bucket b) y

abbrev pub bucket_by : machine.State → ℕ → ℕ → Message → machine.Bucket
bucket_by s x y (Chunk b page) = bucket_taking (s.bucket b) x y (Chunk b page) (received_at s x y b false)
bucket_by s x y (Last b) = bucket_taking (s.bucket b) x y (Last b) (received_at s x y b true)
bucket_by s x y (Stat b) = s.bucket b
