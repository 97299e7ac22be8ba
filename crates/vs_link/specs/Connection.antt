-- A connection from one set to another, as plain data, and what each call makes of it.
use Rattle.std.specs.Prelude.{ℕ, ◌+◌, List, [], ◌∷◌, ◌++◌, Option, Some, None}
use Rattle.vs_rows.specs.RowMap.{RowMap}
use Rattle.vs_link.specs.declared.message.Heard.{Heard}
use Rattle.vs_link.specs.declared.message.Msg as code
use Rattle.vs_link.specs.declared.message.Msg.TheVariants as coded
use Rattle.vs_link.specs.declared.message.Posted as posted_code

-- a message, with the rows that it carries
pub data Message : Type 0 where
  Chunk : (bucket : ℕ) (rows : RowMap) → Message
  Last : (bucket : ℕ) → Message
  Stat : (bucket : ℕ) → Message

abbrev pub message : code.Msg → Message
message (coded.Chunk b page) = Chunk b page.items
message (coded.Last b) = Last b
message (coded.Stat b) = Stat b

-- a message with its number
pub record Sent : Type 0 where
  pub sync : ℕ
  pub message : Message

abbrev pub sent : posted_code.Posted → Sent
sent p = record { sync = p.sync; message = message p.msg }

abbrev pub bucket_of : Message → ℕ
bucket_of (Chunk b rows) = b
bucket_of (Last b) = b
bucket_of (Stat b) = b

pub record Connection : Type 0 where
  -- how often it was closed
  pub epoch : ℕ
  -- the number of the next message
  pub next : ℕ
  -- the messages that aren't taken yet, and the replies that aren't heard yet, the oldest first
  pub calls : List Sent
  pub replies : List Heard

abbrev pub unused : Connection
unused = record { epoch = 0; next = 0; calls = []; replies = [] }

abbrev pub first : {A : Type 0} → List A → Option A
first [] = None
first (x ∷ xs) = Some x

abbrev pub rest : {A : Type 0} → List A → List A
rest [] = []
rest (x ∷ xs) = xs

-- a message goes to the end of its line, with the next number
abbrev pub with_message : Connection → Message → Connection
with_message c m =
    record c { next = c.next + 1; calls = c.calls ++ (record { sync = c.next; message = m }) ∷ [] }

abbrev pub without_call : Connection → Connection
without_call c = record c { calls = rest c.calls }

abbrev pub without_reply : Connection → Connection
without_reply c = record c { replies = rest c.replies }

abbrev pub with_reply : Connection → Heard → Connection
with_reply c heard = record c { replies = c.replies ++ heard ∷ [] }

-- both lines are dropped, and the epoch rises
abbrev pub closed : Connection → Connection
closed c = record c { epoch = c.epoch + 1; calls = []; replies = [] }
