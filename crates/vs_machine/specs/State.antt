-- The state of a cluster, as plain data: tables are functions, and a bucket's come first.
use Rattle.std.specs.Prelude.{ℕ, ◌-◌, ◌==◌, ◌&&◌, not, Bool, true, false, List, [], ◌∷◌, ◌++◌, length, Option, Some, None, slice_get}
use Rattle.std.specs.Option.{option_map_or}
use Rattle.vs_base.specs.declared.numbers.CallId.{CallId}
use Rattle.vs_base.specs.declared.numbers.Mode.{Mode}
use Rattle.vs_base.specs.declared.numbers.Mode.TheVariants.{Ro, Rw}
use Rattle.vs_rows.specs.RowMap.{RowMap}
use Rattle.vs_space.specs.declared.status.Status.{Status}
use Rattle.vs_calls.specs.Progress.{Progress, is_held}
use Rattle.vs_calls.specs.Outcomes.{Outcome}
use Rattle.vs_script.specs.Calls.{Call}
use Rattle.vs_script.specs.declared.command.Command.{Command}
use Rattle.vs_history.specs.History.{History}
use Rattle.vs_link.specs.Connection.{Connection}
use Rattle.vs_send.specs.declared.transfer.Transfer.{Transfer}
use Rattle.vs_send.specs.declared.transfer.Phase.{Phase}
use Rattle.vs_send.specs.declared.transfer.Phase.TheVariants.{Draining}
use Rattle.vs_record.specs.Change.{Change}
use Rattle.vs_balance.specs.declared.route.Route.{Route}
use Rattle.vs_config.specs.Configuration.{Configuration}
use Rattle.vs_config.specs.declared.config.SetConfig.{SetConfig}
use Rattle.vs_machine.specs.declared.outcome.CommandOutcome.{CommandOutcome}
use Rattle.vs_machine.specs.Tables.{put, put_at, is_to, count_to}

-- what a set has asked another about a bucket: the epoch of the connection and the number of the message
pub record Ask : Type 0 where
  pub epoch : ℕ
  pub sync : ℕ

-- what there is of one bucket
pub record Bucket : Type 0 where
  -- at each set its status, its rows, the place of its rows where it was sent, its transfer and its ask
  pub entry : ℕ → Option Status
  pub rows : ℕ → RowMap
  pub kept : ℕ → ℕ
  pub transfer : ℕ → Option Transfer
  pub ask : ℕ → Option Ask
  pub history : History

pub record Client : Type 0 where
  pub script : List Call
  pub answered : List Outcome
  pub present : Progress

pub record Operator : Type 0 where
  pub script : List Command
  pub answered : List CommandOutcome
  -- whether its next command moves a bucket
  pub moving : Bool
  -- of a balance: the rounds so far, the present round's routes with what is left of each, and how many it moved
  pub rounds : ℕ
  pub routes : List Route
  pub moved : ℕ

pub record State : Type 0 where
  pub config : Configuration
  -- of each set whether it is up, the change that may be in its journal, and the number of its last fault
  pub up : ℕ → Bool
  pub pending : ℕ → Option Change
  pub last_fault : ℕ → ℕ
  pub clients : ℕ
  pub client : ℕ → Client
  pub operators : ℕ
  pub operator : ℕ → Operator
  pub bucket : ℕ → Bucket
  -- the connection from the first set to the second
  pub link : ℕ → ℕ → Connection

-- ---- what there is in the cluster

abbrev pub sets_of : State → ℕ
sets_of s = length s.config.sets

abbrev pub has_set : State → ℕ → Bool
has_set s x = is_to (sets_of s) x

abbrev pub has_bucket : State → ℕ → Bool
has_bucket s b = is_to s.config.bucket_count b

-- a connection leads from a set of the cluster to another
abbrev pub is_link : State → ℕ → ℕ → Bool
is_link s x y = has_set s x && has_set s y && not (x == y)

abbrev pub has_client : State → ℕ → Bool
has_client s c = is_to s.clients c

abbrev pub has_operator : State → ℕ → Bool
has_operator s o = is_to s.operators o

abbrev pub set_config : State → ℕ → Option SetConfig
set_config s x = slice_get s.config.sets (x - 1)

abbrev pub is_locked : State → ℕ → Bool
is_locked s x = option_map_or (λ c. c.lock) (set_config s x) false

abbrev pub weight_of : State → ℕ → ℕ
weight_of s x = option_map_or (λ c. c.weight) (set_config s x) 0

-- ---- calls and commands

-- the present call, or the one to be posted next
abbrev pub next_call : Client → Option Call
next_call c = slice_get c.script (length c.answered)

abbrev pub call_id : ℕ → Client → CallId
call_id c client = record { client = c; call = client.present.number }

abbrev pub next_command : Operator → Option Command
next_command o = slice_get o.script (length o.answered)

-- the next command is answered
abbrev pub answer : Operator → CommandOutcome → Operator
answer o outcome = record o { answered = o.answered ++ outcome ∷ []; moving = false; rounds = 0; routes = []; moved = 0 }

-- ---- references, which are counted from the calls

abbrev pub is_mode : Mode → Mode → Bool
is_mode Ro Ro = true
is_mode Rw Rw = true
is_mode m n = false

abbrev pub is_call_of : Mode → ℕ → Option Call → Bool
is_call_of mode b None = false
is_call_of mode b (Some k) = is_mode k.mode mode && (k.bucket == b)

abbrev pub is_set : Option ℕ → ℕ → Bool
is_set None x = false
is_set (Some y) x = y == x

-- the client's call holds a reference of this mode on the bucket at the set
abbrev pub holds : Mode → ℕ → ℕ → Client → Bool
holds mode x b c = is_held c.present.stage && is_set c.present.set x && is_call_of mode b (next_call c)

abbrev pub references : State → Mode → ℕ → ℕ → ℕ
references s mode x b = count_to (λ c. holds mode x b (s.client c)) s.clients

abbrev pub is_draining_in : Phase → Bool
is_draining_in (Draining n) = true
is_draining_in p = false

-- the read-write lock stands while a transfer drains
abbrev pub is_draining : Option Transfer → Bool
is_draining None = false
is_draining (Some t) = is_draining_in t.phase

-- ---- the state with one thing changed

abbrev pub put_client : State → ℕ → Client → State
put_client s c new = record s { client = put s.client c new }

abbrev pub put_operator : State → ℕ → Operator → State
put_operator s o new = record s { operator = put s.operator o new }

abbrev pub put_bucket : State → ℕ → Bucket → State
put_bucket s b new = record s { bucket = put s.bucket b new }

abbrev pub put_link : State → ℕ → ℕ → Connection → State
put_link s x y new = record s { link = put_at s.link x y new }

abbrev pub with_progress : Client → Progress → Client
with_progress c p = record c { present = p }

-- the bucket with another entry, other rows, another transfer or another ask at set x
abbrev pub with_entry : Bucket → ℕ → Option Status → Bucket
with_entry b x e = record b { entry = put b.entry x e }

abbrev pub put_rows : Bucket → ℕ → RowMap → Bucket
put_rows b x rows = record b { rows = put b.rows x rows }

abbrev pub with_transfer : Bucket → ℕ → Option Transfer → Bucket
with_transfer b x t = record b { transfer = put b.transfer x t }

abbrev pub with_ask : Bucket → ℕ → Option Ask → Bucket
with_ask b x a = record b { ask = put b.ask x a }
