-- The state of a cluster that the tables in memory stand for.
use Rattle.std.specs.Prelude.{ℕ, ◌==◌, if◌then◌else◌, true, [], length, Option, None, unwrap_or}
use Rattle.std.specs.Option.{option_map}
use Rattle.std.specs.Ordering.{nat_cmp}
use Rattle.vs_table.specs.Entries.{value_of}
use Rattle.vs_space.specs.Entries.{status_of}
use Rattle.vs_space.specs.declared.status.Status.{Status}
use Rattle.vs_calls.specs.State as calls_state
use Rattle.vs_calls.specs.Outcomes.{outcomes}
use Rattle.vs_script.specs.Calls.{calls}
use Rattle.vs_history.specs.History.{History}
use Rattle.vs_history.specs.Means as history
use Rattle.vs_link.specs.Connection.{Connection, unused}
use Rattle.vs_link.specs.Links.{connection_of}
use Rattle.vs_recover.specs.Asks.{ask_of}
use Rattle.vs_record.specs.Change.{change}
use Rattle.vs_record.specs.RowTable.{row_map_at}
use Rattle.vs_send.specs.declared.transfer.Transfer.{Transfer}
use Rattle.vs_config.specs.Configuration.{configuration}
use Rattle.vs_machine.specs.State as machine
use Rattle.vs_machine.specs.Opening.{client_at, operator_at}
use Rattle.vs_state.specs.declared.tables.SetTables.{SetTables}
use Rattle.vs_state.specs.declared.actors.ClientTables.{ClientTables}
use Rattle.vs_state.specs.declared.actors.OperatorTables.{OperatorTables}
use Rattle.vs_state.specs.declared.state.State.{State}
use Rattle.vs_state.specs.Tables.{numbered}

-- ---- what a set has of a bucket

abbrev pub entry_in : SetTables → ℕ → Option Status
entry_in t b = status_of t.space.entries b

abbrev pub kept_in : SetTables → ℕ → ℕ
kept_in t b = unwrap_or (value_of nat_cmp t.kept.items b) 0

abbrev pub transfer_in : SetTables → ℕ → Option Transfer
transfer_in t b = value_of nat_cmp t.transfers.items b

abbrev pub ask : ℕ × ℕ → machine.Ask
ask a = record { epoch = a.0; sync = a.1 }

abbrev pub ask_in : SetTables → ℕ → Option machine.Ask
ask_in t b = option_map ask (ask_of t.asks.items b)

abbrev pub no_history : History
no_history = record { base = []; writes = []; reads = [] }

abbrev pub bucket : State → ℕ → machine.Bucket
bucket s b = record {
  entry = numbered (λ t. entry_in t b) None s.sets.items;
  rows = numbered (λ t. row_map_at t.rows b) [] s.sets.items;
  kept = numbered (λ t. kept_in t b) 0 s.sets.items;
  transfer = numbered (λ t. transfer_in t b) None s.sets.items;
  ask = numbered (λ t. ask_in t b) None s.sets.items;
  history = numbered history.means no_history s.histories.items b;
}

-- ---- clients and operators

abbrev pub client : ClientTables → machine.Client
client c = record { script = calls c.script.items; answered = outcomes c.outcomes.items; present = calls_state.means c.present }

abbrev pub operator : OperatorTables → machine.Operator
operator o = record {
  script = o.script.items;
  answered = o.outcomes.items;
  moving = o.moving;
  rounds = o.rounds;
  routes = o.routes.items;
  moved = o.moved;
}

-- ---- connections

-- a set has none to itself
abbrev pub link : State → ℕ → ℕ → Connection
link s x y = if x == y then unused else connection_of s.links x y

-- ---- the whole

abbrev pub plain : State → machine.State
plain s = record {
  config = configuration s.config;
  up = numbered (λ t. t.is_up) true s.sets.items;
  pending = numbered (λ t. option_map change t.pending) None s.sets.items;
  last_fault = numbered (λ t. t.last_fault) 0 s.sets.items;
  clients = length s.clients.items;
  client = numbered client (client_at []) s.clients.items;
  operators = length s.operators.items;
  operator = numbered operator (operator_at []) s.operators.items;
  bucket = bucket s;
  link = link s;
}
