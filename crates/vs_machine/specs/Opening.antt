-- What a run begins with.
use Rattle.std.specs.Prelude.{ℕ, ◌≤◌, true, false, List, [], length, All, Option, None}
use Rattle.std.specs.List.{sum_by}
use Rattle.std.specs.Option.{option_map_or}
use Rattle.vs_rows.specs.RowMap.{RowMap}
use Rattle.vs_space.specs.declared.status.Status.{Status}
use Rattle.vs_calls.specs.Progress.{fresh}
use Rattle.vs_config.specs.Configuration.{Configuration}
use Rattle.vs_link.specs.Connection.{unused}
use Rattle.vs_script.specs.Calls.{Call}
use Rattle.vs_script.specs.Lawful.{IsWithin, IsLawfulCall, IsLawfulCommand, IsCutOf, scans_in}
use Rattle.vs_script.specs.Scripts.{Scripts, script_of}
use Rattle.vs_script.specs.declared.command.Command.{Command}
use Rattle.vs_machine.specs.State.{State, Bucket, Client, Operator}
use Rattle.vs_machine.specs.Coherence.{owner_at}

-- ---- lawful scripts

pub record IsLawful (config : Configuration) (scripts : Scripts) : Type 0 where
  pub buckets : IsWithin 30000 config.bucket_count
  pub sets : IsWithin 32 (length config.sets)
  pub threshold : config.threshold ≤ 100
  pub max_receiving : IsWithin 30000 config.max_receiving
  pub max_sending : IsWithin 15 config.max_sending
  pub clients : length scripts.clients ≤ 64
  pub operators : length scripts.operators ≤ 16
  pub few_calls : sum_by length scripts.clients ≤ 200000
  pub few_scans : sum_by scans_in scripts.clients ≤ 20000
  pub few_commands : sum_by length scripts.operators ≤ 10000
  pub calls : All (All (IsLawfulCall config.bucket_count)) scripts.clients
  pub commands : All (All (IsLawfulCommand config.bucket_count (length config.sets))) scripts.operators
  pub cuts : All (All (IsCutOf scripts.clients)) scripts.operators

-- ---- the opening

-- what each set has of each bucket when the journals are opened: by set, then by bucket
pub record Holdings : Type 0 where
  pub entry : ℕ → ℕ → Option Status
  pub rows : ℕ → ℕ → RowMap

abbrev pub client_at : List Call → Client
client_at script = record { script = script; answered = []; present = fresh 1 }

abbrev pub operator_at : List Command → Operator
operator_at script = record { script = script; answered = []; moving = false; rounds = 0; routes = []; moved = 0 }

-- the owner's rows are those at opening
abbrev pub base_of : Holdings → ℕ → ℕ → RowMap
base_of held n b = option_map_or (λ o. held.rows o b) (owner_at (λ x. held.entry x b) n) []

abbrev pub bucket_at : Holdings → ℕ → ℕ → Bucket
bucket_at held n b = record {
  entry = λ x. held.entry x b;
  rows = λ x. held.rows x b;
  kept = λ x. 0;
  transfer = λ x. None;
  ask = λ x. None;
  history = record { base = base_of held n b; writes = []; reads = [] };
}

-- the state before all events
abbrev pub opening : Configuration → Scripts → Holdings → State
opening config scripts held = record {
  config = config;
  up = λ x. true;
  pending = λ x. None;
  last_fault = λ x. 0;
  clients = length scripts.clients;
  client = λ c. client_at (script_of scripts.clients c);
  operators = length scripts.operators;
  operator = λ o. operator_at (script_of scripts.operators o);
  bucket = bucket_at held (length config.sets);
  link = λ x y. unused;
}
