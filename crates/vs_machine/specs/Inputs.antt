-- What a run is given: a configuration and scripts, which stay as they were.
use Rattle.std.specs.Prelude.{◌≡◌, ℕ, ◌≤◌, true, length}
use Rattle.vs_script.specs.Calls.{Call}
use Rattle.vs_script.specs.declared.command.Command.{Command}
use Rattle.vs_script.specs.declared.command.Command.TheVariants.{Cut}
use Rattle.vs_machine.specs.State.{State, sets_of, has_bucket, has_client}
use Rattle.vs_script.specs.Lawful.{IsWithin, IsLawfulCall, IsLawfulCommand}
use Rattle.vs_script.specs.Scripts.{Scripts, script_of}
use Rattle.vs_machine.specs.Opening.{IsLawful}

-- the state has these scripts, one for each client and for each operator, and they are lawful with its configuration
pub record HasInputs (s : State) : Type 0 where
  pub scripts : Scripts
  pub lawful : IsLawful s.config scripts
  pub clients : s.clients ≡ length scripts.clients
  pub client : (c : ℕ) → (s.client c).script ≡ script_of scripts.clients c
  pub operators : s.operators ≡ length scripts.operators
  pub operator : (o : ℕ) → (s.operator o).script ≡ script_of scripts.operators o

-- the second state has the configuration, as many clients and operators, and each script of the first
pub record SameInputs (s t : State) : Type 0 where
  pub config : t.config ≡ s.config
  pub clients : t.clients ≡ s.clients
  pub client : (c : ℕ) → (t.client c).script ≡ (s.client c).script
  pub operators : t.operators ≡ s.operators
  pub operator : (o : ℕ) → (t.operator o).script ≡ (s.operator o).script

-- ---- what they are, seen from the state alone

pub record HasFew (s : State) : Type 0 where
  pub clients : s.clients ≤ 64
  pub operators : s.operators ≤ 16
  pub calls : (c : ℕ) → length (s.client c).script ≤ 200000
  pub commands : (o : ℕ) → length (s.operator o).script ≤ 10000

-- the call is lawful, and of a bucket of the cluster
pub record IsCallIn (s : State) (k : Call) : Type 0 where
  pub lawful : IsLawfulCall s.config.bucket_count k
  pub bucket : has_bucket s k.bucket ≡ true

-- a cut names a call of the script of a client of the cluster
abbrev pub IsCutIn : State → Command → Type 0
IsCutIn s (Cut c n) = (has_client s c ≡ true) × IsWithin (length (s.client c).script) n
IsCutIn s command = Unit {0}

-- the command is lawful
pub record IsCommandIn (s : State) (command : Command) : Type 0 where
  pub lawful : IsLawfulCommand s.config.bucket_count (sets_of s) command
  pub cut : IsCutIn s command
