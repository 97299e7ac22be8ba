-- What a world began with.
use Rattle.std.specs.Prelude.{ℕ}
use Rattle.vs_config.specs.Configuration.{Configuration, configuration}
use Rattle.vs_record.specs.Durable.{Durable}
use Rattle.vs_record.specs.States.{durable}
use Rattle.vs_script.specs.Scripts as script
use Rattle.vs_machine.specs.Journals.{held_as, nothing}
use Rattle.vs_machine.specs.Opening.{opening}
use Rattle.vs_machine.specs.State.{State}
use Rattle.vs_state.specs.Tables.{numbered}
use Rattle.vs_world.specs.declared.opening.Opening.{Opening}

-- the configuration, the scripts, the greatest length of a journal, and of each set the entries and the rows that its journal stood
-- for, and how often its disk had failed, when the journals had been opened
pub record Began : Type 0 where
  pub config : Configuration
  pub scripts : script.Scripts
  pub limit : ℕ
  pub states : ℕ → Durable
  pub faults : ℕ → ℕ

-- what an opening stands for
abbrev pub begun : Opening → Began
begun o = record {
  config = configuration o.config;
  scripts = script.scripts o.scripts;
  limit = o.limit;
  states = numbered durable nothing o.states.items;
  faults = numbered (λ n. n) 0 o.faults.items;
}

-- the cluster of that, before all events
abbrev pub start_of : Began → State
start_of b = opening b.config b.scripts (held_as b.states)
