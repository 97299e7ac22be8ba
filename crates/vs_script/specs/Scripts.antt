-- Scripts as plain data.
use Rattle.std.specs.Prelude.{ℕ, List, [], map, slice_get, unwrap_or, zero, suc}
use Rattle.vs_script.specs.Calls.{Call, calls}
use Rattle.vs_script.specs.declared.command.Command.{Command}
use Rattle.vs_script.specs.declared.script.Script as code_script
use Rattle.vs_script.specs.declared.script.Script.TheVariants as code_variants
use Rattle.vs_script.specs.declared.scripts.Scripts as code

-- the calls of a client, or the commands of an operator
pub data Script : Type 0 where
  Client : List Call → Script
  Operator : List Command → Script

-- what a script holds, without the room for more
abbrev pub script : code_script.Script → Script
script (code_variants.Client c) = Client (calls c.items)
script (code_variants.Operator c) = Operator c.items

-- the calls of each client, and the commands of each operator
pub record Scripts : Type 0 where
  pub clients : List (List Call)
  pub operators : List (List Command)

-- what scripts hold, without the room for more
abbrev pub scripts : code.Scripts → Scripts
scripts s = record {
  clients = map (λ c. calls c.items) s.clients.items;
  operators = map (λ c. c.items) s.operators.items;
}

-- the script of this number, from 1
abbrev pub script_of : {A : Type 0} → List (List A) → ℕ → List A
script_of scripts zero = []
script_of scripts (suc k) = unwrap_or (slice_get scripts k) []
