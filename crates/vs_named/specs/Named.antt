-- Keys and values in the scripts with which a cluster begins.
use Rattle.std.specs.Prelude.{◌≡◌, ℕ, List, All, Ok}
use Rattle.vs_config.specs.Configuration.{Configuration}
use Rattle.vs_inputs.specs.Files.{Files}
use Rattle.vs_inputs.specs.Inputs.{HaveScripts}
use Rattle.vs_script.specs.Calls.{Call}
use Rattle.vs_script.specs.Gathering.{gathering_of}
use Rattle.vs_script.specs.Scripts.{Script, Scripts}
use Rattle.vs_legal.specs.Named.{IsNamedOp}

-- the scripts are those of these files
pub record AreRead (files : Files) (names : List (List ℕ)) (config : Configuration) (scripts : Scripts) : Type 0 where
  pub each : List Script
  pub script_files : HaveScripts config files names each
  pub gathered : gathering_of each ≡ Ok scripts

-- the operations of these clients' calls are of keys and values
abbrev pub AreNamedCalls : List (List Call) → Type 0
AreNamedCalls clients = All (All (λ k. All IsNamedOp k.ops)) clients
