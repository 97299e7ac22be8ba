-- What the files of a command without events give together, or why they don't.
use Rattle.std.specs.Prelude.{◌≡◌, ◌⊎◌, ℕ, List, ◌∷◌, Ok, All, IsTrue}
use Rattle.vs_config.specs.Configuration.{Configuration}
use Rattle.vs_host.specs.Told.{Told}
use Rattle.vs_script.specs.Gathering.{gathering_of}
use Rattle.vs_script.specs.Scripts.{Script, Scripts}
use Rattle.vs_inputs.specs.declared.fault.InputFault.{InputFault}
use Rattle.vs_inputs.specs.Places.{config_place, first_run_script_place}
use Rattle.vs_inputs.specs.Files.{Files, HasText}
use Rattle.vs_inputs.specs.Gives.{GivesConfig}
use Rattle.vs_inputs.specs.Inputs.{HaveScripts, AreGoodScripts, IsScriptCause, IsGatherFault}
use Rattle.vs_inputs.specs.Reading.{IsFileCause, IsGood}

-- the names of the files
pub record RunNames : Type 0 where
  pub config : List ℕ
  pub scripts : List (List ℕ)

-- these are they
abbrev pub run_names : List ℕ → List (List ℕ) → RunNames
run_names config scripts = record { config = config; scripts = scripts }

-- each of them may be read
abbrev pub MayReadRunFiles : Told → RunNames → Type 0
MayReadRunFiles host names = All (λ name. IsTrue (host.may_read name)) (names.config ∷ names.scripts)

abbrev pub HasRunConfig : Files → RunNames → Configuration → Type 0
HasRunConfig files names config = HasText files names.config (λ text. GivesConfig text (Ok config))

-- ---- what they give together

pub record AreRunInputs (files : Files) (names : RunNames) (config : Configuration) (scripts : Scripts) : Type 0 where
  pub config_file : HasRunConfig files names config
  pub each : List Script
  pub script_files : HaveScripts config files names.scripts each
  pub gathered : gathering_of each ≡ Ok scripts

-- ---- why they don't: the first file that didn't give its value, or the scripts together

pub record IsRunScriptsCause (names : RunNames) (fault : InputFault) (old new : Told) : Type 0 where
  pub config : Configuration
  pub config_file : HasRunConfig old.file names config
  pub script : IsScriptCause config first_run_script_place names.scripts fault old new

pub record IsRunGatherCause (names : RunNames) (fault : InputFault) (files : Files) : Type 0 where
  pub config : Configuration
  pub config_file : HasRunConfig files names config
  pub scripts : List Script
  pub script_files : HaveScripts config files names.scripts scripts
  pub refused : IsGatherFault config_place fault scripts

abbrev pub IsRunInputCause : RunNames → InputFault → Told → Told → Type 0
IsRunInputCause names fault old new =
    IsFileCause fault config_place names.config GivesConfig old new
    ⊎ IsRunScriptsCause names fault old new
    ⊎ IsRunGatherCause names fault old.file

-- ---- each file is told, no longer than a text may be, in its form, and the scripts may run together

pub record AreGoodRunInputs (files : Files) (names : RunNames) : Type 0 where
  pub config : Configuration
  pub config_file : IsGood files names.config GivesConfig config
  pub each : List Script
  pub script_files : AreGoodScripts config files names.scripts each
  pub scripts : Scripts
  pub gathered : gathering_of each ≡ Ok scripts
