-- What the files of a command give together, or why they don't.
use Rattle.std.specs.Prelude.{◌≡◌, ◌⊎◌, ℕ, ◌+◌, ◌<◌, List, [], ◌∷◌, length, take, get_or, Ok, Err, All, IsTrue, ⊤}
use Rattle.vs_config.specs.Configuration.{Configuration}
use Rattle.vs_config.specs.Lawful as config_law
use Rattle.vs_event.specs.declared.event.Event.{Event}
use Rattle.vs_host.specs.Told.{Told}
use Rattle.vs_script.specs.declared.gather_fault.GatherFault.TheVariants.{Bad}
use Rattle.vs_script.specs.Gathering.{gathering_of}
use Rattle.vs_script.specs.Lawful.{IsLawfulCall, IsLawfulCommand, MayRunTogether}
use Rattle.vs_script.specs.Scripts.{Script, Scripts}
use Rattle.vs_inputs.specs.declared.fault.InputFault.{InputFault}
use Rattle.vs_inputs.specs.declared.fault.InputFault.TheVariants.{Text, NoMemory}
use Rattle.vs_inputs.specs.declared.fault.TextFault.TheVariants.{Gather}
use Rattle.vs_inputs.specs.Places.{config_place, events_place, first_script_place}
use Rattle.vs_inputs.specs.Files.{Files, HasText}
use Rattle.vs_inputs.specs.Gives.{GivesConfig, GivesEvents, GivesScript}
use Rattle.vs_inputs.specs.Reading.{IsFileCause, IsGood}
use Rattle.vs_inputs.specs.Words.{Names, files_of}

-- each file of a command may be read
abbrev pub MayReadFiles : Told → Names → Type 0
MayReadFiles host names = All (λ name. IsTrue (host.may_read name)) (files_of names)

-- ---- what each file gives

abbrev pub HasConfig : Files → Names → Configuration → Type 0
HasConfig files names config = HasText files names.config (λ text. GivesConfig text (Ok config))

abbrev pub HasEvents : Files → Names → List Event → Type 0
HasEvents files names events =
    HasText files names.events (λ text. GivesEvents text (Ok events))

-- each name with the script of its place
abbrev pub Each : (List ℕ → Script → Type 0) → List (List ℕ) → List Script → Type 0
Each Holds [] [] = ⊤
Each Holds (name ∷ names) (script ∷ scripts) = Holds name script × Each Holds names scripts
Each Holds names scripts = ⊥

abbrev pub HaveScripts : Configuration → Files → List (List ℕ) → List Script → Type 0
HaveScripts config files names scripts =
    Each (λ name script. HasText files name (λ text. GivesScript config text (Ok script)))
    names scripts

-- ---- what they give together

pub record AreInputs (files : Files) (names : Names)
    (config : Configuration) (events : List Event) (scripts : Scripts) : Type 0 where
  pub config_file : HasConfig files names config
  pub events_file : HasEvents files names events
  pub each : List Script
  pub script_files : HaveScripts config files names.scripts each
  pub gathered : gathering_of each ≡ Ok scripts

-- a configuration and scripts that a cluster may run
pub record AreLawful (config : Configuration) (scripts : Scripts) : Type 0 where
  pub config_is : config_law.IsLawful config
  pub together : MayRunTogether scripts
  pub calls : All (All (IsLawfulCall config.bucket_count)) scripts.clients
  pub commands : All (All (IsLawfulCommand config.bucket_count (length config.sets))) scripts.operators

-- ---- why they don't: the first file that didn't give its value, or the scripts together

pub record IsEventsCause (names : Names) (fault : InputFault) (old new : Told)
    : Type 0 where
  pub config : Configuration
  pub config_file : HasConfig old.file names config
  pub cause : IsFileCause fault events_place names.events (GivesEvents) old new

-- of the files of these names, the first of which is the input of this place, the scripts of those before one were read
pub record IsScriptCause (config : Configuration) (first : ℕ) (names : List (List ℕ))
    (fault : InputFault) (old new : Told) : Type 0 where
  pub before : List Script
  pub before_files : HaveScripts config old.file (take (length before) names) before
  pub there : length before < length names
  pub cause : IsFileCause fault (first + length before)
      (get_or names (length before) []) (GivesScript config) old new

pub record IsScriptsCause (names : Names) (fault : InputFault) (old new : Told)
    : Type 0 where
  pub config : Configuration
  pub config_file : HasConfig old.file names config
  pub events : List Event
  pub events_file : HasEvents old.file names events
  pub script : IsScriptCause config first_script_place names.scripts fault old new

-- the scripts, the first of which is the input after this place, can't run together
abbrev pub IsGatherFault : ℕ → InputFault → List Script → Type 0
IsGatherFault place (Text k (Gather kind item)) scripts =
    (number : ℕ) × (k ≡ place + number)
    × (gathering_of scripts ≡ Err (Bad kind number item))
IsGatherFault place NoMemory scripts = ⊤
IsGatherFault place fault scripts = ⊥

pub record IsGatherCause (names : Names) (fault : InputFault) (files : Files)
    : Type 0 where
  pub config : Configuration
  pub config_file : HasConfig files names config
  pub events : List Event
  pub events_file : HasEvents files names events
  pub scripts : List Script
  pub script_files : HaveScripts config files names.scripts scripts
  pub refused : IsGatherFault events_place fault scripts

abbrev pub IsInputCause : Names → InputFault → Told → Told → Type 0
IsInputCause names fault old new =
    IsFileCause fault config_place names.config GivesConfig old new
    ⊎ IsEventsCause names fault old new
    ⊎ IsScriptsCause names fault old new
    ⊎ IsGatherCause names fault old.file

abbrev pub AreGoodScripts : Configuration → Files → List (List ℕ) → List Script → Type 0
AreGoodScripts config files names scripts =
    Each (λ name script. IsGood files name (GivesScript config) script) names scripts

-- ---- each file is told, no longer than a text may be, in its form, and the scripts may
-- run together

pub record AreGood (files : Files) (names : Names) : Type 0 where
  pub config : Configuration
  pub config_file : IsGood files names.config GivesConfig config
  pub events : List Event
  pub events_file : IsGood files names.events (GivesEvents) events
  pub each : List Script
  pub script_files : AreGoodScripts config files names.scripts each
  pub scripts : Scripts
  pub gathered : gathering_of each ≡ Ok scripts
