-- Why the files give no reads: the first file in order that gives no calls, or else scripts that may not run together.
use Rattle.std.specs.Prelude.{◌≡◌, ◌⊎◌, ℕ, ◌+◌, ◌<◌, List, [], ◌∷◌, length, take, map, get_or, Err, ⊤}
use Rattle.vs_base.specs.declared.numbers.Mode.{Mode}
use Rattle.vs_base.specs.declared.numbers.Mode.TheVariants.{Ro, Rw}
use Rattle.vs_config.specs.Configuration.{Configuration}
use Rattle.vs_host.specs.Told.{Told}
use Rattle.vs_inputs.specs.declared.fault.InputFault.TheVariants as input
use Rattle.vs_inputs.specs.declared.fault.TextFault.TheVariants.{Gather}
use Rattle.vs_inputs.specs.Files.{Files}
use Rattle.vs_inputs.specs.Gives.{GivesConfig, GivesScript}
use Rattle.vs_inputs.specs.Reading.{IsFileCause}
use Rattle.vs_script.specs.Calls.{Call}
use Rattle.vs_script.specs.declared.gather_fault.GatherFault.TheVariants.{Bad}
use Rattle.vs_script.specs.Gathering.{gathering_of}
use Rattle.vs_script.specs.Scripts.{Script, Client}
use Rattle.vs_reads.specs.declared.fault.ReadsFault.{ReadsFault}
use Rattle.vs_reads.specs.declared.fault.ReadsFault.TheVariants.{Text, NotReads, Read, Write, NoMemory}
use Rattle.vs_reads.specs.Given.{HasConfig, HasScript, HasCalls, HaveCalls, IsClientOf}
use Rattle.vs_reads.specs.Names.{Names}

-- the places of the files among the words after the command, from 1
abbrev pub config_place : ℕ
config_place = 1

abbrev pub rows_place : ℕ
rows_place = 2

-- of the file of reads of this index, from 0
abbrev pub file_place : ℕ → ℕ
file_place i = 3 + i

-- ---- one file

abbrev pub IsConfigCause : ReadsFault → Names → Told → Told → Type 0
IsConfigCause (Text k fault) names old new =
    IsFileCause (input.Text k fault) config_place names.config GivesConfig old new
IsConfigCause (NotReads k) names old new = ⊥
IsConfigCause (Read k) names old new =
    IsFileCause (input.Read k) config_place names.config GivesConfig old new
IsConfigCause Write names old new = ⊥
IsConfigCause NoMemory names old new = ⊤

-- the file of this place and name gives no calls of this mode
abbrev pub IsCallsCause : ReadsFault → Mode → Configuration → ℕ → List ℕ → Told → Told → Type 0
IsCallsCause (Text k fault) mode config place name old new =
    IsFileCause (input.Text k fault) place name (GivesScript config) old new
IsCallsCause (NotReads k) mode config place name old new =
    (k ≡ place)
    × ((script : Script) × HasScript config old.file name script × ¬ (IsClientOf mode script))
IsCallsCause (Read k) mode config place name old new =
    IsFileCause (input.Read k) place name (GivesScript config) old new
IsCallsCause Write mode config place name old new = ⊥
IsCallsCause NoMemory mode config place name old new = ⊤

-- ---- several scripts

-- scripts of clients, the first of which has the place after this one, may not run together
abbrev pub IsGatherCause : ReadsFault → ℕ → List (List Call) → Type 0
IsGatherCause (Text k (Gather kind item)) before clients =
    (n : ℕ) × (k ≡ before + n) × (gathering_of (map Client clients) ≡ Err (Bad kind n item))
IsGatherCause NoMemory before clients = ⊤
IsGatherCause fault before clients = ⊥

-- ---- all files: the configuration, the writes, the reads, and then what may not run together

pub record IsRowsCause (fault : ReadsFault) (names : Names) (old new : Told) : Type 0 where
  pub config : Configuration
  pub config_file : HasConfig old.file names config
  pub cause : IsCallsCause fault Rw config rows_place names.rows old new

-- of the files of reads, those before one gave calls
pub record IsFilesCause (fault : ReadsFault) (config : Configuration) (names : List (List ℕ))
    (old new : Told) : Type 0 where
  pub before : List (List Call)
  pub before_files : HaveCalls config old.file (take (length before) names) before
  pub there : length before < length names
  pub cause : IsCallsCause fault Ro config (file_place (length before))
      (get_or names (length before) []) old new

pub record IsClientsCause (fault : ReadsFault) (names : Names) (old new : Told) : Type 0 where
  pub config : Configuration
  pub config_file : HasConfig old.file names config
  pub writes : List Call
  pub rows_file : HasCalls Rw config old.file names.rows writes
  pub files : IsFilesCause fault config names.files old new

-- all files gave calls
pub record IsTogetherCause (fault : ReadsFault) (names : Names) (files : Files) : Type 0 where
  pub config : Configuration
  pub config_file : HasConfig files names config
  pub writes : List Call
  pub rows_file : HasCalls Rw config files names.rows writes
  pub clients : List (List Call)
  pub client_files : HaveCalls config files names.files clients
  pub refused : IsGatherCause fault 1 (writes ∷ []) ⊎ IsGatherCause fault 2 clients

abbrev pub IsInputCause : ReadsFault → Names → Told → Told → Type 0
IsInputCause fault names old new =
    IsConfigCause fault names old new
    ⊎ IsRowsCause fault names old new
    ⊎ IsClientsCause fault names old new
    ⊎ IsTogetherCause fault names old.file
