-- What the files give: the writes, and the reads of each client.
use Rattle.std.specs.Prelude.{◌≡◌, ℕ, List, [], ◌∷◌, map, Ok, All, ⊤}
use Rattle.vs_base.specs.declared.numbers.Mode.{Mode}
use Rattle.vs_base.specs.declared.numbers.Mode.TheVariants.{Ro, Rw}
use Rattle.vs_config.specs.Configuration.{Configuration}
use Rattle.vs_inputs.specs.Files.{Files, HasText}
use Rattle.vs_inputs.specs.Gives.{GivesConfig, GivesScript}
use Rattle.vs_inputs.specs.Reading.{IsGood}
use Rattle.vs_script.specs.Calls.{Call}
use Rattle.vs_script.specs.Gathering.{gathering_of}
use Rattle.vs_script.specs.Scripts.{Script, Client, Scripts}
use Rattle.vs_reads.specs.Names.{Names}

abbrev pub HasConfig : Files → Names → Configuration → Type 0
HasConfig files names config = HasText files names.config (λ text. GivesConfig text (Ok config))

abbrev pub HasScript : Configuration → Files → List ℕ → Script → Type 0
HasScript config files name script =
    HasText files name (λ text. GivesScript config text (Ok script))

-- a client's script, all of whose calls have this mode
abbrev pub IsClientOf : Mode → Script → Type 0
IsClientOf mode (Client calls) = All (λ k. k.mode ≡ mode) calls
IsClientOf mode script = ⊥

-- the file gives the script of a client with these calls, all of which have this mode
pub record HasCalls (mode : Mode) (config : Configuration) (files : Files) (name : List ℕ)
    (calls : List Call) : Type 0 where
  pub file : HasScript config files name (Client calls)
  pub all : IsClientOf mode (Client calls)

-- each of these files gives the calls at its place
abbrev pub HaveCalls : Configuration → Files → List (List ℕ) → List (List Call) → Type 0
HaveCalls config files [] [] = ⊤
HaveCalls config files (name ∷ names) (calls ∷ clients) =
    HasCalls Ro config files name calls × HaveCalls config files names clients
HaveCalls config files names clients = ⊥

-- the scripts of clients with these calls may run together
abbrev pub MayGather : List (List Call) → Type 0
MayGather clients = (s : Scripts) × (gathering_of (map Client clients) ≡ Ok s)

pub record AreGiven (files : Files) (names : Names) (writes : List Call)
    (clients : List (List Call)) : Type 0 where
  pub config : Configuration
  pub config_file : HasConfig files names config
  pub rows_file : HasCalls Rw config files names.rows writes
  pub client_files : HaveCalls config files names.files clients
  pub rows_gather : MayGather (writes ∷ [])
  pub clients_gather : MayGather clients

-- ---- what must be answered: each file is told, no longer than a text may be, and in its form

pub record IsGoodCalls (mode : Mode) (config : Configuration) (files : Files) (name : List ℕ)
    (calls : List Call) : Type 0 where
  pub file : IsGood files name (GivesScript config) (Client calls)
  pub all : IsClientOf mode (Client calls)

abbrev pub AreGoodCalls : Configuration → Files → List (List ℕ) → List (List Call) → Type 0
AreGoodCalls config files [] [] = ⊤
AreGoodCalls config files (name ∷ names) (calls ∷ clients) =
    IsGoodCalls Ro config files name calls × AreGoodCalls config files names clients
AreGoodCalls config files names clients = ⊥

pub record AreGood (files : Files) (names : Names) : Type 0 where
  pub config : Configuration
  pub config_file : IsGood files names.config GivesConfig config
  pub writes : List Call
  pub rows_file : IsGoodCalls Rw config files names.rows writes
  pub clients : List (List Call)
  pub client_files : AreGoodCalls config files names.files clients
  pub rows_gather : MayGather (writes ∷ [])
  pub clients_gather : MayGather clients
