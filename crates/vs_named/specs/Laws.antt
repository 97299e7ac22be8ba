-- What follows from how scripts are read.
use Rattle.std.specs.Prelude.{◌≡◌, ℕ, ◌^◌, ◌<◌, List, length, Ok}
use Rattle.vs_auditing.specs.Texts.{IsLegalText}
use Rattle.vs_config.specs.Configuration.{Configuration}
use Rattle.vs_event.specs.declared.event.Event.{Event}
use Rattle.vs_inputs.specs.Files.{Files}
use Rattle.vs_machine.specs.Opening.{Holdings, opening}
use Rattle.vs_machine.specs.Report.{report}
use Rattle.vs_machine.specs.Runs.{IsOpening}
use Rattle.vs_machine.specs.State.{State}
use Rattle.vs_machine.specs.Step.{run}
use Rattle.vs_script.specs.Scripts.{Scripts}
use Rattle.vs_legal.specs.Laws.{AreBasesNamed}
use Rattle.vs_named.specs.Named.{AreNamedCalls, AreRead}

-- the operations of scripts that were read from files are of keys and values
abbrev pub ScriptsAreNamed : Type 0
ScriptsAreNamed = (files : Files) (names : List (List ℕ)) (config : Configuration) (scripts : Scripts) → AreRead files names config scripts → AreNamedCalls scripts.clients

-- The report of each run of a cluster with such scripts is legal, where the rows with which its histories began are of keys and values,
-- and its length has 64 bits.
abbrev pub ReportsAreLegal : Type 0
ReportsAreLegal =
    (files : Files) (names : List (List ℕ)) (config : Configuration) (scripts : Scripts) (held : Holdings) (events : List Event) (s : State)
    → AreRead files names config scripts → IsOpening config scripts held → run (opening config scripts held) events ≡ Ok s
    → AreBasesNamed s → length (report s) < 2 ^ 64 → IsLegalText (report s)
