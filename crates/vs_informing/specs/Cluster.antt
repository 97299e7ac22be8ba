-- The cluster of a configuration and of what journals stand for, in which nothing has happened.
use Rattle.std.specs.Prelude.{◌≡◌, ◌⊎◌, ℕ, List, []}
use Rattle.vs_config.specs.Configuration.{Configuration}
use Rattle.vs_disk.specs.Told.{Told}
use Rattle.vs_info.specs.Info.{info_text}
use Rattle.vs_script.specs.Scripts.{Scripts}
use Rattle.vs_world.specs.Began.{Began, start_of}
use Rattle.vs_world.specs.NotOpened.{IsNotOpened}
use Rattle.vs_world.specs.declared.fault.WorldFault.{WorldFault}
use Rattle.vs_world.specs.declared.fault.WorldFault.TheVariants as world
use Rattle.vs_top.specs.Plays.{Played, IsBegun, AreFit, played_on, journal_limit}

-- no clients and no operators
abbrev pub no_scripts : Scripts
no_scripts = record { clients = []; operators = [] }

-- no events are played on the disks
abbrev pub opened_on : {D : Type 0} → (D → Told) → Configuration → List D → List D → Played D
opened_on told config before after = played_on told config no_scripts [] before after

-- The text tells of the cluster that begins with the journals. The disks that come back fit it.
pub record IsInfoOf {D : Type 0} (p : Played D) (text : List ℕ) : Type 0 where
  pub began : Began
  pub begun : IsBegun p began
  pub fits : AreFit p (start_of began)
  pub text_is : text ≡ info_text (start_of began)

-- Why nothing is told of it: the journals weren't opened, or memory was refused.
abbrev pub IsRefusal : {D : Type 0} → (D → Told) → Configuration → List D → WorldFault → List D → Type 0
IsRefusal told config before fault after = (fault ≡ world.NoMemory) ⊎ IsNotOpened told config journal_limit before fault after
