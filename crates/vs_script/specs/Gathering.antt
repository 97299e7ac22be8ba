-- Scripts gathered for one run, or the first reason against it.
use Rattle.std.specs.Prelude.{ℕ, ◌+◌, ◌-◌, ◌&&◌, Bool, not, nat_le, nat_lt, if◌then◌else◌, List, [], ◌∷◌, length, Option, Some, None, option_map, Result, Ok, Err}
use Rattle.std.specs.Option.{option_or}
use Rattle.vs_script.specs.declared.command.Command.{Command}
use Rattle.vs_script.specs.declared.command.Command.TheVariants.{Cut}
use Rattle.vs_script.specs.declared.gather_fault.GatherFault.{GatherFault}
use Rattle.vs_script.specs.declared.gather_fault.GatherFault.TheVariants.{Bad}
use Rattle.vs_script.specs.declared.gather_fault.GatherKind.{GatherKind}
use Rattle.vs_script.specs.declared.gather_fault.GatherKind.TheVariants.{TooManyClients, TooManyOperators, TooManyCalls, TooManyScans, TooManyCommands, BadClient, BadCall}
use Rattle.vs_script.specs.declared.limit.Limit.{Limit}
use Rattle.vs_script.specs.declared.limit.Limit.TheVariants as limit
use Rattle.vs_script.specs.Calls.{Call}
use Rattle.vs_script.specs.Lawful.{scans_in}
use Rattle.vs_script.specs.Scripts.{Script, Client, Operator, Scripts, script_of}
use Rattle.vs_script.specs.Words.{◌>>◌}

-- the calls of each client, and the commands of each operator, in the order of the scripts
abbrev pub clients_in : List Script → List (List Call)
clients_in [] = []
clients_in (Client calls ∷ scripts) = calls ∷ clients_in scripts
clients_in (Operator commands ∷ scripts) = clients_in scripts

abbrev pub operators_in : List Script → List (List Command)
operators_in [] = []
operators_in (Client calls ∷ scripts) = operators_in scripts
operators_in (Operator commands ∷ scripts) = commands ∷ operators_in scripts

-- ---- limits

-- how many of what is limited a script is or has
abbrev pub count_of : Limit → Script → ℕ
count_of limit.Clients (Client calls) = 1
count_of limit.Operators (Operator commands) = 1
count_of limit.Calls (Client calls) = length calls
count_of limit.Scans (Client calls) = scans_in calls
count_of limit.Commands (Operator commands) = length commands
count_of limit script = 0

-- how many there may be in all
abbrev pub most_of : Limit → ℕ
most_of limit.Clients = 64
most_of limit.Operators = 16
most_of limit.Calls = 200000
most_of limit.Scans = 20000
most_of limit.Commands = 10000

abbrev pub kind_of : Limit → GatherKind
kind_of limit.Clients = TooManyClients
kind_of limit.Operators = TooManyOperators
kind_of limit.Calls = TooManyCalls
kind_of limit.Scans = TooManyScans
kind_of limit.Commands = TooManyCommands

-- the number of the first script that has more of them than those before it have left, the first
-- of these being of this number
abbrev pub first_above : Limit → ℕ → ℕ → List Script → Option ℕ
first_above limit left number [] = None
first_above limit left number (script ∷ scripts) =
    if nat_lt left (count_of limit script) then Some number
    else first_above limit (left - count_of limit script) (number + 1) scripts

-- the script that passes a limit
abbrev pub limit_fault : Limit → List Script → Option GatherFault
limit_fault limit scripts =
    option_map (λ number. Bad (kind_of limit) number 0) (first_above limit (most_of limit) 1 scripts)

-- ---- cuts

abbrev pub is_within : ℕ → ℕ → Bool
is_within most number = nat_le 1 number && nat_le number most

-- what a cut names isn't there: the client, or its call
abbrev pub cut_kind : List (List Call) → Command → Option GatherKind
cut_kind clients (Cut client call) =
    if not (is_within (length clients) client) then Some BadClient
    else (if not (is_within (length (script_of clients client)) call) then Some BadCall else None)
cut_kind clients command = None

-- the first bad cut of a script's commands, the first of which has this number
abbrev pub cut_fault : List (List Call) → ℕ → ℕ → List Command → Option GatherFault
cut_fault clients script number [] = None
cut_fault clients script number (command ∷ commands) =
    option_or (option_map (λ kind. Bad kind script number) (cut_kind clients command))
    (cut_fault clients script (number + 1) commands)

-- the first bad cut of scripts, the first of which has this number
abbrev pub cuts_fault : List (List Call) → ℕ → List Script → Option GatherFault
cuts_fault clients number [] = None
cuts_fault clients number (Client calls ∷ scripts) = cuts_fault clients (number + 1) scripts
cuts_fault clients number (Operator commands ∷ scripts) =
    option_or (cut_fault clients number 1 commands) (cuts_fault clients (number + 1) scripts)

-- ---- all of it

abbrev pub no_fault : Option GatherFault → Result (Unit {0}) GatherFault
no_fault None = Ok tt
no_fault (Some fault) = Err fault

-- the scripts may run together: the first fault in this order is the one that is told
abbrev pub tested : List Script → Result (Unit {0}) GatherFault
tested scripts = do
  no_fault (limit_fault limit.Clients scripts)
  no_fault (limit_fault limit.Operators scripts)
  no_fault (limit_fault limit.Calls scripts)
  no_fault (limit_fault limit.Scans scripts)
  no_fault (limit_fault limit.Commands scripts)
  no_fault (cuts_fault (clients_in scripts) 1 scripts)

-- the scripts by the numbers of their clients and operators
abbrev pub numbered : List Script → Scripts
numbered scripts = record { clients = clients_in scripts; operators = operators_in scripts }

unfoldable pub gathering_of : List Script → Result Scripts GatherFault
gathering_of scripts = tested scripts >> Ok (numbered scripts)
