-- The places of inputs among the words after the command, from 1.
use Rattle.std.specs.Prelude.{ℕ}

abbrev pub config_place : ℕ
config_place = 1

abbrev pub events_place : ℕ
events_place = 2

-- of the first script, behind the events or, where there are none, behind the configuration
abbrev pub first_script_place : ℕ
first_script_place = 3

abbrev pub first_run_script_place : ℕ
first_run_script_place = 2
