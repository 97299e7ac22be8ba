-- The words of a command as they are read, before the rules that clap doesn't know: a verb, one word
-- or two that must follow, and the files after them.
use Rattle.std.specs.Prelude.{ℕ, Bool, true, false, List, [], ◌∷◌, map, Option, Some, None, option_map, option_and_then, if◌then◌else◌, string_bytes}
use Rattle.vs_command.specs.Command.{Command, are_between, when}
use Rattle.vs_command.specs.Command as command
use Rattle.vs_command.specs.Verb.{verb_named, takes_second, takes_files}
use Rattle.vs_command.specs.Verbs.{has}
use Rattle.vs_command.specs.Word.{Text, number_in}
use Rattle.vs_command.specs.declared.command.TheConstants.{MOST_CLIENTS, MOST_FILES}
use Rattle.vs_command.specs.declared.line.Line as code
use Rattle.vs_command.specs.declared.verb.Verb.{Verb}
use Rattle.vs_command.specs.declared.verb.Verb.TheVariants as verb
use Rattle.vs_command.specs.declared.verbs.Verbs.{Verbs}

pub record Line : Type 0 where
  pub verb : Verb
  pub first : Text
  pub second : Option Text
  pub files : List Text

-- after the words that must be there stand files, or nothing
abbrev pub with_files : Bool → Verb → Text → Option Text → List Text → Option Line
with_files may verb first second [] =
    Some (record { verb = verb; first = first; second = second; files = [] })
with_files may verb first second (file ∷ files) =
    if may
    then Some (record { verb = verb; first = first; second = second; files = file ∷ files })
    else None

abbrev pub with_second : Bool → Verb → Text → List Text → Option Line
with_second may verb first [] = None
with_second may verb first (second ∷ files) = with_files may verb first (Some second) files

-- the line of these words after a verb, where two words must be there or one, and files may follow or
-- not
abbrev pub line_by : Bool → Bool → Verb → List Text → Option Line
line_by two may verb [] = None
line_by two may verb (first ∷ words) =
    if two then with_second may verb first words else with_files may verb first None words

-- how many words stand before the files
abbrev pub before_files : Bool → ℕ
before_files true = 3
before_files false = 2

abbrev pub line_after : Verb → List Text → Option Line
line_after verb words = line_by (takes_second verb) (takes_files verb) verb words

abbrev pub line_in : List Text → Option Line
line_in [] = None
line_in (word ∷ words) = option_and_then (λ verb. line_after verb words) (verb_named word)

-- the command of a line
abbrev pub command_by : Verb → Text → Option Text → List Text → Option Command
command_by verb.Run config None files = when (are_between 0 MOST_FILES files) (command.Run config files)
command_by verb.Play config (Some events) files =
    when (are_between 0 MOST_FILES files) (command.Play config events files)
command_by verb.Gen number None files = option_map command.Gen (number_in number)
command_by verb.Reads config (Some rows) files =
    when (are_between 1 MOST_CLIENTS files) (command.Reads config rows files)
command_by verb.Plan config (Some counts) files = Some (command.Plan config counts)
command_by verb.Audit report None files = Some (command.Audit report)
command_by verb.Info config None files = Some (command.Info config)
command_by _ _ _ _ = None

abbrev pub command_of_line : Line → Option Command
command_of_line line = command_by line.verb line.first line.second line.files

-- the same, where it is built
abbrev pub command_if_built : Verbs → Line → Option Command
command_if_built verbs line = if has verbs line.verb then command_of_line line else None

-- a line, as the code has it
abbrev pub line : code.Line → Line
line l = record {
  verb = l.verb;
  first = l.first.now;
  second = option_map (λ word. word.now) l.second;
  files = map string_bytes l.files.now;
}
