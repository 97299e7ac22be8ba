-- What words ask for.
use Rattle.std.specs.Prelude.{ℕ, Bool, ◌&&◌, nat_le, List, [], ◌∷◌, map, length, Option, Some, None, option_map, option_and_then, if◌then◌else◌, string_bytes}
use Rattle.std.specs.List.{list_all}
use Rattle.vs_command.specs.Word.{Text, is_plain, number_in}
use Rattle.vs_command.specs.Verb.{verb_named}
use Rattle.vs_command.specs.Verbs.{has}
use Rattle.vs_command.specs.declared.command.Command as code
use Rattle.vs_command.specs.declared.command.Command.TheVariants as variants
use Rattle.vs_command.specs.declared.command.TheConstants.{MOST_CLIENTS, MOST_FILES}
use Rattle.vs_command.specs.declared.verb.Verb.{Verb}
use Rattle.vs_command.specs.declared.verb.Verb.TheVariants as verb
use Rattle.vs_command.specs.declared.verbs.Verbs.{Verbs}

pub data Command : Type 0 where
  -- the configuration, and the files
  Run : Text → List Text → Command
  -- the configuration, the events, and the files
  Play : Text → Text → List Text → Command
  Gen : ℕ → Command
  -- the configuration, the script of the rows, and the files
  Reads : Text → Text → List Text → Command
  -- the configuration, and the counts
  Plan : Text → Text → Command
  -- the report
  Audit : Text → Command
  -- the configuration
  Info : Text → Command

-- so many files at least, and so many at most
abbrev pub are_between : ℕ → ℕ → List Text → Bool
are_between least most files = nat_le least (length files) && nat_le (length files) most

abbrev pub when : Bool → Command → Option Command
when holds command = if holds then Some command else None

-- the command of a verb, and of the words after it
abbrev pub asked : Verb → List Text → Option Command
asked verb.Run (config ∷ files) = when (are_between 0 MOST_FILES files) (Run config files)
asked verb.Play (config ∷ events ∷ files) =
    when (are_between 0 MOST_FILES files) (Play config events files)
asked verb.Gen (number ∷ []) = option_map Gen (number_in number)
asked verb.Reads (config ∷ rows ∷ files) =
    when (are_between 1 MOST_CLIENTS files) (Reads config rows files)
asked verb.Plan (config ∷ counts ∷ []) = Some (Plan config counts)
asked verb.Audit (report ∷ []) = Some (Audit report)
asked verb.Info (config ∷ []) = Some (Info config)
asked _ _ = None

-- the same, where the command is built
abbrev pub asked_of : Verbs → List Text → Verb → Option Command
asked_of verbs words verb = if has verbs verb then asked verb words else None

-- the command that these words are, if they are one
abbrev pub command_in : Verbs → List Text → Option Command
command_in verbs [] = None
command_in verbs (word ∷ words) =
    if list_all is_plain (word ∷ words)
    then option_and_then (asked_of verbs words) (verb_named word)
    else None

-- the word that a command begins with
abbrev pub verb_of : Command → Verb
verb_of (Run config files) = verb.Run
verb_of (Play config events files) = verb.Play
verb_of (Gen number) = verb.Gen
verb_of (Reads config rows files) = verb.Reads
verb_of (Plan config counts) = verb.Plan
verb_of (Audit report) = verb.Audit
verb_of (Info config) = verb.Info

-- a command, as the code has it
abbrev pub command : code.Command → Command
command (variants.Run config files) = Run config.now (map string_bytes files.now)
command (variants.Play config events files) =
    Play config.now events.now (map string_bytes files.now)
command (variants.Gen number) = Gen number
command (variants.Reads config rows files) =
    Reads config.now rows.now (map string_bytes files.now)
command (variants.Plan config counts) = Plan config.now counts.now
command (variants.Audit report) = Audit report.now
command (variants.Info config) = Info config.now
