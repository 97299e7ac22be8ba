-- The words of a verb, once clap has built them: a word or two that must be there, and files or none.
use Rattle.std.proofs.Common.{ℕ, Bool, true, false, List, [], ◌∷◌, ◌++◌, Option, Some, None, codes}
use Rattle.clap.specs.Kinds.{Kinds, or_else}
use Rattle.clap.specs.Faults.{check_fault, defaults_fault, level_fault, settle_fault}
use Rattle.clap.specs.Simple.{Shape, filled, new_shape, with_index}
use Rattle.clap.specs.Walk.{Held, Row, Rule, Text, finished, nothing_held, reading_by, settled}
use Rattle.clap.specs.declared.parser.matches.ValueSource.TheVariants.{CommandLine}
use Rattle.vs_command.specs.Parser.{files_rule, needed_rule}

abbrev pub first_rule : Rule
first_rule = with_index 1 (filled (needed_rule (codes "first")))

abbrev pub second_rule : Rule
second_rule = with_index 2 (filled (needed_rule (codes "second")))

abbrev pub files_at : ℕ → Rule
files_at i = with_index i (filled files_rule)

-- whether two words must be there, and whether files may follow
abbrev pub rules : Bool → Bool → List Rule
rules false false = first_rule ∷ []
rules true false = first_rule ∷ second_rule ∷ []
rules false true = first_rule ∷ files_at 2 ∷ []
rules true true = first_rule ∷ second_rule ∷ files_at 3 ∷ []

abbrev pub shape : Text → Bool → Bool → Shape
shape name two files = record (new_shape name) {
  rules = rules two files;
  no_binary_name = true;
  disable_help_flag = true;
  disable_help_subcommand = true;
  is_built = true;
}

-- what clap holds against the words after the verb
abbrev pub level : Shape → List Text → Kinds
level s words = level_fault s [] nothing_held words false []

-- the same, by what the walk found and where it ended
abbrev pub level_at : Shape → Kinds → Held → Kinds
level_at s found end =
    or_else found (or_else [] (or_else (settle_fault s.rules s.args_override_self end)
    (or_else (defaults_fault (settled s.rules end).rows s.rules)
    (check_fault s (finished s.rules end) false))))

-- ---- what is held

abbrev pub row : Text → List Text → Row
row id values = record {
  id = id;
  values = values;
  count = None;
  source = Some CommandLine;
  reading = reading_by first_rule;
}

abbrev pub held_first : Text → Held
held_first a = record { rows = []; pending = Some (codes "first", a ∷ []); skip = 0 }

-- after the words that must be there
abbrev pub held_needed : Bool → Text → Text → Held
held_needed false a b = held_first a
held_needed true a b =
    record { rows = row (codes "first") (a ∷ []) ∷ []; pending = Some (codes "second", b ∷ []); skip = 0 }

abbrev pub place_after : Bool → ℕ
place_after false = 2
place_after true = 3

-- after files, the last of which is pending
abbrev pub rows_files : Bool → Text → Text → List Text → List Row
rows_files false a b [] = row (codes "first") (a ∷ []) ∷ []
rows_files true a b [] = row (codes "first") (a ∷ []) ∷ row (codes "second") (b ∷ []) ∷ []
rows_files false a b (f ∷ fs) = row (codes "first") (a ∷ []) ∷ row (codes "files") (f ∷ fs) ∷ []
rows_files true a b (f ∷ fs) =
    row (codes "first") (a ∷ []) ∷ row (codes "second") (b ∷ []) ∷ row (codes "files") (f ∷ fs) ∷ []

abbrev pub held_file : Bool → Text → Text → List Text → Text → Held
held_file two a b fs f =
    record { rows = rows_files two a b fs; pending = Some (codes "files", f ∷ []); skip = 0 }

abbrev pub held_end : Bool → Text → Text → List Text → Text → List Text → Held
held_end two a b fs f [] = held_file two a b fs f
held_end two a b fs f (g ∷ gs) = held_end two a b (fs ++ f ∷ []) g gs

abbrev pub held_files : Bool → Text → Text → List Text → Held
held_files two a b [] = held_needed two a b
held_files two a b (f ∷ fs) = held_end two a b [] f fs

-- the words that must be there, and those after them
abbrev pub needed : Bool → Text → Text → List Text → List Text
needed false a b words = a ∷ words
needed true a b words = a ∷ b ∷ words

-- the second of them, where there are two
abbrev pub second_if : Bool → Text → Option Text
second_if false b = None
second_if true b = Some b
