-- What clap is told of the words of each command.
use Rattle.std.specs.Prelude.{Bool, true, Some, codes, fold, if◌then◌else◌}
use Rattle.clap.specs.Words.{App, Rule, Shape, new_app, new_rule, with_rule, with_subcommand}
use Rattle.clap.specs.Simple.{on_top}
use Rattle.clap.specs.declared.builder.action.ArgAction.TheVariants.{Append}
use Rattle.vs_command.specs.Verb.{name_of, all_verbs, takes_second, takes_files}
use Rattle.vs_command.specs.Word.{Text}
use Rattle.vs_command.specs.declared.verb.Verb.{Verb}

-- a word that must be there, and the files
abbrev pub needed_rule : Text → Rule
needed_rule id = record (new_rule id) { required = true }

abbrev pub files_rule : Rule
files_rule = record (new_rule (codes "files")) { action = Some Append }

abbrev pub with_rule_if : Bool → Rule → App → App
with_rule_if holds rule app = if holds then with_rule app rule else app

-- the words of a verb
abbrev pub verb_app : Verb → App
verb_app verb =
    with_rule_if (takes_files verb) files_rule
    (with_rule_if (takes_second verb) (needed_rule (codes "second"))
    (with_rule (new_app (name_of verb)) (needed_rule (codes "first"))))

abbrev pub with_settings : Shape → Shape
with_settings s = record s {
  no_binary_name = true;
  disable_help_flag = true;
  disable_help_subcommand = true;
  subcommand_required = true;
}

abbrev pub with_verb : App → Verb → App
with_verb app verb = with_subcommand app (verb_app verb).top

abbrev pub no_verbs : App
no_verbs = on_top with_settings (new_app (codes "vshard"))

-- the words of all verbs
abbrev pub words_app : App
words_app = fold with_verb no_verbs all_verbs
