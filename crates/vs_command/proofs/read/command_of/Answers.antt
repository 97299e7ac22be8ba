use Rattle.std.proofs.Common.{rules, ◌≡◌, Some, None, true, false, sym, ap, ◌∙◌, map, option_map}
use Rattle.std.specs.Prelude.{string_bytes}
use Rattle.std.proofs.lemmas.List.Folds.{list_all-map}
use Rattle.vs_command.specs.Line.{line}
use Rattle.vs_command.specs.Word.{is_plain}
use Rattle.vs_command.proofs.Asked.{asked_line, no_line, not_plain, two_words}
use Rattle.vs_command.proofs.read.command_of.Goals as goal

pub returns-then-not-are_plain-clause-read : goal.returns-then-not-are_plain-clause-read
returns-then-not-are_plain-clause-read c =
    let no : c.are_plain.result ≡ false = search rules in
    sym (not_plain c.args.verbs (map string_bytes c.args.words.now) (list_all-map is_plain string_bytes c.args.words.now ∙ (sym c.are_plain.ensures ∙ no)))

pub read_line-requires : goal.read_line-requires
read_line-requires c =
    let yes : c.are_plain.result ≡ true = search rules in
    list_all-map is_plain string_bytes c.args.words.now ∙ (sym c.are_plain.ensures ∙ yes)

pub built_command-requires : goal.built_command-requires
built_command-requires c =
    let some : c.in-Ok-Some.field-0 ≡ Some c.in-Ok-Some.line = cc in
    two_words (map string_bytes c.args.words.now) c.in-Ok-Some.line (ap (option_map line) (sym some) ∙ c.in-Ok-Some.ensures)

pub returns-in-Ok-Some-clause-read : goal.returns-in-Ok-Some-clause-read
returns-in-Ok-Some-clause-read c =
    let yes : c.are_plain.result ≡ true = search rules in
    let some : c.in-Ok-Some.field-0 ≡ Some c.in-Ok-Some.line = cc in
    asked_line c.args.verbs (map string_bytes c.args.words.now) c.in-Ok-Some.line _
    (list_all-map is_plain string_bytes c.args.words.now ∙ (sym c.are_plain.ensures ∙ yes)) (ap (option_map line) (sym some) ∙ c.in-Ok-Some.ensures) c.built_command.ensures.read

pub returns-in-Ok-None-clause-read : goal.returns-in-Ok-None-clause-read
returns-in-Ok-None-clause-read c =
    let none : c.in-Ok-None.field-0 ≡ None = cc in
    sym (no_line c.args.verbs (map string_bytes c.args.words.now) (sym (ap (option_map line) (sym none) ∙ c.in-Ok-None.ensures)))
