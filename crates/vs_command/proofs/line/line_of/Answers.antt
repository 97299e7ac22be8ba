use Rattle.std.proofs.Common.{◌≡◌, Some, None, sym, ap, ◌∙◌, map, option_map, codes}
use Rattle.std.specs.Prelude.{is_some, string_bytes}
use Rattle.clap.specs.Words.{found_of}
use Rattle.vs_command.specs.Verb.{takes_second}
use Rattle.vs_command.proofs.Given.{files_told, fits_words, rows_told, same_line, taken, two_told, value_told, verb_told}
use Rattle.vs_command.proofs.line.line_of.Goals as goal

pub unreachable-requires : goal.unreachable-requires
unreachable-requires c =
    let l = taken (map string_bytes c.args.words.now) c.requires.plain c.requires.taken in
    let bad : None ≡ Some l.rows = c.in_default.ensures.rows ∙ rows_told c.args.matches.now _ l c.requires.rows in
    cc

pub unreachable-requires-in_default-named : goal.unreachable-requires-in_default-named
unreachable-requires-in_default-named c =
    let l = taken (map string_bytes c.args.words.now) c.requires.plain c.requires.taken in
    let is : c.named.result ≡ Some l.verb = c.named.ensures ∙ verb_told c.args.matches.now _ l c.in-Some.name.now c.requires.rows c.in-Some.ensures.name in
    c.in_default-named.not-Some l.verb is

pub unreachable-requires-in_default-get_str : goal.unreachable-requires-in_default-get_str
unreachable-requires-in_default-get_str c =
    let l = taken (map string_bytes c.args.words.now) c.requires.plain c.requires.taken in
    let rows = c.in-Some.ensures.rows ∙ rows_told c.args.matches.now _ l c.requires.rows in
    let value = value_told (found_of c.in-Some.found.now) l.rows (codes "first") c.get_str.result rows c.get_str.ensures in
    let bad : None ≡ Some l.first = ap (option_map (λ s. s.now)) (sym c.in_default-get_str.is) ∙ (value ∙ l.first_is) in
    cc

pub files_after-files-requires : goal.files_after-files-requires
files_after-files-requires c =
    let l = taken (map string_bytes c.args.words.now) c.requires.plain c.requires.taken in
    let rows = c.in-Some.ensures.rows ∙ rows_told c.args.matches.now _ l c.requires.rows in
    let value = value_told (found_of c.in-Some.found.now) l.rows (codes "second") c.get_str-second.result rows c.get_str-second.ensures in
    let two : is_some c.get_str-second.result ≡ takes_second l.verb = two_told c.get_str-second.result (takes_second l.verb) l.second (value ∙ l.second_is) in
    fits_words c.args.words.now l c.is_some.result (c.is_some.ensures ∙ two)

pub returns : goal.returns
returns c =
    let words = map string_bytes c.args.words.now in
    let l = taken words c.requires.plain c.requires.taken in
    let rows = c.in-Some.ensures.rows ∙ rows_told c.args.matches.now _ l c.requires.rows in
    let named : c.named.result ≡ Some l.verb = c.named.ensures ∙ verb_told c.args.matches.now _ l c.in-Some.name.now c.requires.rows c.in-Some.ensures.name in
    let both : Some c.in-Some-named.verb ≡ Some l.verb = sym c.in-Some-named.is ∙ named in
    let verb_is : c.in-Some-named.verb ≡ l.verb = cc (both) in
    let first = value_told (found_of c.in-Some.found.now) l.rows (codes "first") c.get_str.result rows c.get_str.ensures in
    let got : Some c.in-Some-get_str.first.now ≡ Some l.first = ap (option_map (λ s. s.now)) (sym c.in-Some-get_str.is) ∙ (first ∙ l.first_is) in
    let first_is : c.in-Some-get_str.first.now ≡ l.first = cc (got) in
    let second = value_told (found_of c.in-Some.found.now) l.rows (codes "second") c.get_str-second.result rows c.get_str-second.ensures ∙ l.second_is in
    let two : is_some c.get_str-second.result ≡ takes_second l.verb = two_told c.get_str-second.result (takes_second l.verb) l.second second in
    same_line words l c.in-Some-named.verb c.in-Some-get_str.first.now (option_map (λ s. s.now) c.get_str-second.result) (map string_bytes c.files_after-files.result.now)
    verb_is first_is second
    (ap (map string_bytes) c.files_after-files.ensures ∙ files_told c.args.words.now l c.is_some.result (c.is_some.ensures ∙ two))
