use Rattle.std.proofs.Common.{◌≡◌, ◌∙◌, sym, rules, None, Some, refl}
use Rattle.vs_script.specs.Words.{short_number}
use Rattle.vs_text.specs.Lines.{words_in}
use Rattle.vs_plan.specs.Reading.{count_of}
use Rattle.vs_plan.proofs.LineKinds.{none_told, two_words}
use Rattle.vs_plan.proofs.Numbers.{short_number_is}
use Rattle.vs_plan.proofs.line.count_of.Goals as goal

pub returns-in_err-number-clause-value : goal.returns-in_err-number-clause-value
returns-in_err-number-clause-value c =
    let count = short_number_is c.in_ok-count.count.now None c.in_err-number.ensures.value in
    let none : count_of (words_in c.args.line.now) ≡ None = two_words (words_in c.args.line.now) _ _ c.in_ok-count.count.now c.in_ok-pinned.pinned.now c.in_ok-count.ensures c.in_ok-pinned.ensures (none_told _ _ c.next_word-3.result c.next_word-3.ensures c.if-is_some.ensures) None (short_number c.in_ok-pinned.pinned.now) count refl in
    first_of (cc, search rules)

pub returns-in_err-number-2-clause-value : goal.returns-in_err-number-2-clause-value
returns-in_err-number-2-clause-value c =
    let count = short_number_is c.in_ok-count.count.now (Some c.in_ok-number.field-0) c.in_ok-number.ensures.value in
    let pinned = short_number_is c.in_ok-pinned.pinned.now None c.in_err-number-2.ensures.value in
    let none : count_of (words_in c.args.line.now) ≡ None = two_words (words_in c.args.line.now) _ _ c.in_ok-count.count.now c.in_ok-pinned.pinned.now c.in_ok-count.ensures c.in_ok-pinned.ensures (none_told _ _ c.next_word-3.result c.next_word-3.ensures c.if-is_some.ensures) (Some c.in_ok-number.field-0) None count pinned in
    first_of (cc, search rules)

pub returns-clause-value : goal.returns-clause-value
returns-clause-value c =
    let count = short_number_is c.in_ok-count.count.now (Some c.in_ok-number.field-0) c.in_ok-number.ensures.value in
    let pinned = short_number_is c.in_ok-pinned.pinned.now (Some c.in_ok-number-2.field-0) c.in_ok-number-2.ensures.value in
    c.set_count.ensures.value
    ∙ sym (two_words (words_in c.args.line.now) _ _ c.in_ok-count.count.now c.in_ok-pinned.pinned.now c.in_ok-count.ensures c.in_ok-pinned.ensures (none_told _ _ c.next_word-3.result c.next_word-3.ensures c.if-is_some.ensures) (Some c.in_ok-number.field-0) (Some c.in_ok-number-2.field-0) count pinned)
