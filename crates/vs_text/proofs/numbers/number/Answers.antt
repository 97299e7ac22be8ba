use Rattle.std.proofs.Common.{◌<◌, length, Some, None, sym, arith, lit<, rules}
use Rattle.vs_text.specs.Number.{IsShortNumeral}
use Rattle.vs_text.proofs.Numerals.{read_is_value, short_value, short_is_read, short_again}
use Rattle.vs_text.proofs.numbers.number.Goals as goal

pub overflow_cast-result : goal.overflow_cast-result
overflow_cast-result c =
    let is = read_is_value 0 c.args.word.now c.in-Some.number (lit< tt) (sym c.in-Some.ensures) in
    let some : 0 < length c.args.word.now = search rules in
    let short : IsShortNumeral c.args.word.now = ((some, is.0), c.if-word-gt9.false) in
    omega (arith, short_value c.args.word.now short, is.1)

pub returns-then-is_empty : goal.returns-then-is_empty
returns-then-is_empty c =
    let none : ¬ IsShortNumeral c.args.word.now = search rules in
    record { value = none; again = short_again c.args.word.now None none }

pub returns-in-Some : goal.returns-in-Some
returns-in-Some c =
    let is = read_is_value 0 c.args.word.now c.in-Some.number (lit< tt) (sym c.in-Some.ensures) in
    let some : 0 < length c.args.word.now = search rules in
    let short : IsShortNumeral c.args.word.now = ((some, is.0), c.if-word-gt9.false) in
    record { value = (short, sym is.1); again = short_again c.args.word.now (Some c.in-Some.number) (short, sym is.1) }

pub returns-in-None : goal.returns-in-None
returns-in-None c =
    let none : ¬ IsShortNumeral c.args.word.now = λ short. (let read = short_is_read c.args.word.now short in cc) in
    record { value = none; again = short_again c.args.word.now None none }
