use Rattle.std.proofs.Common.{◌≤◌, Some, None, sym, arith, rules}
use Rattle.vs_text.specs.Number.{IsPlain}
use Rattle.vs_text.proofs.Numerals.{read_is_decimal, not_plain, not_read, not_in_range, between_again}
use Rattle.vs_text.proofs.numbers.number_between.Goals as goal

pub returns-then-not-is_plain : goal.returns-then-not-is_plain
returns-then-not-is_plain c =
    let none = not_plain c.args.least c.args.most c.args.word.now (omega arith) (search rules) in
    record { value = none; again = between_again c.args.least c.args.most c.args.word.now None (omega arith) none }

pub returns-then-number-most : goal.returns-then-number-most
returns-then-number-most c =
    let plain : IsPlain c.args.word.now = search rules in
    let is = read_is_decimal c.args.word.now c.in-Some.number plain (sym c.in-Some.ensures) in
    let range : (c.args.least ≤ c.in-Some.number) × (c.in-Some.number ≤ c.args.most) = (c.if-least-number.true, c.if-number-most.true) in
    record {
      value = (range, is.0);
      again = between_again c.args.least c.args.most c.args.word.now (Some c.in-Some.number) (omega arith) (range, is.0);
    }

pub returns-else-least-number : goal.returns-else-least-number
returns-else-least-number c =
    let plain : IsPlain c.args.word.now = search rules in
    let is = read_is_decimal c.args.word.now c.in-Some.number plain (sym c.in-Some.ensures) in
    let none = not_in_range c.args.least c.args.most c.args.word.now c.in-Some.number (omega arith) is.1 is.0 (λ range. omega (arith, c.else-least-number.either)) in
    record { value = none; again = between_again c.args.least c.args.most c.args.word.now None (omega arith) none }

pub returns-in-None : goal.returns-in-None
returns-in-None c =
    let none = not_read c.args.least c.args.most c.args.word.now (omega arith) (sym c.in-None.ensures) in
    record { value = none; again = between_again c.args.least c.args.most c.args.word.now None (omega arith) none }
