use Rattle.std.proofs.Common.{◌≡◌, drop}
use Rattle.vs_text.specs.Number.{read_digits}
use Rattle.vs_text.proofs.numbers.value_of.Given as goal

abbrev pub invariant-loop-digit : goal.invariant-loop-digit
invariant-loop-digit l = read_digits l.number (drop l.digit-index l.digits) ≡ read_digits 0 l.digits
