use Rattle.std.proofs.Common.{◌≡◌, ℕ, ◌<◌, ◌^◌, Ok, arith, subst}
use Rattle.vs_audit.specs.Outcomes.{maybe_set_at}
use Rattle.vs_audit.proofs.Numbers.{set_read}
use Rattle.vs_audit.proofs.tail.maybe_set.Goals as goal

pub returns-in-Some-number_between : goal.returns-in-Some-number_between
returns-in-Some-number_between c =
    let fits : c.from.result < 2 ^ 64 = omega (arith, c.from.type_inv) in
    let read = set_read c.from.result c.args.words.now c.next.new.self c.in-Some.word.now c.in-Some-number_between.field-0 fits c.in-Some.ensures c.in-Some-number_between.ensures.value in
    subst (λ (s : ℕ). maybe_set_at s c.args.words.now ≡ Ok c.next.new.self) c.from.ensures read
