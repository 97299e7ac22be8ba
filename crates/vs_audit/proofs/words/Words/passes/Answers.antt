use Rattle.std.proofs.Common.{◌≡◌, ◌<◌, ◌^◌, ◌∷◌, Some, arith, ap, sym, ◌∙◌}
use Rattle.vs_audit.specs.Words.{Words}
use Rattle.vs_audit.proofs.Numbers.{number_past}
use Rattle.vs_audit.proofs.words.Words.passes.Goals as goal

pub returns-in-Some-number_between-clause-past : goal.returns-in-Some-number_between-clause-past
returns-in-Some-number_between-clause-past c =
    let fits : c.args.number < 2 ^ 64 = omega (arith, c.ranges.number) in
    let first : c.args.self.now ≡ c.in-Some.word.now ∷ c.next.new.self = sym c.self.view_is ∙ c.in-Some.ensures in
    number_past c.args.number c.args.self.now c.next.new.self c.in-Some.word.now c.in-Some-number_between.field-0 fits first c.in-Some-number_between.ensures.value
    ∙ ap (λ (w : Words). Some w) (sym c.rest.view_is)
