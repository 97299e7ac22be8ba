use Rattle.std.proofs.Common.{refl, sym, ◌∙◌, arith}
use Rattle.vs_record.specs.States.{durable}
use Rattle.vs_record.proofs.States.{same_everywhere, same_is_same}
use Rattle.std.proofs.lemmas.Bool.{false≢true}
use Rattle.vs_record.proofs.set_state.SetState.equals.Goals as goal

pub returns-then-not-is_same_at : goal.returns-then-not-is_same_at
returns-then-not-is_same_at c = (
  λ is. absurd (false≢true is),
  λ same. sym c.if-not-is_same_at.true ∙ c.is_same_at.ensures.same.1 (same_is_same (durable c.args.self.now) (durable c.args.other.now) c.in-Some.id same),
)

pub returns : goal.returns
returns c = (
  λ is. same_everywhere (durable c.args.self.now) (durable c.args.other.now) (λ b from upto. c.loop-number.invariant.so_far b from (omega (arith, upto))) (c.loop-number.invariant.outside (omega arith)),
  λ same. refl,
)
