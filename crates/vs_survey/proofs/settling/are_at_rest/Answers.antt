use Rattle.std.proofs.Common.{arith, refl}
use Rattle.vs_state.specs.Plain.{plain}
use Rattle.vs_survey.specs.Readers.{IsAtRest}
use Rattle.vs_survey.proofs.Resting.{one_further}
use Rattle.vs_survey.proofs.settling.are_at_rest.Goals as goal

pub returns-then-not-is_at_rest : goal.returns-then-not-is_at_rest
returns-then-not-is_at_rest c = (
  λ e. absurd (cc e),
  λ all. absurd (cc (c.is_at_rest.ensures.1 (all c.in-Some.set (omega (arith, c.in-Some.ensures)) (omega (arith, c.in-Some.ensures, c.set_count-index-end.ensures.count, c.loop-index-test.true))), c.if-not-is_at_rest.true)),
)

pub loop-index-preserved : goal.loop-index-preserved
loop-index-preserved c =
    one_further (IsAtRest (plain c.args.state.now)) c.loop-index.index c.in-Some.set (omega (arith, c.in-Some.ensures)) (c.is_at_rest.ensures.0 c.if-not-is_at_rest.false) c.loop-index.invariant

pub returns : goal.returns
returns c = (
  λ e x from to. c.loop-index.invariant x from (omega (arith, to, c.set_count-index-end.ensures.count, c.loop-index-test.false)),
  λ all. refl,
)
