use Rattle.std.proofs.Common.{arith, refl}
use Rattle.vs_state.specs.Plain.{plain}
use Rattle.vs_survey.specs.Readers.{HasNoTransfer}
use Rattle.vs_survey.proofs.Resting.{one_further, transfers_everywhere}
use Rattle.vs_survey.proofs.settling.have_no_transfer.Goals as goal

pub returns-then-not-has_no_transfer : goal.returns-then-not-has_no_transfer
returns-then-not-has_no_transfer c = (
  λ e. absurd (cc e),
  λ all. absurd (cc (c.has_no_transfer.ensures.1 (λ b. all b c.in-Some.set), c.if-not-has_no_transfer.true)),
)

pub loop-index-preserved : goal.loop-index-preserved
loop-index-preserved c =
    one_further (HasNoTransfer (plain c.args.state.now)) c.loop-index.index c.in-Some.set (omega (arith, c.in-Some.ensures)) (c.has_no_transfer.ensures.0 c.if-not-has_no_transfer.false) c.loop-index.invariant

pub returns : goal.returns
returns c = (
  λ e. transfers_everywhere c.args.state.now c.requires.sized.sets (λ x from to. c.loop-index.invariant x from (omega (arith, to, c.set_count-index-end.ensures.count, c.loop-index-test.false))),
  λ all. refl,
)
