use Rattle.std.proofs.Common.{arith, refl}
use Rattle.vs_state.specs.Plain.{plain}
use Rattle.vs_survey.specs.Readers.{IsSilentFrom}
use Rattle.vs_survey.proofs.Resting.{one_further, silent_everywhere, silent_from}
use Rattle.vs_survey.proofs.settling.are_silent.Goals as goal

pub returns-then-not-is_silent_from : goal.returns-then-not-is_silent_from
returns-then-not-is_silent_from c = (
  λ e. absurd (cc e),
  λ all. absurd (cc (c.is_silent_from.ensures.1 (silent_from c.args.state.now all c.in-Some.from), c.if-not-is_silent_from.true)),
)

pub loop-index-preserved : goal.loop-index-preserved
loop-index-preserved c =
    one_further (IsSilentFrom (plain c.args.state.now)) c.loop-index.index c.in-Some.from (omega (arith, c.in-Some.ensures)) (c.is_silent_from.ensures.0 c.if-not-is_silent_from.false) c.loop-index.invariant

pub returns : goal.returns
returns c = (
  λ e. silent_everywhere c.args.state.now c.requires.sized.links (λ x from to. c.loop-index.invariant x from (omega (arith, to, c.set_count-index-end.ensures.count, c.loop-index-test.false))),
  λ all. refl,
)
