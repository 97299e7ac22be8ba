use Rattle.std.proofs.Common.{◌≡◌, ◌+◌, ◌∙◌, ap, sym, false, arith}
use Rattle.vs_machine.specs.State.{sets_of}
use Rattle.vs_state.specs.Plain.{plain}
use Rattle.vs_state.proofs.Least.{least_at, least_none, one_further}
use Rattle.vs_core.specs.Opening.{has_it}
use Rattle.vs_core.proofs.coherence.first_having.Goals as goal

pub returns-then-has_it : goal.returns-then-has_it
returns-then-has_it c =
    let s = plain c.args.state.now in
    let x = c.in_ok-set.set in
    let at : x ≡ c.loop-index.index + 1 = c.in_ok-set.ensures.1 in
    sym (least_at (λ x. has_it ((s.bucket c.args.bucket).entry x)) (sets_of s) x (omega arith) (omega arith)
    (ap has_it (sym c.entry.ensures) ∙ sym c.has_it.ensures ∙ c.if-has_it.true) (λ k f l. c.loop-index.invariant k f (omega arith)))

pub loop-index-preserved : goal.loop-index-preserved
loop-index-preserved c =
    let s = plain c.args.state.now in
    one_further (λ x. has_it ((s.bucket c.args.bucket).entry x)) false c.loop-index.index c.in_ok-set.set c.in_ok-set.ensures.1
    (ap has_it (sym c.entry.ensures) ∙ sym c.has_it.ensures ∙ c.if-has_it.false) c.loop-index.invariant

pub returns : goal.returns
returns c =
    let s = plain c.args.state.now in
    sym (least_none (λ x. has_it ((s.bucket c.args.bucket).entry x)) (sets_of s) (λ k f l. c.loop-index.invariant k f (omega arith)))
