use Rattle.std.proofs.Common.{◌≡◌, ◌+◌, ◌∙◌, ap, sym, false, arith}
use Rattle.vs_machine.specs.State.{sets_of}
use Rattle.vs_state.specs.Plain.{plain}
use Rattle.vs_state.proofs.Least.{least_at, least_none, one_further}
use Rattle.vs_machine.specs.Kinds.Connections.{is_receiving}
use Rattle.vs_core.proofs.coherence.first_receiving.Goals as goal

pub returns-then-is_receiving : goal.returns-then-is_receiving
returns-then-is_receiving c =
    let s = plain c.args.state.now in
    let x = c.in_ok-set.set in
    let at : x ≡ c.loop-index.index + 1 = c.in_ok-set.ensures.1 in
    sym (least_at (λ x. is_receiving ((s.bucket c.args.bucket).entry x)) (sets_of s) x (omega arith) (omega arith)
    (ap is_receiving (sym c.entry.ensures) ∙ sym c.is_receiving.ensures ∙ c.if-is_receiving.true) (λ k f l. c.loop-index.invariant k f (omega arith)))

pub loop-index-preserved : goal.loop-index-preserved
loop-index-preserved c =
    let s = plain c.args.state.now in
    one_further (λ x. is_receiving ((s.bucket c.args.bucket).entry x)) false c.loop-index.index c.in_ok-set.set c.in_ok-set.ensures.1
    (ap is_receiving (sym c.entry.ensures) ∙ sym c.is_receiving.ensures ∙ c.if-is_receiving.false) c.loop-index.invariant

pub returns : goal.returns
returns c =
    let s = plain c.args.state.now in
    sym (least_none (λ x. is_receiving ((s.bucket c.args.bucket).entry x)) (sets_of s) (λ k f l. c.loop-index.invariant k f (omega arith)))
