use Rattle.std.proofs.Common.{◌≡◌, ◌+◌, ◌∙◌, List, [], sym, subst, arith}
use Rattle.vs_history.specs.declared.history.History.{History}
use Rattle.vs_state.specs.Plain.{plain}
use Rattle.vs_core.specs.Opening.{AreBegun}
use Rattle.vs_core.proofs.Opened.{one_more_begun}
use Rattle.vs_core.proofs.opening.new_histories.Goals as goal

pub loop-before-preserved : goal.loop-before-preserved
loop-before-preserved c =
    let s = plain c.args.state.now in
    let n = c.loop-before.before in
    let h = c.new-in-loop-before.result in
    let at : c.in-Some.bucket ≡ n + 1 = omega (arith, c.in-Some.ensures) in
    subst (λ (hs : List History). AreBegun s hs (n + 1)) (sym c.in_ok-push.ensures.items)
    (one_more_begun s c.loop-before.histories.items h n c.in-Some.bucket at (c.new-in-loop-before.ensures ∙ (λ i. record { base = c.in_ok-base_of.ensures i; writes = []; reads = [] })) c.loop-before.invariant)
