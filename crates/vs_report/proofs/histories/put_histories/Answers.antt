use Rattle.std.proofs.Common.{◌≡◌, ℕ, ◌+◌, sym, ap, ◌∙◌, arith}
use Rattle.vs_machine.specs.Report.{history_lines}
use Rattle.vs_state.specs.Plain.{plain}
use Rattle.vs_report.proofs.Numbers.{texts_more}
use Rattle.vs_report.proofs.histories.put_histories.Goals as goal

pub loop-index-preserved : goal.loop-index-preserved
loop-index-preserved c =
    let s = plain c.args.state.now in
    let n = c.loop-index.index + 1 in
    let at : c.in-Some.bucket ≡ n = omega (arith, c.in-Some.ensures) in
    let same = c.history.ensures ∙ ap (λ (b : ℕ). (s.bucket b).history) at in
    texts_more _ c.loop-index.index _ _ _ _ c.loop-index.invariant c.in_ok-put_history.ensures (λ i. history_lines (sym c.from.ensures i + 1) (sym same i))
