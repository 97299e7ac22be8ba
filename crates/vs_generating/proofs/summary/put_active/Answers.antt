use Rattle.std.proofs.Common.{ℕ, ap, ◌∙◌, sym}
use Rattle.vs_machine.specs.Report.{kind_count, number}
use Rattle.vs_space.specs.declared.status.StatusKind.TheVariants.{Active}
use Rattle.vs_state.specs.Plain.{plain}
use Rattle.vs_report.proofs.Numbers.{texts_more}
use Rattle.vs_generating.proofs.summary.put_active.Goals as goal

pub loop-i-preserved : goal.loop-i-preserved
loop-i-preserved c =
    let s = plain c.args.state.now in
    texts_more (λ (x : ℕ). number (kind_count s x Active)) c.loop-i.i _ _ _ _ c.loop-i.invariant c.in_ok-put_count.ensures
    (ap (λ (x : ℕ). number (kind_count s x Active)) (sym c.in-Some.ensures.1) ∙ ap number (sym c.count.ensures.number ∙ sym c.from.ensures))
