use Rattle.std.proofs.Common.{ℕ, ◌++◌, refl}
use Rattle.std.specs.Prelude.{codes}
use Rattle.vs_machine.specs.Report.{bucket_line}
use Rattle.vs_state.specs.Plain.{plain}
use Rattle.vs_report.proofs.Numbers.{texts_more}
use Rattle.vs_report.proofs.buckets.put_buckets.Goals as goal

pub loop-i-preserved : goal.loop-i-preserved
loop-i-preserved c =
    texts_more (λ (b : ℕ). bucket_line (plain c.args.state.now) b ++ codes "\n") c.loop-i.i _ _ _ _ c.loop-i.invariant c.in_ok-put_bucket.ensures refl
