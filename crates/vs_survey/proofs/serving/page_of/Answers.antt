use Rattle.std.proofs.Common.{◌≡◌, subst, arith}
use Rattle.std.specs.Prelude.{take}
use Rattle.vs_state.specs.Plain.{plain}
use Rattle.vs_survey.specs.Readers.{is_listed}
use Rattle.vs_survey.proofs.Paging.{passing, ends, is_full}
use Rattle.vs_survey.proofs.serving.page_of.Goals as goal

pub returns-then-len-eq-PAGE : goal.returns-then-len-eq-PAGE
returns-then-len-eq-PAGE c =
    let listed = is_listed (plain c.args.state.now) c.args.set c.args.after.now in
    is_full listed c.loop-before.before c.args.state.now.config.bucket_count c.loop-before.ids.items c.loop-before.invariant (omega arith)
    (omega (arith, c.len.ensures, c.if-len-eq-PAGE.true))

pub returns : goal.returns
returns c =
    let listed = is_listed (plain c.args.state.now) c.args.set c.args.after.now in
    let same : c.loop-before.before ≡ c.args.state.now.config.bucket_count = omega (arith, c.loop-before-test.false) in
    subst (λ n. c.loop-before.ids.items ≡ take 1000 (passing listed n)) same (ends listed c.loop-before.before c.loop-before.ids.items c.loop-before.invariant)
