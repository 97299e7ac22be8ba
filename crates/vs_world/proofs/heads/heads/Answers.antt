use Rattle.std.proofs.Common.{◌≡◌, ◌+◌, ◌≤◌, length, sum, sym, ap, subst, ◌∙◌, arith}
use Rattle.std.specs.Prelude.{All}
use Rattle.std.proofs.lemmas.Result.{IfOk-weaker}
use Rattle.vs_frame.specs.Head.{IsHead}
use Rattle.vs_frame.specs.declared.head.Head.{Head}
use Rattle.vs_world.proofs.Headed.{as_many, all_lawful, all_counted}
use Rattle.vs_world.proofs.heads.heads.Goals as goal

pub returns-clause-count : goal.returns-clause-count
returns-clause-count c =
    let config = c.args.config.now in
    let shares = c.deref.result.now in
    let each : length shares ≡ length config.sets.items = ap length c.deref.ensures.value ∙ c.in_ok-shares.ensures.sets in
    IfOk-weaker c.heads_of.result _ _ (λ heads are. ap length are ∙ as_many config.bucket_count 1 config.sets.items shares each) c.heads_of.ensures

pub returns-clause-lawful : goal.returns-clause-lawful
returns-clause-lawful c =
    let config = c.args.config.now in
    let shares = c.deref.result.now in
    let few : 1 + sum shares ≤ config.bucket_count + 1 = omega (arith, ap sum c.deref.ensures.value, c.in_ok-shares.ensures.buckets) in
    IfOk-weaker c.heads_of.result _ _ (λ heads are. subst (All IsHead) (sym are) (all_lawful config.bucket_count c.requires.buckets.0 c.requires.buckets.1 1 config.sets.items shares (omega arith) few)) c.heads_of.ensures

pub returns-clause-buckets : goal.returns-clause-buckets
returns-clause-buckets c =
    let config = c.args.config.now in
    IfOk-weaker c.heads_of.result _ _ (λ heads are. subst (All (λ (head : Head). head.bucket_count ≡ config.bucket_count)) (sym are) (all_counted config.bucket_count 1 config.sets.items c.deref.result.now)) c.heads_of.ensures
