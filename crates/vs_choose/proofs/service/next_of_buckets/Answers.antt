use Rattle.std.proofs.Common.{Some, None, subst, unwrap_or}
use Rattle.vs_space.specs.Next.{IsNext}
use Rattle.vs_space.specs.Status.{is_open}
use Rattle.vs_state.specs.declared.state.State as tables
use Rattle.vs_state.specs.Plain.{plain}
use Rattle.vs_core.specs.Core.{means}
use Rattle.vs_choose.proofs.Services.{all_tried, one_tried}
use Rattle.vs_choose.proofs.service.next_of_buckets.Goals as goal

pub loop-bucket-preserved : goal.loop-bucket-preserved
loop-bucket-preserved c =
    let after = unwrap_or c.loop-bucket.after 0 in
    let is = subst (λ (t : tables.State). IsNext (λ b. is_open (((plain t).bucket b).entry c.args.set)) after (Some c.in-Some.bucket)) c.state-state.ensures.value c.in-Some.ensures in
    one_tried (means c.args.core.now) c.args.set after c.loop-bucket.invariant c.in-Some.bucket is c.in_default-event_for.ensures.none

pub returns-clause-none : goal.returns-clause-none
returns-clause-none c =
    let after = unwrap_or c.loop-bucket.after 0 in
    let none = subst (λ (t : tables.State). IsNext (λ b. is_open (((plain t).bucket b).entry c.args.set)) after None) c.state-state.ensures.value c.in_default.ensures in
    all_tried (means c.args.core.now) c.args.set after c.loop-bucket.invariant none
