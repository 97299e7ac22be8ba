use Rattle.std.proofs.Common.{Some, sym, ap, ◌∙◌}
use Rattle.vs_space.specs.declared.status.Status.{Status}
use Rattle.vs_space.specs.declared.status.Status.TheVariants.{Sent}
use Rattle.vs_machine.specs.Kinds.Stops.{with_status}
use Rattle.vs_machine.specs.State as machine
use Rattle.vs_machine.specs.Tables.{put}
use Rattle.vs_state.specs.Plain.{plain}
use Rattle.vs_core.proofs.Restarting.{not_sent}
use Rattle.vs_core.proofs.keeping.keep_status.Goals as goal

pub returns-in-Sent-clause-kept : goal.returns-in-Sent-clause-kept
returns-in-Sent-clause-kept c =
    let s = plain c.args.state.now in
    let b = c.args.bucket in
    let x = c.args.set in
    c.hand_over.ensures.sent
    ∙ ap (λ n. machine.put_bucket s b (record (s.bucket b) { entry = put (s.bucket b).entry x (Some (Sent c.in-Sent.dest)); kept = put (s.bucket b).kept x n })) c.writes-place.ensures
    ∙ ap (λ (st : Status). machine.put_bucket s b (with_status (s.bucket b) x st)) (sym c.in-Sent.is)

pub returns-clause-kept : goal.returns-clause-kept
returns-clause-kept c =
    let s = plain c.args.state.now in
    let b = c.args.bucket in
    c.change_status.ensures.changed
    ∙ ap (machine.put_bucket s b) (not_sent (s.bucket b) c.args.set c.args.status c.in_default.not-Sent)
