use Rattle.std.proofs.Common.{List, subst, ◌∙◌}
use Rattle.std.proofs.lemmas.Result.{err_from_is_err_and}
use Rattle.vs_event.specs.declared.event.Event.{Event}
use Rattle.vs_event.specs.Event.{events_text}
use Rattle.vs_host.specs.Calls.{Logs}
use Rattle.vs_world.specs.Played.{state_of}
use Rattle.vs_generating.proofs.Telling.{went, failed_by, told, cut_in_events, cut_in_summary}
use Rattle.vs_generating.proofs.command.tell.Goals as goal

pub returns-in_err-out-clause-cause : goal.returns-in_err-out-clause-cause
returns-in_err-out-clause-cause g c =
    let p = err_from_is_err_and c.from_residual-in_err-out.result c.from_residual-in_err-out.ensures.1 in
    let w = c.args.world.now in
    let old = g.H.Host.told c.args.host.now in
    let new = g.H.Host.told c.out.new.self in
    rw (p.1, p.2) (cut_in_summary c.args.number w.played.events (state_of w.played) c.requires old new new c.deref.result.now (c.deref.ensures.value ∙ c.in_ok-text.ensures) c.in_err-out.field-0.0 c.in_err-out.ensures)

pub returns-in_err-log_events-clause-cause : goal.returns-in_err-log_events-clause-cause
returns-in_err-log_events-clause-cause g c =
    let p = err_from_is_err_and c.from_residual-in_err-log_events.result c.from_residual-in_err-log_events.ensures.1 in
    let w = c.args.world.now in
    let old = g.H.Host.told c.args.host.now in
    let mid = g.H.Host.told c.out.new.self in
    let new = g.H.Host.told c.log_events.new.host in
    let logs = subst (λ (es : List Event). Logs (events_text es) mid new (failed_by c.in_err-log_events.field-0.0)) c.trace.ensures.events c.in_err-log_events.ensures in
    rw (p.1, p.2) (cut_in_events c.args.number w.played.events (state_of w.played) c.requires old mid new c.deref.result.now (c.deref.ensures.value ∙ c.in_ok-text.ensures) c.in_err-log_events.field-0.0 c.in_ok-out.ensures logs)

pub returns-clause-told : goal.returns-clause-told
returns-clause-told g c =
    let w = c.args.world.now in
    let old = g.H.Host.told c.args.host.now in
    let mid = g.H.Host.told c.out.new.self in
    let new = g.H.Host.told c.log_events.new.host in
    let logs = subst (λ (es : List Event). Logs (events_text es) mid new went) c.trace.ensures.events c.in_ok-log_events.ensures in
    told c.args.number w.played.events (state_of w.played) c.requires old mid new c.deref.result.now (c.deref.ensures.value ∙ c.in_ok-text.ensures) c.in_ok-out.ensures logs
