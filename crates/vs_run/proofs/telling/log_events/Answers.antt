use Rattle.std.proofs.lemmas.Result.{err_from_is_err_and}
use Rattle.vs_run.proofs.LoggedText.{part_logged}
use Rattle.vs_run.proofs.telling.log_events.Goals as goal

pub returns-in_err-log : goal.returns-in_err-log
returns-in_err-log g c =
    let p = err_from_is_err_and c.from_residual.result c.from_residual.ensures.1 in
    rw (p.1, p.2)
    (part_logged c.args.trace.now.items (g.H.Host.told c.args.host.now) (g.H.Host.told c.loop-next.host) (g.H.Host.told c.log.new.self) c.loop-next.next c.write_piece-next.result c.bytes.result.now c.loop-next.invariant
    (rw c.bytes.ensures.value c.write_piece-next.ensures.so_far) c.in_err-log.field-0.0 c.in_err-log.ensures)
