use Rattle.std.proofs.Common.{refl, inr}
use Rattle.std.proofs.lemmas.Result.{err_from_is_err_and}
use Rattle.vs_run.proofs.AtRest.{telling_end, failed_at_rest}
use Rattle.vs_run.proofs.run.end.Goals as goal

pub returns-in_err-tell-in-Ok-clause-cause : goal.returns-in_err-tell-in-Ok-clause-cause
returns-in_err-tell-in-Ok-clause-cause g c =
    let p = err_from_is_err_and c.from_residual.result c.from_residual.ensures.1 in
    rw (p.1, p.2) (telling_end c.rest.new.world c.in_err-tell-in-Ok.field-0.0 _ _ (record { finished = c.in-Ok.ensures.done; settled = c.in-Ok.ensures.settled }) c.in_err-tell-in-Ok.ensures.cause)

pub returns-in_ok-line-in-Err-clause-ends : goal.returns-in_ok-line-in-Err-clause-ends
returns-in_ok-line-in-Err-clause-ends g c =
    inr (
      refl,
      failed_at_rest g.D.Disk.told c.args.world.now c.rest.new.world _ _ _ c.log_events.result c.deref.result.now (rw (← c.trace.ensures.events) c.log_events.ensures) c.log_bytes.ensures c.in-Err.stopped c.of_service-fault.result c.of_service-fault.ensures.is c.of_service-fault.ensures.numbered
          (c.is_of_disk.ensures.0 c.if-not-is_of_disk.false) (rw c.deref.ensures.value c.in_ok-line-in-Err.ensures) c.in-Err.ensures.cause,
    )
