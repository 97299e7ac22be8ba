use Rattle.std.proofs.Common.{◌-◌, length}
use Rattle.vs_run.proofs.LoggedText.{LoggedTo}
use Rattle.vs_run.proofs.telling.log_events.Given as goal

abbrev pub invariant-loop-next : goal.invariant-loop-next
invariant-loop-next g l = LoggedTo l.trace.items (g.H.Host.told l.fn.host) (g.H.Host.told l.host) l.next

abbrev pub decreases-loop-next : goal.decreases-loop-next
decreases-loop-next g l = length l.trace.items - l.next
