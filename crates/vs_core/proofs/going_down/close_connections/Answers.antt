use Rattle.std.proofs.Common.{arith}
use Rattle.vs_core.proofs.GoingDown.{plain_closed}
use Rattle.vs_core.proofs.going_down.close_connections.Goals as goal

pub returns-clause-closed : goal.returns-clause-closed
returns-clause-closed c = plain_closed c.args.state.now c.close_all.new.links c.args.set _ (omega arith) c.close_all.ensures.closed
