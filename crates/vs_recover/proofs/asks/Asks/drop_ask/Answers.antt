use Rattle.std.proofs.Common.{None}
use Rattle.vs_recover.proofs.Changes.{sets_updated}
use Rattle.vs_recover.proofs.asks.Asks.drop_ask.Goals as goal

pub returns-clause-dropped : goal.returns-clause-dropped
returns-clause-dropped c =
    sets_updated c.args.self.now.items c.remove.new.self.items c.args.id None (rw c.self.view_is at c.remove.ensures.updates)
