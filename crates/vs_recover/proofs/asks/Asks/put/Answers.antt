use Rattle.std.proofs.Common.{Some}
use Rattle.vs_recover.proofs.Changes.{sets_updated}
use Rattle.vs_recover.proofs.asks.Asks.put.Goals as goal

pub insert-requires : goal.insert-requires
insert-requires c = rw c.self.view_is c.requires

pub returns-clause-put : goal.returns-clause-put
returns-clause-put c =
    sets_updated c.args.self.now.items c.insert.new.self.items c.args.id (Some (c.args.epoch, c.args.sync)) (rw c.self.view_is at c.insert.ensures.updates)
