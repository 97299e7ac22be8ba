use Rattle.std.proofs.lemmas.Result.{on_ok_weaker}
use Rattle.vs_link.specs.Connection.{without_reply}
use Rattle.vs_link.proofs.Table.{becomes_by}
use Rattle.vs_link.proofs.links.Links.take_reply.Goals as goal

pub returns-clause-links : goal.returns-clause-links
returns-clause-links c =
    on_ok_weaker c.take_reply.result
    (becomes_by without_reply c.self.inside.sets c.self.inside.connections.items c.args.self.now c.args.x c.args.y c.place.result c.index_mut-connection.result.now c.take_reply.new.self
    c.self.invariant c.self.view_is c.place.ensures.first c.place.ensures.second c.requires c.place.ensures.place c.index_mut-connection.ensures.value)
    c.take_reply.ensures.connection
