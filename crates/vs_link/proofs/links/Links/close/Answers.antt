use Rattle.vs_link.specs.Connection.{closed}
use Rattle.vs_link.proofs.Table.{becomes_by}
use Rattle.vs_link.proofs.links.Links.close.Goals as goal

pub returns-clause-links : goal.returns-clause-links
returns-clause-links c =
    becomes_by closed c.self.inside.sets c.self.inside.connections.items c.args.self.now c.args.x c.args.y c.place.result c.index_mut-connection.result.now c.close.new.self
    c.self.invariant c.self.view_is c.place.ensures.first c.place.ensures.second c.requires.pair c.place.ensures.place c.index_mut-connection.ensures.value
    c.close.ensures.connection
