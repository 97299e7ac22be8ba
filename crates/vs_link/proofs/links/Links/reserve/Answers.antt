use Rattle.vs_link.specs.Connection.{Connection}
use Rattle.vs_link.proofs.Table.{becomes_by}
use Rattle.vs_link.proofs.links.Links.reserve.Goals as goal

pub returns-clause-links : goal.returns-clause-links
returns-clause-links c =
    becomes_by (λ (d : Connection). d) c.self.inside.sets c.self.inside.connections.items c.args.self.now c.args.x c.args.y c.place.result c.index_mut-connection.result.now c.reserve.new.self
    c.self.invariant c.self.view_is c.place.ensures.first c.place.ensures.second c.requires c.place.ensures.place c.index_mut-connection.ensures.value
    c.reserve.ensures.connection
