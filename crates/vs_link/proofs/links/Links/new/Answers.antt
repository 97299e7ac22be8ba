use Rattle.vs_link.proofs.Table.{unused_links}
use Rattle.vs_link.proofs.links.Links.new.Goals as goal

pub returns : goal.returns
returns c = unused_links c.args.sets c.loop.counter c.loop.connections.items c.loop.invariant
