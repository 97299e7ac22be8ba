use Rattle.vs_refs.proofs.Changes.{dropped}
use Rattle.vs_refs.proofs.refs.Refs.drop_bucket.Goals as goal

pub returns-clause-dropped : goal.returns-clause-dropped
returns-clause-dropped c = dropped c.args.self.now.items c.remove.new.self.items c.args.id (rw c.self.view_is at c.remove.ensures.updates)
