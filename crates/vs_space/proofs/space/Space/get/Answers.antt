use Rattle.std.proofs.Common.{sym, arith}
use Rattle.std.proofs.lemmas.Grind.{common_steps}
use Rattle.vs_space.proofs.Places.{read_place, rises}
use Rattle.vs_space.proofs.space.Space.get.Goals as goal

pub returns-in-Some-clause-status : goal.returns-in-Some-clause-status
returns-in-Some-clause-status c = rw (sym c.self.view_is) (read_place c.self.inside.places.items c.index_of.result c.args.id c.in-Some.place.now c.index_of.ensures.place (grind (arith, common_steps)) (grind (arith, common_steps)))

pub returns-in-Some-clause-order : goal.returns-in-Some-clause-order
returns-in-Some-clause-order c = rises c.self.inside.places.items c.self.inside.counts c.self.invariant.table c.args.self.now c.self.view_is
