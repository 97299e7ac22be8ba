use Rattle.std.proofs.Common.{◌∙◌, sym}
use Rattle.vs_space.proofs.Places.{count_of-entries_from, rises}
use Rattle.vs_space.proofs.space.Space.count.Goals as goal

pub returns-clause-number : goal.returns-clause-number
returns-clause-number c = rw (sym c.self.view_is) (c.get.ensures ∙ c.self.invariant.table.numbers c.args.kind ∙ sym (count_of-entries_from c.args.kind c.self.inside.places.items 1))

pub returns-clause-order : goal.returns-clause-order
returns-clause-order c = rises c.self.inside.places.items c.self.inside.counts c.self.invariant.table c.args.self.now c.self.view_is
