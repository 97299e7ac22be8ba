use Rattle.std.proofs.Common.{arith}
use Rattle.std.proofs.lemmas.Grind.{common_steps}
use Rattle.vs_space.proofs.Places.{entries_from-grown}
use Rattle.vs_space.proofs.space.table.Goals as goal

pub returns-clause-entries : goal.returns-clause-entries
returns-clause-entries c =
    entries_from-grown c.in_ok-places.places.items c.resize.new.self.items c.resize-2.new.self.items c.resize-3.new.self.items c.args.before c.args.count c.args.total c.requires c.in_ok-places.ensures.items
    (record { had = grind (arith, common_steps); items = grind (arith, common_steps) })
    (record { had = grind (arith, common_steps); items = grind (arith, common_steps) })
    (record { had = grind (arith, common_steps); items = grind (arith, common_steps) })
