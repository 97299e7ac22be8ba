use Rattle.std.proofs.Common.{◌≡◌, true, sym, subst}
use Rattle.vs_core.specs.Core as core
use Rattle.vs_machine.specs.State.{has_set}
use Rattle.vs_world.specs.Played.{state_of}
use Rattle.vs_world.specs.World.{World, IsLengthAt}
use Rattle.vs_world.proofs.Lengths.{length_shown}
use Rattle.vs_world.proofs.world.World.journal_len.Goals as goal

pub returns-clause-journal : goal.returns-clause-journal
returns-clause-journal g c = λ up.
    let w = c.self.inside in
    let there : has_set (core.means w.core) c.args.set ≡ true = subst (λ (v : World g.row.D.Denot). has_set (state_of v.played) c.args.set ≡ true) (sym c.self.view_is) c.requires in
    let is_up : (core.means w.core).up c.args.set ≡ true = subst (λ (v : World g.row.D.Denot). (state_of v.played).up c.args.set ≡ true) (sym c.self.view_is) up in
    subst (λ (v : World g.row.D.Denot). IsLengthAt g.D.Disk.told v c.args.set) c.self.view_is
    (length_shown w.core w.events w.opening w.stores c.self.invariant c.args.set there (c.self.invariant.ready c.args.set is_up))
