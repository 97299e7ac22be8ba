use Rattle.std.proofs.Common.{subst}
use Rattle.vs_world.specs.World.{World, IsKept}
use Rattle.vs_world.proofs.Kept.{kept}
use Rattle.vs_world.proofs.world.World.core.Goals as goal

pub returns-clause-kept : goal.returns-clause-kept
returns-clause-kept g c =
    let w = c.self.inside in
    subst (λ (v : World g.row.D.Denot). IsKept g.D.Disk.told v) c.self.view_is (kept w.core w.events w.opening w.stores c.self.invariant)
