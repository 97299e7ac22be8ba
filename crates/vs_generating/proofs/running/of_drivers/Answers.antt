use Rattle.std.proofs.Common.{subst}
use Rattle.vs_generating.specs.Faults.{IsOfDrivers}
use Rattle.vs_generating.proofs.DisksInMemory.{never_full}
use Rattle.vs_generating.proofs.running.of_drivers.Goals as goal

pub unreachable-requires : goal.unreachable-requires
unreachable-requires c =
    never_full c.args.world.now c.in-Full.set c.journal_len-length.result c.core-core.ensures.kept c.given_inputs.ensures.inputs (subst (IsOfDrivers c.args.world.now) c.in-Full.is c.requires) c.journal_len-length.ensures.length
    c.journal_len-length.ensures.reserved
