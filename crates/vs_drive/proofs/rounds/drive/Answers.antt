use Rattle.std.proofs.Common.{refl, sym, ◌∙◌}
use Rattle.vs_drive.proofs.Ending.{cause_of}
use Rattle.vs_drive.proofs.rounds.drive.Goals as goal

pub returns-then-is_driven-clause-began : goal.returns-then-is_driven-clause-began
returns-then-is_driven-clause-began g c = sym (c.began_with.ensures.0 c.if-not-began_with.false) ∙ c.loop.invariant

pub returns-in-Some-ending_fault-clause-cause : goal.returns-in-Some-ending_fault-clause-cause
returns-in-Some-ending_fault-clause-cause g c =
    let same = sym (c.began_with.ensures.0 c.if-not-began_with.false) ∙ c.loop.invariant in
    cause_of c.args.cluster.world c.round-cluster.result.world c.in-Some-ending_fault.fault same (c.in-Some-ending_fault.ensures.ends refl)
