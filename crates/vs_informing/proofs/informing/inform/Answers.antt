use Rattle.std.proofs.Common.{lit<, refl, inl}
use Rattle.vs_informing.proofs.Ending.{ends_with, good_told, told_or}
use Rattle.vs_informing.proofs.informing.inform.Goals as goal

pub returns-in-Err-clause-ends : goal.returns-in-Err-clause-ends
returns-in-Err-clause-ends g c =
    let before = c.in-Err.ensures in
    told_or g.D.Disk.told _ _ c.args.config.now _ _ _ c.log_fault.result before.log before.host.write_faults c.in-Err.fault before.err c.log_fault.ensures

pub returns-in-Err-clause-status : goal.returns-in-Err-clause-status
returns-in-Err-clause-status g c =
    let before = c.in-Err.ensures in
    ends_with c.log_fault.result _ c.args.config.now
    (told_or g.D.Disk.told _ _ c.args.config.now _ _ _ c.log_fault.result before.log before.host.write_faults c.in-Err.fault before.err c.log_fault.ensures)

pub returns-in-Err-clause-good : goal.returns-in-Err-clause-good
returns-in-Err-clause-good g c =
    let before = c.in-Err.ensures in
    λ holds none.
    good_told g.D.Disk.told _ _ c.args.config.now _ _ _ c.requires.disks before.count c.in-Err.fault c.log_fault.result none before.err (before.good holds.config holds.config_file holds.disks) c.log_fault.ensures

pub returns-in-Ok-clause-status : goal.returns-in-Ok-clause-status
returns-in-Ok-clause-status g c = (0, lit< tt, refl)

pub returns-in-Ok-clause-ends : goal.returns-in-Ok-clause-ends
returns-in-Ok-clause-ends g c = inl (refl, c.in-Ok.ensures.ok)

pub returns-in-Ok-clause-good : goal.returns-in-Ok-clause-good
returns-in-Ok-clause-good g c = λ holds none. (0, lit< tt, refl)
