use Rattle.std.proofs.Common.{inl}
use Rattle.vs_inputs.specs.RunInputs.{run_names}
use Rattle.vs_inputs.specs.Words.{texts}
use Rattle.vs_run.proofs.WithLine.{told, ends_with}
use Rattle.vs_run.proofs.EndsWell.{good_told, good_end}
use Rattle.vs_run.proofs.run.run_files.Goals as goal

pub returns-in-Ok-clause-status : goal.returns-in-Ok-clause-status
returns-in-Ok-clause-status g c = ends_with c.in-Ok.status (run_names c.args.config.now (texts c.args.files.now)) _ (inl c.in-Ok.ensures.ends)

pub returns-in-Ok-clause-good : goal.returns-in-Ok-clause-good
returns-in-Ok-clause-good g c = λ good none. good_end c.in-Ok.status (run_names c.args.config.now (texts c.args.files.now)) _ c.requires.disks c.in-Ok.ensures.count none c.in-Ok.ensures.ends

pub returns-in-Err-clause-ends : goal.returns-in-Err-clause-ends
returns-in-Err-clause-ends g c =
    let before = c.in-Err.ensures in
    told g.D.Disk.told _ _ _ _ _ before.host.write_faults c.log_fault.result (run_names c.args.config.now (texts c.args.files.now)) c.in-Err.fault before.cause c.log_fault.ensures

pub returns-in-Err-clause-status : goal.returns-in-Err-clause-status
returns-in-Err-clause-status g c =
    let before = c.in-Err.ensures in
    let names = run_names c.args.config.now (texts c.args.files.now) in
    ends_with c.log_fault.result names _ (told g.D.Disk.told _ _ _ _ _ before.host.write_faults c.log_fault.result names c.in-Err.fault before.cause c.log_fault.ensures)

pub returns-in-Err-clause-good : goal.returns-in-Err-clause-good
returns-in-Err-clause-good g c =
    let before = c.in-Err.ensures in
    λ good none. good_told g.D.Disk.told _ _ c.requires.disks before.count _ _ _ (run_names c.args.config.now (texts c.args.files.now)) c.in-Err.fault c.log_fault.result none good.none_full before.cause (before.good good.files good.disks) c.log_fault.ensures
