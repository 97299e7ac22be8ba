use Rattle.std.proofs.lemmas.Result.{err_from_is_err_and}
use Rattle.vs_config.specs.Configuration.{configuration}
use Rattle.vs_inputs.specs.RunInputs.{run_names}
use Rattle.vs_inputs.specs.Words.{texts}
use Rattle.vs_script.specs.Scripts.{scripts}
use Rattle.vs_run.proofs.FromFiles.{input_fault, outside_good, ends_any, cause_any}
use Rattle.vs_run.proofs.run.run_inputs.Goals as goal

pub returns-in_err-inputs-clause-cause : goal.returns-in_err-inputs-clause-cause
returns-in_err-inputs-clause-cause g c =
    let p = err_from_is_err_and c.from_residual.result c.from_residual.ensures.1 in
    rw (p.1, p.2) (input_fault g.D.Disk.told c.in_err-inputs.field-0.0 (run_names c.args.config.now (texts c.args.files.now)) _ _ c.args.disks.now.items c.in_err-inputs.ensures.host c.in_err-inputs.ensures.err)

pub returns-in_err-inputs-clause-good : goal.returns-in_err-inputs-clause-good
returns-in_err-inputs-clause-good g c =
    let p = err_from_is_err_and c.from_residual.result c.from_residual.ensures.1 in
    λ files good. rw (p.1, p.2) (outside_good c.in_err-inputs.field-0.0 (c.in_err-inputs.ensures.good files))

pub returns-clause-ends : goal.returns-clause-ends
returns-clause-ends g c =
    let inputs = c.in_ok-inputs.inputs in
    ends_any g.D.Disk.told (configuration inputs.config) (scripts inputs.scripts) c.args.disks.now.items _ (g.H.Host.told c.args.host.now) _ _ c.in_ok-inputs.ensures.host (run_names c.args.config.now (texts c.args.files.now)) c.in_ok-inputs.ensures.ok c.run_on.result c.run_on.ensures.ends

pub returns-clause-cause : goal.returns-clause-cause
returns-clause-cause g c =
    let inputs = c.in_ok-inputs.inputs in
    cause_any g.D.Disk.told (configuration inputs.config) (scripts inputs.scripts) c.args.disks.now.items _ (g.H.Host.told c.args.host.now) _ _ c.in_ok-inputs.ensures.host (run_names c.args.config.now (texts c.args.files.now)) c.in_ok-inputs.ensures.ok c.run_on.result c.run_on.ensures.cause
