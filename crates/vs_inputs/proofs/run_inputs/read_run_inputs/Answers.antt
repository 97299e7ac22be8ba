use Rattle.std.proofs.Common.{[], subst, arith}
use Rattle.std.specs.Prelude.{map, suc}
use Rattle.std.proofs.lemmas.Result.{err_from_is_err_and}
use Rattle.vs_config.specs.Configuration.{configuration}
use Rattle.vs_script.specs.Scripts.{script, scripts}
use Rattle.vs_inputs.specs.Files.{Files}
use Rattle.vs_inputs.specs.Inputs.{HaveScripts}
use Rattle.vs_inputs.specs.RunInputs.{run_names}
use Rattle.vs_inputs.specs.Words.{texts}
use Rattle.vs_inputs.proofs.GoodRun.{good_run_gathers, same_run_gathered}
use Rattle.vs_inputs.proofs.run_inputs.read_run_inputs.Goals as goal

pub read_config_file-requires : goal.read_config_file-requires
read_config_file-requires g c = c.requires 0 [] (omega arith)

pub read_script_files-requires-clause-names : goal.read_script_files-requires-clause-names
read_script_files-requires-clause-names g c = λ k d below. rw c.in_ok-config.ensures.reads.host.files.may_read (c.requires (suc k) d (omega arith))

pub returns-in_err-scripts-clause-good : goal.returns-in_err-scripts-clause-good
returns-in_err-scripts-clause-good g c = λ good.
    let p = err_from_is_err_and c.from_residual-in_err-scripts.result c.from_residual-in_err-scripts.ensures.1 in
    let files = (g.H.Host.told c.args.host.now).file in
    let names = run_names c.args.config.now (texts c.args.files.now) in
    let config = configuration c.in_ok-config.config in
    let first = c.in_ok-config.ensures.reads in
    let given = map script c.in_ok-given.given.items in
    let have : HaveScripts config files names.scripts given = subst (λ (f : Files). HaveScripts config f names.scripts given) first.host.files.file c.in_ok-given.ensures.ok in
    rw (p.1, p.2) (good_run_gathers files names config given c.in_err-scripts.field-0.0 first.ok have c.in_err-scripts.ensures.err good)

pub returns-clause-lawful : goal.returns-clause-lawful
returns-clause-lawful g c =
    let all = c.in_ok-scripts.ensures.lawful _ _ c.in_ok-given.ensures.lawful in
    record { config_is = c.in_ok-config.ensures.lawful; together = c.in_ok-scripts.ensures.together; calls = all.0; commands = all.1 }

pub returns-clause-same : goal.returns-clause-same
returns-clause-same g c = λ good.
    let files = (g.H.Host.told c.args.host.now).file in
    let names = run_names c.args.config.now (texts c.args.files.now) in
    let config = configuration c.in_ok-config.config in
    let first = c.in_ok-config.ensures.reads in
    let given = map script c.in_ok-given.given.items in
    let have : HaveScripts config files names.scripts given = subst (λ (f : Files). HaveScripts config f names.scripts given) first.host.files.file c.in_ok-given.ensures.ok in (
      first.same good.config good.config_file,
      same_run_gathered files names config given (scripts c.in_ok-scripts.scripts) first.ok have c.in_ok-scripts.ensures.ok good,
    )
