use Rattle.std.proofs.Common.{length}
use Rattle.std.proofs.lemmas.Result.{err_from_is_err_and}
use Rattle.vs_config.specs.Configuration.{configuration}
use Rattle.vs_script.specs.Scripts.{Client, script}
use Rattle.vs_reads.proofs.Files.{given_calls, good_reads, lawful_calls, not_reads, outside, script_cause}
use Rattle.vs_reads.proofs.scripts.read_calls_file.Goals as goal

pub returns-in_err-given-clause-err : goal.returns-in_err-given-clause-err
returns-in_err-given-clause-err g c =
    let p = err_from_is_err_and c.from_residual.result c.from_residual.ensures.1 in
    rw (p.1, p.2) (script_cause c.in_err-given.field-0.0 c.args.mode (configuration c.args.config.now) c.args.place c.args.name.now _ _ c.in_err-given.ensures.reads.err)

pub returns-in_err-given-clause-good : goal.returns-in_err-given-clause-good
returns-in_err-given-clause-good g c = λ good is.
    let p = err_from_is_err_and c.from_residual.result c.from_residual.ensures.1 in
    rw (p.1, p.2) (outside c.in_err-given.field-0.0 (c.in_err-given.ensures.reads.good (Client good) is.file))

pub returns-clause-ok : goal.returns-clause-ok
returns-clause-ok g c =
    given_calls c.args.mode (configuration c.args.config.now) (g.H.Host.told c.args.host.now).file c.args.name.now (script c.in_ok-given.given) c.calls_of.result c.in_ok-given.ensures.reads.ok c.calls_of.ensures.ok c.calls_of.ensures.all

pub returns-clause-lawful : goal.returns-clause-lawful
returns-clause-lawful g c = lawful_calls c.args.config.now.bucket_count (length c.args.config.now.sets.items) (script c.in_ok-given.given) c.calls_of.result c.in_ok-given.ensures.lawful c.calls_of.ensures.ok

pub returns-clause-err : goal.returns-clause-err
returns-clause-err g c =
    not_reads c.args.mode (configuration c.args.config.now) c.args.place c.args.name.now (g.H.Host.told c.args.host.now) _ (script c.in_ok-given.given) c.calls_of.result c.in_ok-given.ensures.reads.ok c.calls_of.ensures.err

pub returns-clause-good : goal.returns-clause-good
returns-clause-good g c = λ good is.
    good_reads c.args.mode (configuration c.args.config.now) (g.H.Host.told c.args.host.now).file c.args.name.now c.args.place good (script c.in_ok-given.given) c.calls_of.result c.in_ok-given.ensures.reads.ok is c.calls_of.ensures.err
