use Rattle.std.proofs.Common.{◌≡◌, ◌∙◌, [], subst, arith, inl, inr}
use Rattle.std.specs.Prelude.{map, suc}
use Rattle.std.proofs.lemmas.Result.{err_from_is_err_and}
use Rattle.vs_config.specs.Configuration.{configuration}
use Rattle.vs_script.specs.Scripts.{script, scripts}
use Rattle.vs_inputs.specs.FileNames.{names_of}
use Rattle.vs_inputs.specs.Files.{Files}
use Rattle.vs_inputs.specs.Inputs.{HaveScripts}
use Rattle.vs_inputs.specs.Gives.{GivesEvents}
use Rattle.vs_inputs.specs.Places.{events_place}
use Rattle.vs_inputs.proofs.Causes.{cause_before, good_after}
use Rattle.vs_inputs.proofs.Good.{good_gathers, same_gathered}
use Rattle.vs_inputs.proofs.inputs.read_inputs.Goals as goal

pub read_config_file-requires : goal.read_config_file-requires
read_config_file-requires g c = c.requires 0 [] (omega arith)

pub read_events_file-requires : goal.read_events_file-requires
read_events_file-requires g c = rw c.in_ok-config.ensures.reads.host.files.may_read (c.requires 1 [] (omega arith))

pub returns-in_err-trace-clause-err : goal.returns-in_err-trace-clause-err
returns-in_err-trace-clause-err g c =
    let p = err_from_is_err_and c.from_residual-in_err-trace.result c.from_residual-in_err-trace.ensures.1 in
    let first = c.in_ok-config.ensures.reads in
    let cause = cause_before c.in_err-trace.field-0.0 events_place c.args.names.now.events.now (GivesEvents) (g.H.Host.told c.args.host.now) (g.H.Host.told c.read_config_file.new.host) (g.H.Host.told c.read_events_file.new.host) first.host c.in_err-trace.ensures.err in
    rw (p.1, p.2) (inr (inl (record { config = configuration c.in_ok-config.config; config_file = first.ok; cause = cause })))

pub returns-in_err-trace-clause-good : goal.returns-in_err-trace-clause-good
returns-in_err-trace-clause-good g c = λ good.
    let p = err_from_is_err_and c.from_residual-in_err-trace.result c.from_residual-in_err-trace.ensures.1 in
    rw (p.1, p.2)
    (c.in_err-trace.ensures.good good.events
    (good_after c.args.names.now.events.now (GivesEvents) good.events (g.H.Host.told c.args.host.now) (g.H.Host.told c.read_config_file.new.host) c.in_ok-config.ensures.reads.host good.events_file))

pub read_script_files-requires-clause-names : goal.read_script_files-requires-clause-names
read_script_files-requires-clause-names g c = λ k d below. rw (c.in_ok-trace.ensures.host.files.may_read, c.in_ok-config.ensures.reads.host.files.may_read) (c.requires (suc (suc k)) d (omega arith))

pub returns-in_err-scripts-clause-good : goal.returns-in_err-scripts-clause-good
returns-in_err-scripts-clause-good g c = λ good.
    let p = err_from_is_err_and c.from_residual-in_err-scripts.result c.from_residual-in_err-scripts.ensures.1 in
    let files = (g.H.Host.told c.args.host.now).file in
    let names = names_of c.args.names.now in
    let config = configuration c.in_ok-config.config in
    let given = map script c.in_ok-given.given.items in
    let same : (g.H.Host.told c.read_events_file.new.host).file ≡ files = c.in_ok-trace.ensures.host.files.file ∙ c.in_ok-config.ensures.reads.host.files.file in
    let have : HaveScripts config files names.scripts given = subst (λ (f : Files). HaveScripts config f names.scripts given) same c.in_ok-given.ensures.ok in
    rw (p.1, p.2) (good_gathers files names config given c.in_err-scripts.field-0.0 c.in_ok-config.ensures.reads.ok have c.in_err-scripts.ensures.err good)

pub returns-clause-lawful : goal.returns-clause-lawful
returns-clause-lawful g c =
    let all = c.in_ok-scripts.ensures.lawful _ _ c.in_ok-given.ensures.lawful in
    record { config_is = c.in_ok-config.ensures.lawful; together = c.in_ok-scripts.ensures.together; calls = all.0; commands = all.1 }

pub returns-clause-same : goal.returns-clause-same
returns-clause-same g c = λ good.
    let old = g.H.Host.told c.args.host.now in
    let names = names_of c.args.names.now in
    let config = configuration c.in_ok-config.config in
    let given = map script c.in_ok-given.given.items in
    let first = c.in_ok-config.ensures.reads in
    let same : (g.H.Host.told c.read_events_file.new.host).file ≡ old.file = c.in_ok-trace.ensures.host.files.file ∙ first.host.files.file in
    let have : HaveScripts config old.file names.scripts given = subst (λ (f : Files). HaveScripts config f names.scripts given) same c.in_ok-given.ensures.ok in (
      first.same good.config good.config_file,
      c.in_ok-trace.ensures.same good.events (good_after names.events (GivesEvents) good.events old (g.H.Host.told c.read_config_file.new.host) first.host good.events_file),
      same_gathered old.file names config given (scripts c.in_ok-scripts.scripts) first.ok have c.in_ok-scripts.ensures.ok good,
    )
