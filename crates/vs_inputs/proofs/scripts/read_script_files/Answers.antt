use Rattle.std.proofs.Common.{arith, ◌<◌, length, refl}
use Rattle.std.specs.Prelude.{map}
use Rattle.std.proofs.lemmas.List.{length-map, map-append}
use Rattle.std.proofs.lemmas.Result.{err_from_is_err_and}
use Rattle.vs_config.specs.Configuration.{configuration}
use Rattle.vs_script.specs.Scripts.{script}
use Rattle.vs_inputs.specs.Gives.{GivesScript}
use Rattle.vs_inputs.specs.Words.{texts}
use Rattle.vs_inputs.proofs.Causes.{nothing_read, good_after}
use Rattle.vs_inputs.proofs.ScriptFiles.{name_at, may_read_next, goes_on, script_cause, good_at}
use Rattle.vs_inputs.proofs.scripts.read_script_files.Goals as goal

pub loop-i-init : goal.loop-i-init
loop-i-init g c = rw c.new-given.ensures (record { host = nothing_read _; count = refl; files = tt; lawful = λ k d below. absurd (omega arith) })

pub read_script_file-requires : goal.read_script_file-requires
read_script_file-requires g c =
    let names = texts c.args.names.now in
    let within : c.loop-i.i < length names = rw length-map c.loop-i-test.true in
    let name = name_at c.args.names.now c.loop-i.i c.index-names-i.result c.as_str.result.now c.loop-i-test.true c.index-names-i.is c.as_str.ensures.value in
    may_read_next names _ _ c.loop-i.i c.as_str.result.now c.loop-i.invariant.host c.requires.names within name

pub returns-in_err-script-clause-err : goal.returns-in_err-script-clause-err
returns-in_err-script-clause-err g c =
    let p = err_from_is_err_and c.from_residual-in_err-script.result c.from_residual-in_err-script.ensures.1 in
    let names = texts c.args.names.now in
    let within : c.loop-i.i < length names = rw length-map c.loop-i-test.true in
    let name = name_at c.args.names.now c.loop-i.i c.index-names-i.result c.as_str.result.now c.loop-i-test.true c.index-names-i.is c.as_str.ensures.value in
    rw (p.1, p.2)
    (script_cause (configuration c.args.config.now) names c.in_err-script.field-0.0 _ _ _ c.loop-i.i (map script c.loop-i.given.items) c.as_str.result.now _ c.args.first c.loop-i.invariant within name refl c.in_err-script.ensures.reads.err)

pub returns-in_err-script-clause-good : goal.returns-in_err-script-clause-good
returns-in_err-script-clause-good g c = λ scripts good.
    let p = err_from_is_err_and c.from_residual-in_err-script.result c.from_residual-in_err-script.ensures.1 in
    let names = texts c.args.names.now in
    let within : c.loop-i.i < length names = rw length-map c.loop-i-test.true in
    let name = name_at c.args.names.now c.loop-i.i c.index-names-i.result c.as_str.result.now c.loop-i-test.true c.index-names-i.is c.as_str.ensures.value in
    let at = good_at (configuration c.args.config.now) names scripts (g.H.Host.told c.args.host.now) c.loop-i.i c.as_str.result.now within name good in
    rw (p.1, p.2) (c.in_err-script.ensures.reads.good at.0 (good_after c.as_str.result.now (GivesScript (configuration c.args.config.now)) at.0 (g.H.Host.told c.args.host.now) (g.H.Host.told c.loop-i.host) c.loop-i.invariant.host at.1))

pub loop-i-preserved : goal.loop-i-preserved
loop-i-preserved g c =
    let names = texts c.args.names.now in
    let within : c.loop-i.i < length names = rw length-map c.loop-i-test.true in
    let name = name_at c.args.names.now c.loop-i.i c.index-names-i.result c.as_str.result.now c.loop-i-test.true c.index-names-i.is c.as_str.ensures.value in
    rw (c.push.ensures.items, c.reserve.ensures.items, map-append)
    (goes_on (configuration c.args.config.now) names _ _ _ c.loop-i.i (map script c.loop-i.given.items) c.as_str.result.now (script c.in_ok-script.script) c.loop-i.invariant within name c.in_ok-script.ensures.reads.host
    c.in_ok-script.ensures.reads.ok c.in_ok-script.ensures.lawful)
