use Rattle.std.proofs.Common.{arith, ◌<◌, length, refl}
use Rattle.std.specs.Prelude.{map}
use Rattle.std.proofs.lemmas.List.{length-map, map-append}
use Rattle.std.proofs.lemmas.Result.{err_from_is_err_and}
use Rattle.vs_config.specs.Configuration.{configuration}
use Rattle.vs_inputs.specs.Words.{texts}
use Rattle.vs_inputs.proofs.Causes.{nothing_read}
use Rattle.vs_inputs.proofs.ScriptFiles.{name_at, may_read_next}
use Rattle.vs_script.specs.Calls.{calls}
use Rattle.vs_reads.proofs.Files.{good_next, goes_on, stops}
use Rattle.vs_reads.proofs.scripts.read_calls_files.Goals as goal

pub loop-i-init : goal.loop-i-init
loop-i-init g c = rw c.new-clients.ensures (record { host = nothing_read _; count = refl; files = tt; lawful = λ k d below. absurd (omega arith) })

pub read_calls_file-requires : goal.read_calls_file-requires
read_calls_file-requires g c =
    let names = texts c.args.names.now in
    let within : c.loop-i.i < length names = rw length-map c.loop-i-test.true in
    let name = name_at c.args.names.now c.loop-i.i c.index-names-i.result c.as_str.result.now c.loop-i-test.true c.index-names-i.is c.as_str.ensures.value in
    may_read_next names _ _ c.loop-i.i c.as_str.result.now c.loop-i.invariant.host c.requires within name

pub returns-in_err-calls-clause-err : goal.returns-in_err-calls-clause-err
returns-in_err-calls-clause-err g c =
    let p = err_from_is_err_and c.from_residual-in_err-calls.result c.from_residual-in_err-calls.ensures.1 in
    let names = texts c.args.names.now in
    let within : c.loop-i.i < length names = rw length-map c.loop-i-test.true in
    let name = name_at c.args.names.now c.loop-i.i c.index-names-i.result c.as_str.result.now c.loop-i-test.true c.index-names-i.is c.as_str.ensures.value in
    rw (p.1, p.2)
    (stops (configuration c.args.config.now) names c.in_err-calls.field-0.0 _ _ _ c.loop-i.i (map (λ c. calls c.items) c.loop-i.clients.items) c.as_str.result.now _ c.loop-i.invariant within name refl c.in_err-calls.ensures.err)

pub returns-in_err-calls-clause-good : goal.returns-in_err-calls-clause-good
returns-in_err-calls-clause-good g c = λ good are.
    let p = err_from_is_err_and c.from_residual-in_err-calls.result c.from_residual-in_err-calls.ensures.1 in
    let names = texts c.args.names.now in
    let within : c.loop-i.i < length names = rw length-map c.loop-i-test.true in
    let name = name_at c.args.names.now c.loop-i.i c.index-names-i.result c.as_str.result.now c.loop-i-test.true c.index-names-i.is c.as_str.ensures.value in
    let next = good_next (configuration c.args.config.now) names good (g.H.Host.told c.args.host.now) (g.H.Host.told c.loop-i.host) c.loop-i.i c.as_str.result.now within name c.loop-i.invariant.host are in
    rw (p.1, p.2) (c.in_err-calls.ensures.good next.0 next.1)

pub loop-i-preserved : goal.loop-i-preserved
loop-i-preserved g c =
    let names = texts c.args.names.now in
    let within : c.loop-i.i < length names = rw length-map c.loop-i-test.true in
    let name = name_at c.args.names.now c.loop-i.i c.index-names-i.result c.as_str.result.now c.loop-i-test.true c.index-names-i.is c.as_str.ensures.value in
    rw (c.push.ensures.items, c.reserve.ensures.items, map-append)
    (goes_on (configuration c.args.config.now) names _ _ _ c.loop-i.i (map (λ c. calls c.items) c.loop-i.clients.items) c.as_str.result.now (calls c.in_ok-calls.calls.items) c.loop-i.invariant within name c.in_ok-calls.ensures.host
    c.in_ok-calls.ensures.ok c.in_ok-calls.ensures.lawful)
