use Rattle.std.proofs.Common.{◌≡◌}
use Rattle.vs_gen.specs.Calls.{bucket_of, call_of, kind_of, key_of, mode_of, ops_of, value_of}
use Rattle.vs_gen.proofs.DrawnCalls.{call_drawn, states_left}
use Rattle.vs_gen.proofs.calls.call.Goals as goal

pub returns-in_err-ops-clause-draws : goal.returns-in_err-ops-clause-draws
returns-in_err-ops-clause-draws c =
    states_left c.args.draws.now c.next.new.self c.next-key_draw.new.self c.next-2.new.self c.next-value_draw.new.self
    c.next.ensures.state c.next-key_draw.ensures.state c.next-2.ensures.state c.next-value_draw.ensures.state

pub returns-clause-draws : goal.returns-clause-draws
returns-clause-draws c =
    states_left c.args.draws.now c.next.new.self c.next-key_draw.new.self c.next-2.new.self c.next-value_draw.new.self
    c.next.ensures.state c.next-key_draw.ensures.state c.next-2.ensures.state c.next-value_draw.ensures.state

pub returns-clause-call : goal.returns-clause-call
unfolding call_of
returns-clause-call c =
    let drawn = call_drawn c.args.draws.now c.next.new.self c.next-key_draw.new.self c.next-2.new.self
    c.next.ensures.state c.next-key_draw.ensures.state c.next-2.ensures.state in
    let p = c.next.ensures.value in
    let q = c.next-key_draw.ensures.value in
    let r = c.next-2.ensures.value in
    let t = c.next-value_draw.ensures.value in
    let bucket : c.bucket-bucket.result ≡ bucket_of c.next.result = c.bucket-bucket.ensures in
    let kind : c.of-kind.result ≡ kind_of c.next-2.result = c.of-kind.ensures in
    let mode : c.mode.result ≡ mode_of c.of-kind.result = c.mode.ensures in
    let ops : c.in_ok-ops.ops.items ≡ ops_of c.of-kind.result (key_of c.next-key_draw.result) (value_of c.next-value_draw.result) = c.in_ok-ops.ensures in
    cc
