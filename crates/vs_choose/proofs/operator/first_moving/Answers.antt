use Rattle.std.proofs.Common.{◌≡◌, ◌+◌, arith}
use Rattle.vs_state.specs.Plain.{plain}
use Rattle.vs_choose.proofs.Plans.{any_moves}
use Rattle.vs_choose.proofs.operator.first_moving.Goals as goal

pub returns-then-sending-receiving-gt0 : goal.returns-then-sending-receiving-gt0
returns-then-sending-receiving-gt0 c =
    let at : c.in_ok-set.set ≡ c.loop-index.index + 1 = c.in_ok-set.ensures.1 in
    λ _. any_moves (plain c.args.state.now) c.in_ok-set.set c.count-sending.result c.count-receiving.result (omega arith) (omega arith)
    c.count-sending.ensures.number c.count-receiving.ensures.number c.if-sending-receiving-gt0.true
