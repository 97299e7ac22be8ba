use Rattle.std.proofs.Common.{◌≡◌, ◌∙◌, ◌+◌, arith}
use Rattle.vs_machine.specs.Kinds.Rebalancing.{view_of}
use Rattle.vs_state.specs.Plain.{plain}
use Rattle.vs_state.proofs.Statuses.{count_at, pinned_at}
use Rattle.vs_state.proofs.state.State.view.Goals as goal

pub returns : goal.returns
returns c =
    let v = view_of (plain c.args.self.now) c.args.set in
    let pinned : c.count-pinned.result ≡ v.pinned = c.count-pinned.ensures.number ∙ pinned_at (plain c.args.self.now) c.args.set in
    let count : c.count-active.result + c.count-pinned.result ≡ v.count =
    omega (arith, count_at (plain c.args.self.now) c.args.set, c.count-active.ensures.number, c.count-pinned.ensures.number) in
    λ i. record { count = count i; pinned = pinned i; weight = c.weight.ensures i; locked = c.is_locked.ensures i }
