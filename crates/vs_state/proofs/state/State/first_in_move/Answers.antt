use Rattle.std.proofs.Common.{◌≡◌, ◌+◌, ◌∙◌, sym, false, arith}
use Rattle.vs_machine.specs.Kinds.Rebalancing.{is_in_move}
use Rattle.vs_state.specs.Plain.{plain}
use Rattle.vs_state.proofs.Least.{least_at, least_none, one_further}
use Rattle.vs_state.proofs.state.State.first_in_move.Goals as goal

pub returns-then-is_in_move : goal.returns-then-is_in_move
returns-then-is_in_move c =
    let s = c.args.self.now in
    let b = c.in_ok-bucket.bucket in
    let at : b ≡ c.loop-index.index + 1 = c.in_ok-bucket.ensures.1 in
    sym (least_at (is_in_move (plain s)) s.config.bucket_count b (omega arith) (omega arith)
    (sym c.is_in_move.ensures ∙ c.if-is_in_move.true) (λ k f l. c.loop-index.invariant k f (omega arith)))

pub loop-index-preserved : goal.loop-index-preserved
loop-index-preserved c =
    one_further (is_in_move (plain c.args.self.now)) false c.loop-index.index c.in_ok-bucket.bucket c.in_ok-bucket.ensures.1
    (sym c.is_in_move.ensures ∙ c.if-is_in_move.false) c.loop-index.invariant

pub returns : goal.returns
returns c =
    let s = c.args.self.now in
    sym (least_none (is_in_move (plain s)) s.config.bucket_count (λ k f l. c.loop-index.invariant k f (omega arith)))
