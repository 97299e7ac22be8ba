use Rattle.std.proofs.Common.{◌≡◌, ◌+◌, ◌∙◌, ap, sym, true, arith}
use Rattle.std.specs.Prelude.{not}
use Rattle.vs_machine.specs.State.{sets_of}
use Rattle.vs_state.specs.Plain.{plain}
use Rattle.vs_state.proofs.Least.{least_at, least_none, one_further}
use Rattle.vs_state.proofs.state.State.first_down.Goals as goal

pub returns-then-not-up : goal.returns-then-not-up
returns-then-not-up c =
    let s = plain c.args.self.now in
    let x = c.in_ok-set.set in
    let at : x ≡ c.loop-index.index + 1 = c.in_ok-set.ensures.1 in
    sym (least_at (λ x. not (s.up x)) (sets_of s) x (omega arith) (omega arith)
    (ap not (sym c.up.ensures ∙ c.if-not-up.true)) (λ k f l. ap not (c.loop-index.invariant k f (omega arith))))

pub loop-index-preserved : goal.loop-index-preserved
loop-index-preserved c =
    one_further (plain c.args.self.now).up true c.loop-index.index c.in_ok-set.set c.in_ok-set.ensures.1
    (sym c.up.ensures ∙ c.if-not-up.false) c.loop-index.invariant

pub returns : goal.returns
returns c =
    let s = plain c.args.self.now in
    sym (least_none (λ x. not (s.up x)) (sets_of s) (λ k f l. ap not (c.loop-index.invariant k f (omega arith))))
