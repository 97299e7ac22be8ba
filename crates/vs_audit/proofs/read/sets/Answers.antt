use Rattle.std.proofs.Common.{ℕ, ◌+◌, [], ◌∷◌, ◌++◌}
use Rattle.std.proofs.lemmas.Result.{err_from_is_err_and}
use Rattle.vs_audit.specs.Report.{Rest, ReadLines, set_at, sets_at}
use Rattle.vs_audit.proofs.Faults.{line_fails}
use Rattle.vs_audit.proofs.Lists.{left_first, left_next, left_end}
use Rattle.vs_audit.proofs.read.sets.Goals as goal

abbrev item : ℕ → Rest → ReadLines (Unit {0})
item set lines = set_at set lines

abbrev next : ℕ → Unit {0} → ℕ
next number _ = number + 1

pub loop-n-init : goal.loop-n-init
loop-n-init c = ([], left_first (item) next c.args.count 1 c.args.lines.now)

pub returns-in_err-set : goal.returns-in_err-set
returns-in_err-set c =
    let p = err_from_is_err_and c.from_residual.result c.from_residual.ensures.1 in
    rw (p.1, p.2)
    (line_fails (item) next (sets_at c.args.count c.args.lines.now) c.loop-n.invariant.0 c.args.count c.loop-n.n (c.loop-n.n + 1) c.loop-n.lines c.in_err-set.field-0.0 c.loop-n-test.true c.loop-n.invariant.1 c.in_err-set.ensures)

pub loop-n-preserved : goal.loop-n-preserved
loop-n-preserved c = (
  c.loop-n.invariant.0 ++ tt ∷ [],
  left_next (item) next (sets_at c.args.count c.args.lines.now) c.loop-n.invariant.0 c.args.count c.loop-n.n (c.loop-n.n + 1) c.loop-n.lines c.set.new.lines tt c.loop-n-test.true c.loop-n.invariant.1 c.in_ok-set.ensures,
)

pub returns : goal.returns
returns c = (c.loop-n.invariant.0, left_end (item) next (sets_at c.args.count c.args.lines.now) c.loop-n.invariant.0 c.args.count c.loop-n.n (c.loop-n.n + 1) c.loop-n.lines c.loop-n-test.false c.loop-n.invariant.1)
