use Rattle.std.proofs.Common.{ℕ, [], ◌∷◌, ◌++◌}
use Rattle.std.proofs.lemmas.Result.{err_from_is_err_and}
use Rattle.vs_audit.specs.ReportLines.{counts_at}
use Rattle.vs_audit.specs.Words.{Words, Read, count_at}
use Rattle.vs_audit.proofs.Faults.{word_fails}
use Rattle.vs_audit.proofs.Lists.{left_first, left_next, left_end}
use Rattle.vs_audit.proofs.line_kinds.counts.Goals as goal

abbrev item : ℕ → Words → Read ℕ
item _ words = count_at words

abbrev same : ℕ → ℕ → ℕ
same n _ = n

pub loop-n-init : goal.loop-n-init
loop-n-init c = ([], left_first item same c.args.count 0 c.args.words.now)

pub returns-in_err-count : goal.returns-in_err-count
returns-in_err-count c =
    let p = err_from_is_err_and c.from_residual.result c.from_residual.ensures.1 in
    rw (p.1, p.2)
    (word_fails item same (counts_at c.args.count c.args.words.now) c.loop-n.invariant.0 c.args.count c.loop-n.n 0 c.loop-n.words c.in_err-count.field-0.0 c.loop-n-test.true c.loop-n.invariant.1 c.in_err-count.ensures)

pub loop-n-preserved : goal.loop-n-preserved
loop-n-preserved c = (
  c.loop-n.invariant.0 ++ c.in_ok-count.field-0 ∷ [],
  left_next item same (counts_at c.args.count c.args.words.now) c.loop-n.invariant.0 c.args.count c.loop-n.n 0 c.loop-n.words c.count.new.self c.in_ok-count.field-0 c.loop-n-test.true c.loop-n.invariant.1 c.in_ok-count.ensures,
)

pub returns : goal.returns
returns c = (c.loop-n.invariant.0, left_end item same (counts_at c.args.count c.args.words.now) c.loop-n.invariant.0 c.args.count c.loop-n.n 0 c.loop-n.words c.loop-n-test.false c.loop-n.invariant.1)
