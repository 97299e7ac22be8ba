use Rattle.std.proofs.Common.{ℕ, ◌+◌, [], ◌∷◌, ◌++◌}
use Rattle.std.proofs.lemmas.Result.{err_from_is_err_and}
use Rattle.vs_audit.specs.Report.{Rest, ReadLines, bucket_at, buckets_at}
use Rattle.vs_audit.proofs.Faults.{line_fails}
use Rattle.vs_audit.proofs.Lists.{left_first, left_next, left_end}
use Rattle.vs_audit.proofs.read.buckets.Goals as goal

abbrev item : ℕ → ℕ → Rest → ReadLines (Unit {0})
item sets bucket lines = bucket_at sets bucket lines

abbrev next : ℕ → Unit {0} → ℕ
next number _ = number + 1

pub loop-n-init : goal.loop-n-init
loop-n-init c = ([], left_first (item c.args.size.sets) next c.args.size.buckets 1 c.args.lines.now)

pub returns-in_err-bucket : goal.returns-in_err-bucket
returns-in_err-bucket c =
    let p = err_from_is_err_and c.from_residual.result c.from_residual.ensures.1 in
    rw (p.1, p.2)
    (line_fails (item c.args.size.sets) next (buckets_at c.args.size.sets c.args.size.buckets c.args.lines.now) c.loop-n.invariant.0 c.args.size.buckets c.loop-n.n (c.loop-n.n + 1) c.loop-n.lines c.in_err-bucket.field-0.0 c.loop-n-test.true c.loop-n.invariant.1 c.in_err-bucket.ensures)

pub loop-n-preserved : goal.loop-n-preserved
loop-n-preserved c = (
  c.loop-n.invariant.0 ++ tt ∷ [],
  left_next (item c.args.size.sets) next (buckets_at c.args.size.sets c.args.size.buckets c.args.lines.now) c.loop-n.invariant.0 c.args.size.buckets c.loop-n.n (c.loop-n.n + 1) c.loop-n.lines c.bucket.new.lines tt c.loop-n-test.true c.loop-n.invariant.1 c.in_ok-bucket.ensures,
)

pub returns : goal.returns
returns c = (c.loop-n.invariant.0, left_end (item c.args.size.sets) next (buckets_at c.args.size.sets c.args.size.buckets c.args.lines.now) c.loop-n.invariant.0 c.args.size.buckets c.loop-n.n (c.loop-n.n + 1) c.loop-n.lines c.loop-n-test.false c.loop-n.invariant.1)
