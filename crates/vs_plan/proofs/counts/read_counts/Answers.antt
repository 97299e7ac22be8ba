use Rattle.std.proofs.lemmas.Result.{err_from_is_err_and}
use Rattle.std.proofs.Common.{List, ◌<◌, ◌≤◌, subst}
use Rattle.vs_plan.specs.declared.counts.SetCount.{SetCount}
use Rattle.vs_plan.specs.Reading.{total}
use Rattle.vs_plan.proofs.Totals.{are_read, bad_lines, many_from, too_many}
use Rattle.vs_plan.proofs.counts.read_counts.Goals as goal

pub returns-in_err-counts-clause-err : goal.returns-in_err-counts-clause-err
returns-in_err-counts-clause-err c =
    let p = err_from_is_err_and c.from_residual.result c.from_residual.ensures.1 in
    rw (p.1, p.2) (bad_lines c.in_err-counts.field-0.0 c.args.sets c.args.text.now c.in_err-counts.ensures.err)

pub returns-then-not-are_few-clause-err : goal.returns-then-not-are_few-clause-err
returns-then-not-are_few-clause-err c =
    let many = subst (λ (counts : List SetCount). 30000 < total counts) c.as_slice.ensures (many_from c.are_few.result (total c.as_slice.result.now) c.are_few.ensures c.if-not-are_few.true) in
    too_many c.args.sets c.args.text.now c.in_ok-counts.counts.items c.in_ok-counts.ensures.ok many

pub returns-clause-ok : goal.returns-clause-ok
returns-clause-ok c =
    let few = subst (λ (counts : List SetCount). total counts ≤ 30000) c.as_slice.ensures (c.are_few.ensures.0 c.if-not-are_few.false) in
    are_read c.args.sets c.args.text.now c.in_ok-counts.counts.items c.in_ok-counts.ensures.ok few
