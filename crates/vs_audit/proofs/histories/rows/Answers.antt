use Rattle.std.proofs.Common.{◌≡◌, ◌+◌, true, Ok, refl, subst}
use Rattle.std.proofs.lemmas.Result.{err_from_is_err_and}
use Rattle.vs_rows.specs.RowMap.{RowMap}
use Rattle.vs_audit.specs.Given.{IsTextFaultOf}
use Rattle.vs_audit.specs.Operations.{is_above, with_row}
use Rattle.vs_audit.specs.Report.{row_at, rows_at}
use Rattle.vs_audit.proofs.Faults.{line_fails}
use Rattle.vs_audit.proofs.Lists.{many_more, left_end}
use Rattle.vs_audit.proofs.Rows.{rising_with}
use Rattle.vs_audit.proofs.histories.rows.Goals as goal

pub returns-in_err-row : goal.returns-in_err-row
returns-in_err-row c =
    let wrong = subst (λ (rows : RowMap). IsTextFaultOf c.in_err-row.field-0.0 (row_at rows c.loop-n.lines)) c.as_slice.ensures c.in_err-row.ensures.read in
    let p = err_from_is_err_and c.from_residual.result c.from_residual.ensures.1 in
    rw (p.1, p.2)
    (line_fails row_at with_row (rows_at c.args.count c.args.lines.now) c.loop-n.rows.items c.args.count c.loop-n.n c.loop-n.rows.items c.loop-n.lines c.in_err-row.field-0.0 c.loop-n-test.true c.loop-n.invariant.so_far wrong)

pub loop-n-preserved : goal.loop-n-preserved
loop-n-preserved c =
    let above : is_above c.loop-n.rows.items c.in_ok-row.row.0 ≡ true = subst (λ (rows : RowMap). is_above rows c.in_ok-row.row.0 ≡ true) c.as_slice.ensures c.in_ok-row.ensures.above in
    let read = subst (λ (rows : RowMap). row_at rows c.loop-n.lines ≡ Ok (c.in_ok-row.row, c.row.new.lines)) c.as_slice.ensures c.in_ok-row.ensures.read in
    record {
      so_far = many_more row_at with_row (rows_at c.args.count c.args.lines.now) c.loop-n.rows.items c.add_row.new.rows.items c.args.count c.loop-n.n (c.loop-n.n + 1) c.loop-n.rows.items c.add_row.new.rows.items c.loop-n.lines c.row.new.lines c.in_ok-row.row c.loop-n-test.true c.in_ok-add_row.ensures refl c.in_ok-add_row.ensures c.loop-n.invariant.so_far read;
      rising = rising_with c.loop-n.rows.items c.add_row.new.rows.items c.in_ok-row.row c.in_ok-add_row.ensures c.loop-n.invariant.rising above;
    }

pub returns : goal.returns
returns c = left_end row_at with_row (rows_at c.args.count c.args.lines.now) c.loop-n.rows.items c.args.count c.loop-n.n c.loop-n.rows.items c.loop-n.lines c.loop-n-test.false c.loop-n.invariant.so_far
