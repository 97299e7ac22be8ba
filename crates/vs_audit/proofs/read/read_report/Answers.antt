use Rattle.std.proofs.Common.{map}
use Rattle.std.proofs.lemmas.Result.{err_from_is_err_and}
use Rattle.vs_audit.specs.Account.{history, call}
use Rattle.vs_audit.proofs.Parts.{cluster_fails, sets_fails, buckets_fails, histories_fails, calls_fails, commands_fails, end_fails, nothing_fails, report_is}
use Rattle.vs_audit.proofs.read.read_report.Goals as goal

pub returns-in_err-size-clause-account : goal.returns-in_err-size-clause-account
returns-in_err-size-clause-account c =
    let p = err_from_is_err_and c.from_residual.result c.from_residual.ensures.1 in
    rw (p.1, p.2)
    (cluster_fails c.args.text.now c.of-lines.result c.in_err-size.field-0.0 c.of-lines.ensures c.in_err-size.ensures)

pub returns-in_err-sets-clause-account : goal.returns-in_err-sets-clause-account
returns-in_err-sets-clause-account c =
    let p = err_from_is_err_and c.from_residual-in_err-sets.result c.from_residual-in_err-sets.ensures.1 in
    rw (p.1, p.2)
    (sets_fails c.args.text.now c.of-lines.result c.in_ok-size.size c.cluster.new.lines c.in_err-sets.field-0.0 c.of-lines.ensures c.in_ok-size.ensures c.in_err-sets.ensures)

pub returns-in_err-buckets-clause-account : goal.returns-in_err-buckets-clause-account
returns-in_err-buckets-clause-account c =
    let p = err_from_is_err_and c.from_residual-in_err-buckets.result c.from_residual-in_err-buckets.ensures.1 in
    rw (p.1, p.2)
    (buckets_fails c.args.text.now c.of-lines.result c.in_ok-size.size c.cluster.new.lines c.in_ok-sets.ensures.0 c.sets.new.lines c.in_err-buckets.field-0.0 c.of-lines.ensures c.in_ok-size.ensures c.in_ok-sets.ensures.1 c.in_err-buckets.ensures)

pub returns-in_err-histories-clause-account : goal.returns-in_err-histories-clause-account
returns-in_err-histories-clause-account c =
    let p = err_from_is_err_and c.from_residual-in_err-histories.result c.from_residual-in_err-histories.ensures.1 in
    rw (p.1, p.2)
    (histories_fails c.args.text.now c.of-lines.result c.in_ok-size.size c.cluster.new.lines c.in_ok-sets.ensures.0 c.sets.new.lines c.in_ok-buckets.ensures.0 c.buckets.new.lines c.in_err-histories.field-0.0 c.of-lines.ensures c.in_ok-size.ensures c.in_ok-sets.ensures.1 c.in_ok-buckets.ensures.1 c.in_err-histories.ensures)

pub returns-in_err-calls-clause-account : goal.returns-in_err-calls-clause-account
returns-in_err-calls-clause-account c =
    let p = err_from_is_err_and c.from_residual-in_err-calls.result c.from_residual-in_err-calls.ensures.1 in
    rw (p.1, p.2)
    (calls_fails c.args.text.now c.of-lines.result c.in_ok-size.size c.cluster.new.lines c.in_ok-sets.ensures.0 c.sets.new.lines c.in_ok-buckets.ensures.0 c.buckets.new.lines (map history c.in_ok-histories.histories.items) c.histories.new.lines c.in_err-calls.field-0.0 c.of-lines.ensures c.in_ok-size.ensures c.in_ok-sets.ensures.1 c.in_ok-buckets.ensures.1 c.in_ok-histories.ensures c.in_err-calls.ensures.read)

pub returns-in_err-commands-clause-account : goal.returns-in_err-commands-clause-account
returns-in_err-commands-clause-account c =
    let p = err_from_is_err_and c.from_residual-in_err-commands.result c.from_residual-in_err-commands.ensures.1 in
    rw (p.1, p.2)
    (commands_fails c.args.text.now c.of-lines.result c.in_ok-size.size c.cluster.new.lines c.in_ok-sets.ensures.0 c.sets.new.lines c.in_ok-buckets.ensures.0 c.buckets.new.lines (map history c.in_ok-histories.histories.items) c.histories.new.lines (map call c.in_ok-calls.calls.items) c.calls.new.lines c.in_err-commands.field-0.0 c.of-lines.ensures c.in_ok-size.ensures c.in_ok-sets.ensures.1 c.in_ok-buckets.ensures.1 c.in_ok-histories.ensures c.in_ok-calls.ensures.read c.in_err-commands.ensures)

pub returns-in_err-end-clause-account : goal.returns-in_err-end-clause-account
returns-in_err-end-clause-account c =
    let p = err_from_is_err_and c.from_residual-in_err-end.result c.from_residual-in_err-end.ensures.1 in
    rw (p.1, p.2)
    (end_fails c.args.text.now c.of-lines.result c.in_ok-size.size c.cluster.new.lines c.in_ok-sets.ensures.0 c.sets.new.lines c.in_ok-buckets.ensures.0 c.buckets.new.lines (map history c.in_ok-histories.histories.items) c.histories.new.lines (map call c.in_ok-calls.calls.items) c.calls.new.lines c.in_ok-commands.ensures.0 c.commands.new.lines c.in_err-end.field-0.0 c.of-lines.ensures c.in_ok-size.ensures c.in_ok-sets.ensures.1 c.in_ok-buckets.ensures.1 c.in_ok-histories.ensures c.in_ok-calls.ensures.read c.in_ok-commands.ensures.1 c.in_err-end.ensures)

pub returns-in_err-end-2-clause-account : goal.returns-in_err-end-2-clause-account
returns-in_err-end-2-clause-account c =
    let p = err_from_is_err_and c.from_residual-in_err-end-2.result c.from_residual-in_err-end-2.ensures.1 in
    rw (p.1, p.2)
    (nothing_fails c.args.text.now c.of-lines.result c.in_ok-size.size c.cluster.new.lines c.in_ok-sets.ensures.0 c.sets.new.lines c.in_ok-buckets.ensures.0 c.buckets.new.lines (map history c.in_ok-histories.histories.items) c.histories.new.lines (map call c.in_ok-calls.calls.items) c.calls.new.lines c.in_ok-commands.ensures.0 c.commands.new.lines tt c.end.new.lines c.in_err-end-2.field-0.0 c.of-lines.ensures c.in_ok-size.ensures c.in_ok-sets.ensures.1 c.in_ok-buckets.ensures.1 c.in_ok-histories.ensures c.in_ok-calls.ensures.read c.in_ok-commands.ensures.1 c.in_ok-end.ensures c.in_err-end-2.ensures)

pub returns-clause-account : goal.returns-clause-account
returns-clause-account c = report_is c.args.text.now c.of-lines.result c.in_ok-size.size c.cluster.new.lines c.in_ok-sets.ensures.0 c.sets.new.lines c.in_ok-buckets.ensures.0 c.buckets.new.lines (map history c.in_ok-histories.histories.items) c.histories.new.lines (map call c.in_ok-calls.calls.items) c.calls.new.lines c.in_ok-commands.ensures.0 c.commands.new.lines tt c.end.new.lines c.of-lines.ensures c.in_ok-size.ensures c.in_ok-sets.ensures.1 c.in_ok-buckets.ensures.1 c.in_ok-histories.ensures c.in_ok-calls.ensures.read c.in_ok-commands.ensures.1 c.in_ok-end.ensures c.in_ok-end-2.ensures
