use Rattle.std.proofs.Common.{ℕ, ◌+◌, refl}
use Rattle.std.proofs.lemmas.Result.{err_from_is_err_and}
use Rattle.vs_audit.specs.Account.{Entry, entry, entries}
use Rattle.vs_audit.specs.Report.{entry_at, entries_at}
use Rattle.vs_audit.proofs.Faults.{line_fails}
use Rattle.vs_audit.proofs.Lists.{grow, map_more, many_more, left_end}
use Rattle.vs_audit.proofs.histories.entries.Goals as goal

abbrev same : ℕ → Entry → ℕ
same n _ = n

pub returns-in_err-entry : goal.returns-in_err-entry
returns-in_err-entry c =
    let p = err_from_is_err_and c.from_residual.result c.from_residual.ensures.1 in
    rw (p.1, p.2)
    (line_fails (entry_at c.args.name.now) same (entries_at c.args.name.now c.args.count c.args.lines.now) (entries c.loop-n.entries.items) c.args.count c.loop-n.n 0 c.loop-n.lines c.in_err-entry.field-0.0 c.loop-n-test.true c.loop-n.invariant (c.in_err-entry.ensures 0))

pub loop-n-preserved : goal.loop-n-preserved
loop-n-preserved c =
    let added = grow c.loop-n.entries.items c.reserve.new.self.items c.push.new.self.items c.in_ok-entry.entry c.push.ensures.items c.reserve.ensures.items in
    many_more (entry_at c.args.name.now) same (entries_at c.args.name.now c.args.count c.args.lines.now) (entries c.loop-n.entries.items) (entries c.push.new.self.items) c.args.count c.loop-n.n (c.loop-n.n + 1) 0 0 c.loop-n.lines c.entry.new.lines (entry c.in_ok-entry.entry)
    c.loop-n-test.true (map_more entry c.loop-n.entries.items c.push.new.self.items c.in_ok-entry.entry added) refl refl c.loop-n.invariant (c.in_ok-entry.ensures 0)

pub returns : goal.returns
returns c = left_end (entry_at c.args.name.now) same (entries_at c.args.name.now c.args.count c.args.lines.now) (entries c.loop-n.entries.items) c.args.count c.loop-n.n 0 c.loop-n.lines c.loop-n-test.false c.loop-n.invariant
