use Rattle.std.proofs.Common.{◌≡◌, ℕ, ◌+◌, ◌-◌, true, false, map, refl, sym, ◌∙◌}
use Rattle.std.specs.Prelude.{codes}
use Rattle.std.proofs.lemmas.Result.{err_from_is_err_and}
use Rattle.vs_audit.specs.Account.{History, history}
use Rattle.vs_audit.specs.Report.{begins, history_at, histories_at}
use Rattle.vs_audit.proofs.Faults.{begun_fails}
use Rattle.vs_audit.proofs.Lists.{grow, map_more, all_end, begun_more, begun_full}
use Rattle.vs_audit.proofs.histories.histories.Goals as goal

abbrev next : ℕ → History → ℕ
next _ h = h.bucket

pub returns-then-not-begin : goal.returns-then-not-begin
returns-then-not-begin c =
    let ended : begins (codes "history") c.loop-n.lines ≡ false = sym c.begin.ensures ∙ c.if-not-begin.true in
    all_end (history_at c.args.buckets) next (begins (codes "history")) (histories_at c.args.buckets c.args.lines.now) (map history c.loop-n.histories.items) (c.args.buckets - c.loop-n.n) c.loop-n.last c.loop-n.lines c.loop-n.invariant ended

pub returns-in_err-history : goal.returns-in_err-history
returns-in_err-history c =
    let begun : begins (codes "history") c.loop-n.lines ≡ true = sym c.begin.ensures ∙ c.if-not-begin.false in
    let p = err_from_is_err_and c.from_residual.result c.from_residual.ensures.1 in
    rw (p.1, p.2)
    (begun_fails (history_at c.args.buckets) next (begins (codes "history")) (histories_at c.args.buckets c.args.lines.now) (map history c.loop-n.histories.items) c.args.buckets c.loop-n.n c.loop-n.last c.loop-n.lines c.in_err-history.field-0.0 c.loop-n-test.true c.loop-n.invariant begun c.in_err-history.ensures)

pub loop-n-preserved : goal.loop-n-preserved
loop-n-preserved c =
    let begun : begins (codes "history") c.loop-n.lines ≡ true = sym c.begin.ensures ∙ c.if-not-begin.false in
    let added = grow c.loop-n.histories.items c.reserve.new.self.items c.push.new.self.items c.in_ok-history.history c.push.ensures.items c.reserve.ensures.items in
    begun_more (history_at c.args.buckets) next (begins (codes "history")) (histories_at c.args.buckets c.args.lines.now) (map history c.loop-n.histories.items) (map history c.push.new.self.items) c.args.buckets c.loop-n.n (c.loop-n.n + 1) c.loop-n.last c.get-last.result c.loop-n.lines c.history.new.lines (history c.in_ok-history.history)
    c.loop-n-test.true (map_more history c.loop-n.histories.items c.push.new.self.items c.in_ok-history.history added) refl c.get-last.ensures.value c.loop-n.invariant begun c.in_ok-history.ensures

pub returns : goal.returns
returns c = begun_full (history_at c.args.buckets) next (begins (codes "history")) (histories_at c.args.buckets c.args.lines.now) (map history c.loop-n.histories.items) c.args.buckets c.loop-n.n c.loop-n.last c.loop-n.lines c.loop-n-test.false c.loop-n.invariant
