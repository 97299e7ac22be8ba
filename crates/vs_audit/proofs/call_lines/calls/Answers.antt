use Rattle.std.proofs.Common.{◌≡◌, ℕ, ◌-◌, ◌<◌, true, false, map, length, sym, ◌∙◌, arith}
use Rattle.std.specs.Prelude.{codes}
use Rattle.std.proofs.lemmas.Result.{err_from_is_err_and}
use Rattle.vs_audit.specs.Account.{Call, call}
use Rattle.vs_audit.specs.Legal.{number_of}
use Rattle.vs_audit.specs.Report.{begins, call_at, calls_at}
use Rattle.vs_audit.specs.ReportLines.{call_line}
use Rattle.vs_audit.proofs.Faults.{begun_fails}
use Rattle.vs_audit.proofs.LineEnds.{begins_within, line_less}
use Rattle.vs_audit.proofs.Lists.{grow, map_more, length_more, all_end, begun_more}
use Rattle.vs_audit.proofs.Rising.{rise_with}
use Rattle.vs_audit.proofs.call_lines.calls.Goals as goal

abbrev next : ℕ → Call → ℕ
next _ c = number_of c.id

pub returns-in_err-call-clause-read : goal.returns-in_err-call-clause-read
returns-in_err-call-clause-read c =
    let begun : begins (codes "call") c.loop-alloc.lines ≡ true = sym c.begin.ensures ∙ c.loop-alloc-test.true in
    let within : length c.loop-alloc.calls.items < length c.args.lines.now.lines = omega (arith, c.loop-alloc.invariant.fewer, begins_within (codes "call") c.loop-alloc.lines begun) in
    let p = err_from_is_err_and c.from_residual.result c.from_residual.ensures.1 in
    rw (p.1, p.2)
    (begun_fails (call_at c.args.sets) next (begins (codes "call")) (calls_at c.args.sets c.args.lines.now) (map call c.loop-alloc.calls.items) (length c.args.lines.now.lines) (length c.loop-alloc.calls.items) c.loop-alloc.last c.loop-alloc.lines c.in_err-call.field-0.0 within c.loop-alloc.invariant.so_far begun c.in_err-call.ensures.read)

pub loop-alloc-preserved : goal.loop-alloc-preserved
loop-alloc-preserved c =
    let begun : begins (codes "call") c.loop-alloc.lines ≡ true = sym c.begin.ensures ∙ c.loop-alloc-test.true in
    let within : length c.loop-alloc.calls.items < length c.args.lines.now.lines = omega (arith, c.loop-alloc.invariant.fewer, begins_within (codes "call") c.loop-alloc.lines begun) in
    let less = line_less (call_line c.args.sets c.loop-alloc.last) c.loop-alloc.lines c.call.new.lines (call c.in_ok-call.call) c.in_ok-call.ensures.read in
    let added = grow c.loop-alloc.calls.items c.reserve.new.self.items c.push.new.self.items c.in_ok-call.call c.push.ensures.items c.reserve.ensures.items in
    let longer = length_more c.loop-alloc.calls.items c.push.new.self.items c.in_ok-call.call added in
    let called = map_more call c.loop-alloc.calls.items c.push.new.self.items c.in_ok-call.call added in
    record {
      so_far = begun_more (call_at c.args.sets) next (begins (codes "call")) (calls_at c.args.sets c.args.lines.now) (map call c.loop-alloc.calls.items) (map call c.push.new.self.items) (length c.args.lines.now.lines) (length c.loop-alloc.calls.items) (length c.push.new.self.items) c.loop-alloc.last c.number_of-last.result c.loop-alloc.lines c.call.new.lines (call c.in_ok-call.call)
          within called longer c.number_of-last.ensures.value c.loop-alloc.invariant.so_far begun c.in_ok-call.ensures.read;
      fewer = omega (arith, c.loop-alloc.invariant.fewer, less, longer);
      rises = rise_with (map call c.loop-alloc.calls.items) (map call c.push.new.self.items) c.loop-alloc.last c.number_of-last.result (call c.in_ok-call.call) called c.number_of-last.ensures.value c.loop-alloc.invariant.rises c.in_ok-call.ensures.above;
    }

pub returns-clause-read : goal.returns-clause-read
returns-clause-read c =
    let ended : begins (codes "call") c.loop-alloc.lines ≡ false = sym c.begin.ensures ∙ c.loop-alloc-test.false in
    all_end (call_at c.args.sets) next (begins (codes "call")) (calls_at c.args.sets c.args.lines.now) (map call c.loop-alloc.calls.items) (length c.args.lines.now.lines - length c.loop-alloc.calls.items) c.loop-alloc.last c.loop-alloc.lines c.loop-alloc.invariant.so_far ended
