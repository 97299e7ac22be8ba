use Rattle.std.proofs.Common.{◌≡◌, ◌∙◌, ◌+◌, ◌++◌, ◌∷◌, [], ap, rules, None}
use Rattle.std.proofs.lemmas.List.{map-append}
use Rattle.std.proofs.lemmas.Result.{err_from_is_err_and}
use Rattle.vs_text.specs.Lines.{words_in}
use Rattle.vs_script.specs.Calls.{call, calls}
use Rattle.vs_script.specs.Lines.{call_of}
use Rattle.vs_script.proofs.Entries.{bad_line, entry_fails, fewer, none_left, one_more}
use Rattle.vs_script.proofs.read.read_calls.Goals as goal

pub returns-in_err-line : goal.returns-in_err-line
returns-in_err-line c =
    let p = err_from_is_err_and c.from_residual.result c.from_residual.ensures.1 in
    rw (p.1, p.2, c.loop-calls.invariant) (bad_line (call_of c.args.buckets) (c.loop-calls.lines.0 + 1) c.loop-calls.lines.1 (calls c.loop-calls.calls.items) c.in_err-line.field-0.0 c.in_err-line.ensures)

pub loop-calls-smaller : goal.loop-calls-smaller
loop-calls-smaller c =
    let first = rw c.in-Some.is at c.in_ok-line.ensures in
    fewer (c.loop-calls.lines.0 + 1) c.loop-calls.lines.1 (c.next.new.self.0, words_in c.in-Some.line.now, c.next.new.self.1) first

pub loop-calls-preserved : goal.loop-calls-preserved
loop-calls-preserved c =
    let first = rw c.in-Some.is at c.in_ok-line.ensures in
    let items : c.push.new.self.items ≡ c.loop-calls.calls.items ++ c.in-Ok.call ∷ [] = search rules in
    let pushed : calls c.push.new.self.items ≡ (calls c.loop-calls.calls.items) ++ (call c.in-Ok.call) ∷ [] = ap calls items ∙ map-append call c.loop-calls.calls.items (c.in-Ok.call ∷ []) in
    rw pushed (c.loop-calls.invariant ∙ one_more (call_of c.args.buckets) (c.loop-calls.lines.0 + 1) c.loop-calls.lines.1 (calls c.loop-calls.calls.items) c.next.new.self.0 (words_in c.in-Some.line.now) c.next.new.self.1 (call c.in-Ok.call) first c.in-Ok.ensures)

pub returns-in-Err : goal.returns-in-Err
returns-in-Err c =
    let first = rw c.in-Some.is at c.in_ok-line.ensures in
    rw (c.at.ensures, c.number.ensures, c.loop-calls.invariant) (entry_fails (call_of c.args.buckets) (c.loop-calls.lines.0 + 1) c.loop-calls.lines.1 (calls c.loop-calls.calls.items) c.next.new.self.0 (words_in c.in-Some.line.now) c.next.new.self.1 c.in-Err.fault first c.in-Err.ensures)

pub returns : goal.returns
returns c =
    let none : c.in_ok-line.field-0 ≡ None = search rules in
    let first = rw none at c.in_ok-line.ensures in
    c.loop-calls.invariant ∙ none_left (call_of c.args.buckets) (c.loop-calls.lines.0 + 1) c.loop-calls.lines.1 (calls c.loop-calls.calls.items) first
