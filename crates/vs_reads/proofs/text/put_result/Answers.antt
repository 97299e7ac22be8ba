use Rattle.std.proofs.Common.{◌-◌, ◌<◌, ◌∙◌, ap, arith, length, sym}
use Rattle.vs_rows.specs.Operations.{answers_to}
use Rattle.vs_rows.specs.RowMap.{RowMap}
use Rattle.vs_rows.specs.Said.{said_all}
use Rattle.vs_reads.proofs.Served.{rows_found, text_after}
use Rattle.vs_reads.proofs.text.put_result.Goals as goal

pub returns-in_ok-answers-in-Closed : goal.returns-in_ok-answers-in-Closed
returns-in_ok-answers-in-Closed c =
    let maps = c.args.maps.now in
    let job = c.args.job.now in
    let within : c.get.result - 1 < length maps = omega (arith, c.requires.within, c.get.ensures.value, c.get.ensures.range) in
    let rows = rows_found maps job.bucket c.get.result c.index-maps-get.result c.get.ensures.value within c.index-maps-get.is in
    let same = ap said_all c.as_slice-in-Closed.ensures ∙ (c.in_ok-answers-in-Closed.ensures ∙ ap (λ (m : RowMap). answers_to m job.ops.items) (sym rows)) in
    text_after _ c.args.out.now.items c.push.new.self.items c.put_answers-in-Closed.new.out.items _ _ c.in_ok-push.ensures.items same c.put_answers-in-Closed.ensures
