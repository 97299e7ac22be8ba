use Rattle.std.proofs.Common.{◌≡◌, ◌+◌, ◌<◌, ◌++◌, ◌∷◌, [], length, arith}
use Rattle.vs_plan.proofs.CountLines.{pushed, pushed_within, pushed_pinned}
use Rattle.vs_plan.proofs.counts.counts_of_lines.Goals as goal

pub loop-line-preserved-in_ok-reserve : goal.loop-line-preserved-in_ok-reserve
loop-line-preserved-in_ok-reserve c =
    let inv = c.loop-line.invariant in
    let count = c.in-Some-2.count in
    let given = c.in_ok-count.field-0 in
    let items : c.push.new.self.items ≡ c.loop-line.counts.items ++ count ∷ [] = cc in
    let room : length c.loop-line.counts.items < c.args.sets = omega arith in
    record {
      all = pushed _ c.args.sets (c.loop-line.number + 1) c.loop-line.counts.items c.push.new.self.items c.in-Some.line.now _ _ given count inv.all c.in-Some.ensures room c.in_ok-count.ensures.value c.in-Some-2.is items;
      within = pushed_within c.args.sets c.loop-line.counts.items c.push.new.self.items count room items;
      pinned = pushed_pinned c.loop-line.counts.items c.push.new.self.items given count inv.pinned c.in_ok-count.ensures.pinned c.in-Some-2.is items;
    }
