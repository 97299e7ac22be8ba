use Rattle.std.proofs.Common.{◌≡◌, ◌+◌, take}
use Rattle.vs_plan.specs.Reading.{total}
use Rattle.vs_plan.proofs.counts.are_few.Given as goal

abbrev pub invariant-loop-count : goal.invariant-loop-count
invariant-loop-count l = total (take l.count-index l.counts) + l.left ≡ 30000
