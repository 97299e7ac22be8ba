use Rattle.std.proofs.Common.{◌≡◌, ◌+◌, ◌-◌, ◌≤◌, length}
use Rattle.std.specs.List.{All}
use Rattle.std.specs.Str.Lines.{lines}
use Rattle.vs_plan.specs.Reading.{counts_in}
use Rattle.vs_plan.proofs.CountLines.{after}
use Rattle.vs_plan.proofs.counts.counts_of_lines.Given as goal

abbrev pub invariant-loop-line : goal.invariant-loop-line
invariant-loop-line l = record {
  all :
      counts_in 1 l.sets (lines l.text)
      ≡ after l.counts.items (counts_in (l.number + 1) (l.sets - length l.counts.items) (lines l.rest));
  within : length l.counts.items ≤ l.sets;
  pinned : All (λ c. c.pinned ≤ c.count) l.counts.items;
}

abbrev pub decreases-loop-line : goal.decreases-loop-line
decreases-loop-line l = length (lines l.rest)
