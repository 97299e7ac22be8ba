use Rattle.std.proofs.Common.{◌≡◌, ◌+◌, ◌++◌, map, length}
use Rattle.std.specs.Str.Lines.{lines}
use Rattle.vs_text.specs.Lines.{first_fault, numbered, seen}
use Rattle.vs_text.proofs.lines.cut_lines.Given as goal

abbrev pub invariant-loop-line : goal.invariant-loop-line
invariant-loop-line l = record {
  so_far : map seen l.cut.items ++ numbered (l.number + 1) (lines l.rest) ≡ numbered 1 (lines l.text);
  no_fault : first_fault (l.number + 1) (lines l.rest) ≡ first_fault 1 (lines l.text);
}

abbrev pub decreases-loop-line : goal.decreases-loop-line
decreases-loop-line l = length (lines l.rest)
