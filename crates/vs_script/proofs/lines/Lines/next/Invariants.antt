use Rattle.std.proofs.Common.{◌≡◌, ◌+◌, length}
use Rattle.std.specs.Str.Lines.{lines}
use Rattle.vs_script.specs.Reading.{first_entry}
use Rattle.vs_script.proofs.lines.Lines.next.Given as goal

abbrev pub invariant-loop-line : goal.invariant-loop-line
invariant-loop-line l =
    first_entry (l.self-inside.read + 1) (lines l.self-inside.rest.now) ≡ first_entry (l.fn.self.0 + 1) l.fn.self.1

abbrev pub decreases-loop-line : goal.decreases-loop-line
decreases-loop-line l = length (lines l.self-inside.rest.now)
