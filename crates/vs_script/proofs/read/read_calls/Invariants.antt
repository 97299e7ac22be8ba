use Rattle.std.proofs.Common.{◌≡◌, ◌+◌, length}
use Rattle.vs_script.specs.Calls.{calls}
use Rattle.vs_script.specs.Lines.{call_of}
use Rattle.vs_script.specs.Reading.{entries_of}
use Rattle.vs_script.proofs.Entries.{after}
use Rattle.vs_script.proofs.read.read_calls.Given as goal

abbrev pub invariant-loop-calls : goal.invariant-loop-calls
invariant-loop-calls l =
    entries_of (call_of l.buckets) (l.fn.lines.0 + 1) l.fn.lines.1
    ≡ after (calls l.calls.items) (entries_of (call_of l.buckets) (l.lines.0 + 1) l.lines.1)

abbrev pub decreases-loop-calls : goal.decreases-loop-calls
decreases-loop-calls l = length l.lines.1
