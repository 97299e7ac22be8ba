use Rattle.std.proofs.Common.{◌≡◌, ◌+◌, length}
use Rattle.vs_script.specs.Lines.{command_of}
use Rattle.vs_script.specs.Reading.{entries_of}
use Rattle.vs_script.proofs.Entries.{after}
use Rattle.vs_script.proofs.read.read_commands.Given as goal

abbrev pub invariant-loop-commands : goal.invariant-loop-commands
invariant-loop-commands l =
    entries_of (command_of l.buckets l.sets) (l.fn.lines.0 + 1) l.fn.lines.1
    ≡ after l.commands.items (entries_of (command_of l.buckets l.sets) (l.lines.0 + 1) l.lines.1)

abbrev pub decreases-loop-commands : goal.decreases-loop-commands
decreases-loop-commands l = length l.lines.1
