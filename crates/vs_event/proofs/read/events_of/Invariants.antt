use Rattle.std.proofs.Common.{◌≡◌, ◌++◌, length}
use Rattle.vs_text.specs.Split.{lines_of}
use Rattle.vs_event.specs.Event.{AreEvents, events_text}
use Rattle.vs_event.proofs.read.events_of.Given as goal

abbrev pub invariant-loop-line : goal.invariant-loop-line
invariant-loop-line l = record {
  are_events : AreEvents l.trace.items;
  so_far : l.text ≡ events_text l.trace.items ++ l.rest;
}

abbrev pub decreases-loop-line : goal.decreases-loop-line
decreases-loop-line l = length (lines_of l.rest)
