use Rattle.std.proofs.Common.{◌≡◌, take}
use Rattle.vs_event.specs.Event.{AreEvents, events_text}
use Rattle.vs_event.proofs.write.write_events.Given as goal

abbrev pub invariant-loop-event : goal.invariant-loop-event
invariant-loop-event l = record {
  so_far : l.out.items ≡ events_text (take l.event-index l.event-items);
  are_events : AreEvents (take l.event-index l.event-items);
}
