use Rattle.std.proofs.Common.{◌≡◌, ◌≤◌, ◌+◌, length, take}
use Rattle.vs_event.specs.Event.{events_text}
use Rattle.vs_event.specs.Pieces.{piece_limit}
use Rattle.vs_event.proofs.piece.write_piece.Given as goal

abbrev pub invariant-loop-event : goal.invariant-loop-event
invariant-loop-event l = record {
  next : l.next ≡ l.from + l.event-index;
  text : l.into ≡ events_text (take l.event-index l.event-items);
  fits : length l.into ≤ piece_limit;
}
