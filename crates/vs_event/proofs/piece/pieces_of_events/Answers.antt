use Rattle.vs_event.proofs.Joined.{pieces_are_text}
use Rattle.vs_event.proofs.piece.pieces_of_events.Goals as goal

pub returns : goal.returns
returns c = pieces_are_text
