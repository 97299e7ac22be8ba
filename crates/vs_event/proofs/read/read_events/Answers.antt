use Rattle.vs_event.proofs.EventsText.{spelled_is_read}
use Rattle.vs_event.proofs.read.read_events.Goals as goal

pub returns-clause-again : goal.returns-clause-again
returns-clause-again c = spelled_is_read c.args.text.now c.events_of.result c.events_of.ensures.found c.events_of.ensures.bad
