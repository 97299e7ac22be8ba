use Rattle.vs_machine.proofs.Five.{five_event_runs}
use Rattle.vs_machine.proofs.laws.five_events.Goals as goal

pub returns : goal.returns
returns c = five_event_runs
