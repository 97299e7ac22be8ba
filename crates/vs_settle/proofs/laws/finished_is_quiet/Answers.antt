use Rattle.vs_settle.proofs.Quiet.{quiet_runs}
use Rattle.vs_settle.proofs.laws.finished_is_quiet.Goals as goal

pub returns : goal.returns
returns c = quiet_runs c.every_event.ensures.reaches c.every_event.ensures.whole c.due_answers.ensures.posted c.due_answers.ensures.begun
