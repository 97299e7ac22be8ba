use Rattle.vs_machine.proofs.Replied.{replied_calls}
use Rattle.vs_machine.proofs.Spent.{spent_calls, moved_calls}
use Rattle.vs_machine.proofs.Taken.{whole_calls, one_outcome}
use Rattle.vs_machine.proofs.laws.answered_calls.Goals as goal

pub returns : goal.returns
returns c = record { whole = whole_calls; one = one_outcome; replied = replied_calls; spent = spent_calls; moved = moved_calls }
