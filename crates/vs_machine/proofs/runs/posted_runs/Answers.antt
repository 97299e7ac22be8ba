use Rattle.std.proofs.Common.{refl}
use Rattle.vs_machine.proofs.runs.posted_runs.Goals as goal

pub returns : goal.returns
returns c = record { replied = refl; refused = refl; further = refl; first = refl; hinted = refl; granted = refl; again = refl; once = refl }
