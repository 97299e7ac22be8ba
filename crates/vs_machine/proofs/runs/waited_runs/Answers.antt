use Rattle.std.proofs.Common.{refl}
use Rattle.std.specs.Fmt.{digits}
use Rattle.vs_machine.proofs.runs.waited_runs.Goals as goal

pub returns : goal.returns
unfolding digits
returns c = record { freeze = refl; turn_257 = refl; early = refl; given_up = refl }
