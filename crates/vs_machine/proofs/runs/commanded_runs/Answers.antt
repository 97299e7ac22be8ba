use Rattle.std.proofs.Common.{refl}
use Rattle.vs_machine.proofs.runs.commanded_runs.Goals as goal

pub returns : goal.returns
returns c = record {
  commanded = refl;
  locked = record { locked_receiver = refl; locked_sender = refl; too_many = refl };
}
