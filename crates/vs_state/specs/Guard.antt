-- Whether an event can happen.
use Rattle.std.specs.Prelude.{Result, Ok, Err}
use Rattle.vs_event.specs.declared.reason.Reason.{Reason}
use Rattle.vs_machine.specs.State.{State}

-- nothing where the step is possible, else why it isn't
abbrev pub verdict : Result State Reason → Result (Unit {0}) Reason
verdict (Ok next) = Ok tt
verdict (Err reason) = Err reason
