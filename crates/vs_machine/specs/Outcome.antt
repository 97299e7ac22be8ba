-- Why commands are refused.
use Rattle.std.specs.Prelude.{Option, Some, None}
use Rattle.vs_machine.specs.declared.outcome.CommandFault.{CommandFault}
use Rattle.vs_machine.specs.declared.outcome.CommandOutcome.{CommandOutcome}
use Rattle.vs_machine.specs.declared.outcome.CommandOutcome.TheVariants.{Refused}

abbrev pub fault_of : CommandOutcome → Option CommandFault
fault_of (Refused fault) = Some fault
fault_of outcome = None
