use Rattle.vs_command.proofs.Told.{arg_told}
use Rattle.vs_command.proofs.parser.with_arg_if.Goals as goal

pub returns-then-holds : goal.returns-then-holds
returns-then-holds c = arg_told _ _ _ _ c.if-holds.true c.requires c.arg.ensures
