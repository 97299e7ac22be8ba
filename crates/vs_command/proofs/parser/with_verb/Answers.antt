use Rattle.vs_command.proofs.Told.{verb_told}
use Rattle.vs_command.proofs.parser.with_verb.Goals as goal

pub returns : goal.returns
returns c = verb_told c.subcommand.result c.args.command c.in_ok-added.added c.args.verb c.in_ok-added.ensures c.subcommand.ensures
