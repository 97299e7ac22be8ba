use Rattle.std.proofs.Common.{sym, ◌∙◌}
use Rattle.vs_command.specs.Line.{line}
use Rattle.vs_command.proofs.Asked.{built_verb, is_built}
use Rattle.vs_command.proofs.read.built_command.Goals as goal

pub returns-then-has : goal.returns-then-has
returns-then-has c = record {
  read = is_built c.args.verbs (line c.args.line) _ (sym c.has.ensures ∙ c.if-has.true) c.command_of_line.ensures;
  built = built_verb c.args.verbs (line c.args.line) c.command_of_line.result (sym c.has.ensures ∙ c.if-has.true) c.command_of_line.ensures;
}
