use Rattle.std.proofs.Common.{ap, ◌∙◌}
use Rattle.clap.specs.Words.{App, app_of, new_app, rule_of, with_rule}
use Rattle.vs_command.proofs.Told.{line_told}
use Rattle.vs_command.proofs.parser.verb_command.Goals as goal

pub returns : goal.returns
returns c =
    let first = c.in_ok-command.ensures.shape c.needed.ensures.local ∙ ap (λ (a : App). with_rule a (rule_of c.needed.result)) (c.new.ensures.app ∙ ap new_app c.name.ensures) in
    line_told c.with_arg_if-2.result c.args.verb (app_of c.in_ok-command.command) (app_of c.in_ok-command-2.command)
    (rule_of c.needed.result) (rule_of c.needed-2.result) (rule_of c.files.result) c.takes_second.result c.takes_files.result
    first c.needed.ensures.rule c.in_ok-command-2.ensures c.takes_second.ensures c.needed-2.ensures.rule
    c.with_arg_if-2.ensures c.takes_files.ensures c.files.ensures.rule
