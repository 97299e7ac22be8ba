use Rattle.std.proofs.Common.{true, ap, ◌∙◌}
use Rattle.clap.specs.Simple.{app_of_fields, on_top}
use Rattle.clap.specs.declared.builder.command.Command.{Command}
use Rattle.clap.specs.declared.builder.command.Command.TheOpen.{Command-F}
use Rattle.vs_command.specs.Parser.{with_settings}
use Rattle.vs_command.proofs.parser.no_verbs.Goals as goal

pub returns : goal.returns
returns c =
    ap app_of_fields (c.subcommand_required.ensures
    ∙ ap (λ (f : Command-F Command). record f { subcommand_required = true }) (c.disable_help_subcommand.ensures
    ∙ ap (λ (f : Command-F Command). record f { disable_help_subcommand = true }) (c.disable_help_flag.ensures
    ∙ ap (λ (f : Command-F Command). record f { disable_help_flag = true }) c.no_binary_name.ensures)))
    ∙ ap (on_top with_settings) c.new.ensures.app
