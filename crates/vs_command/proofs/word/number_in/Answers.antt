use Rattle.std.proofs.Common.{ap, ◌∙◌}
use Rattle.vs_command.specs.Word.{number_in}
use Rattle.vs_command.proofs.Numbers.{number_is}
use Rattle.vs_command.proofs.word.number_in.Goals as goal

pub returns : goal.returns
returns c = number_is c.number.result c.as_bytes.result.now c.number.ensures.value ∙ ap number_in c.as_bytes.ensures.value
