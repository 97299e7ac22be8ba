use Rattle.std.proofs.Common.{arith}
use Rattle.vs_base.specs.Numbers.{IsOpNo}
use Rattle.vs_event.proofs.Spaces.{last_number}
use Rattle.vs_event.proofs.fields.last_operator.Goals as goal

pub returns : goal.returns
returns c = last_number IsOpNo (λ n range. omega (arith, range.1)) c.args.words.now c.operator.result c.operator.ensures
