use Rattle.std.proofs.Common.{arith}
use Rattle.vs_base.specs.Numbers.{IsSetNo}
use Rattle.vs_event.proofs.Spaces.{last_number}
use Rattle.vs_event.proofs.fields.last_set.Goals as goal

pub returns : goal.returns
returns c = last_number IsSetNo (λ n range. omega (arith, range.1)) c.args.words.now c.set.result c.set.ensures
