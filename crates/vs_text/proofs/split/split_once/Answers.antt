use Rattle.std.proofs.Common.{sym}
use Rattle.std.specs.Prelude.{◌==◌}
use Rattle.vs_text.proofs.Splits.{first_of_parts, only_part, rest_whole}
use Rattle.vs_text.proofs.split.split_once.Goals as goal

pub returns-in-Some : goal.returns-in-Some
returns-in-Some c = rw (rest_whole c.args.text.now c.in-Some.end) (first_of_parts (λ b. b == c.args.byte) c.args.text.now c.in-Some.end (sym c.in-Some.ensures))

pub returns-in-None : goal.returns-in-None
returns-in-None c = only_part (λ b. b == c.args.byte) c.args.text.now (sym c.in-None.ensures)
