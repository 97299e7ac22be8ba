use Rattle.std.proofs.Common.{rules}
use Rattle.vs_audit.proofs.Rows.{above_last}
use Rattle.vs_audit.proofs.answers.is_above.Goals as goal

pub returns-in-Some : goal.returns-in-Some
returns-in-Some c = above_last c.args.rows.now c.args.key.now c.in-Some.field-0.now c.lt.result c.requires (search rules) c.lt.ensures
