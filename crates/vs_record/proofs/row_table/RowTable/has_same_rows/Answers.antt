use Rattle.std.proofs.Common.{◌∙◌, sym}
use Rattle.vs_record.proofs.States.{no_rows}
use Rattle.vs_record.proofs.row_table.RowTable.has_same_rows.Goals as goal

pub returns-in-Some-get-clause-outside : goal.returns-in-Some-get-clause-outside
returns-in-Some-get-clause-outside c b no_bucket = no_rows c.args.self.now b c.get.ensures.ids no_bucket ∙ sym (no_rows c.args.other.now b c.get-in-Some.ensures.ids no_bucket)

pub returns-in-None-get-clause-outside : goal.returns-in-None-get-clause-outside
returns-in-None-get-clause-outside c b no_bucket = no_rows c.args.self.now b c.get.ensures.ids no_bucket ∙ sym (no_rows c.args.other.now b c.get-in-Some.ensures.ids no_bucket)

pub returns-in-Some-get-2-clause-outside : goal.returns-in-Some-get-2-clause-outside
returns-in-Some-get-2-clause-outside c b no_bucket = no_rows c.args.self.now b c.get.ensures.ids no_bucket ∙ sym (no_rows c.args.other.now b c.get-in-None.ensures.ids no_bucket)

pub returns-in-None-get-2-clause-outside : goal.returns-in-None-get-2-clause-outside
returns-in-None-get-2-clause-outside c b no_bucket = no_rows c.args.self.now b c.get.ensures.ids no_bucket ∙ sym (no_rows c.args.other.now b c.get-in-None.ensures.ids no_bucket)
