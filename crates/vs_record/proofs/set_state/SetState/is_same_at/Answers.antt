use Rattle.std.proofs.Common.{◌∙◌, sym}
use Rattle.vs_record.proofs.States.{no_entry}
use Rattle.vs_record.proofs.set_state.SetState.is_same_at.Goals as goal

pub returns-then-same_rows-clause-outside : goal.returns-then-same_rows-clause-outside
returns-then-same_rows-clause-outside c b no_bucket = record {
  entry = no_entry c.args.self.now.space.entries b c.get-entry.ensures.order no_bucket ∙ sym (no_entry c.args.other.now.space.entries b c.get-other_entry.ensures.order no_bucket);
  rows = c.has_same_rows-same_rows.ensures.outside b no_bucket;
}

pub returns-else-same_rows-clause-outside : goal.returns-else-same_rows-clause-outside
returns-else-same_rows-clause-outside c b no_bucket = record {
  entry = no_entry c.args.self.now.space.entries b c.get-entry.ensures.order no_bucket ∙ sym (no_entry c.args.other.now.space.entries b c.get-other_entry.ensures.order no_bucket);
  rows = c.has_same_rows-same_rows.ensures.outside b no_bucket;
}
