use Rattle.std.proofs.Common.{◌≡◌, ap, subst, ◌∙◌}
use Rattle.vs_rows.specs.Changes.{with_changes}
use Rattle.vs_rows.specs.Operations.{answers_to, rows_after}
use Rattle.vs_rows.specs.RowMap.{RowMap}
use Rattle.vs_core.proofs.Acting.{stored_is}
use Rattle.vs_core.proofs.keeping.keep_write.Goals as goal

pub run-requires-clause-answers : goal.run-requires-clause-answers
run-requires-clause-answers c =
    c.requires.staged.answers ∙ ap (λ (rows : RowMap). answers_to rows c.args.ops.items) (stored_is c.args.state.now c.args.set c.args.bucket)

pub run-requires-clause-changes : goal.run-requires-clause-changes
run-requires-clause-changes c =
    subst (λ (rows : RowMap). with_changes rows c.args.staged.changes.items ≡ rows_after rows c.args.ops.items) (stored_is c.args.state.now c.args.set c.args.bucket) c.requires.staged.changes

pub run-requires-clause-places : goal.run-requires-clause-places
run-requires-clause-places c = c.requires.staged.places
