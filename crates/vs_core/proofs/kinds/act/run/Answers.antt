use Rattle.std.proofs.Common.{sym, ap, ◌∙◌}
use Rattle.vs_rows.specs.Operations.{answers_to, rows_after}
use Rattle.vs_rows.specs.Said.{said_all}
use Rattle.vs_rows.specs.Changes.{with_changes}
use Rattle.vs_history.specs.History.{with_read, with_write}
use Rattle.vs_machine.specs.Kinds.Calls as kinds
use Rattle.vs_machine.specs.State as machine
use Rattle.vs_state.specs.Plain.{plain}
use Rattle.vs_core.proofs.Acting.{twice, write_mode}
use Rattle.vs_core.proofs.kinds.act.run.Goals as goal

pub returns-in-Ro-clause-ran : goal.returns-in-Ro-clause-ran
returns-in-Ro-clause-ran c =
    let s = plain c.args.state.now in
    let b = c.args.bucket in
    let old = s.bucket b in
    c.place_read.ensures.joins
    ∙ ap (λ a. machine.put_bucket s b (record old { history = with_read old.history c.args.id c.args.ops.items a c.place_at-place.result })) c.requires.answers
    ∙ ap (λ p. machine.put_bucket s b (record old { history = with_read old.history c.args.id c.args.ops.items (answers_to (old.rows c.args.set) c.args.ops.items) p })) c.place_at-place.ensures
    ∙ ap (λ m. machine.put_bucket s b (kinds.bucket_after old c.args.set c.args.id m c.args.ops.items)) (sym c.in-Ro.is)

pub returns-clause-ran : goal.returns-clause-ran
returns-clause-ran c =
    let s = plain c.args.state.now in
    let b = c.args.bucket in
    let old = s.bucket b in
    let id = c.args.id in
    let ops = c.args.ops.items in
    let joined : machine.Bucket → machine.Bucket = λ v. record v { history = with_write v.history id ops (said_all c.args.answers.items) } in
    c.place_write.ensures.joins
    ∙ ap (λ t. machine.put_bucket t b (joined (t.bucket b))) c.write_rows.ensures.rows
    ∙ twice s b (machine.put_rows old c.args.set (with_changes (old.rows c.args.set) c.args.changes.items)) joined
    ∙ ap (λ rows. machine.put_bucket s b (joined (machine.put_rows old c.args.set rows))) c.requires.changes
    ∙ ap (λ a. machine.put_bucket s b (record (machine.put_rows old c.args.set (rows_after (old.rows c.args.set) ops)) { history = with_write old.history id ops a })) c.requires.answers
    ∙ ap (λ m. machine.put_bucket s b (kinds.bucket_after old c.args.set id m ops)) (sym (write_mode c.args.mode c.in_default.not-Ro))
