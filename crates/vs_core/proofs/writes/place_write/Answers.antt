use Rattle.std.proofs.Common.{◌≡◌, ◌-◌, sym, ap, ◌∙◌}
use Rattle.vs_rows.specs.Said.{said_all}
use Rattle.vs_history.specs.History.{History, with_write}
use Rattle.vs_machine.specs.State as machine
use Rattle.vs_state.specs.Plain.{plain}
use Rattle.vs_core.proofs.Histories.{IsHistory, history_of, history_is, history_written}
use Rattle.vs_core.proofs.writes.place_write.Goals as goal

pub returns-clause-joins : goal.returns-clause-joins
returns-clause-joins c =
    let s = c.args.state.now in
    let b = c.args.bucket in
    let o : IsHistory s b (c.get.result - 1) c.index_mut.result.now = history_of s b c.get.result c.index_mut.result.now c.requires.bucket c.requires.sound.sized c.get.ensures.value c.index_mut.ensures.value in
    let same : _ ≡ _ = history_is s b _ c.index_mut.result.now c.place_write.new.self o in
    history_written s b _ c.index_mut.result.now c.place_write.new.self o
    ∙ ap (λ (h : History). machine.put_bucket (plain s) b (record ((plain s).bucket b) { history = h })) (c.place_write.ensures.joins ∙ ap (λ (h : History). with_write h c.args.id c.args.ops.items (said_all c.args.answers.items)) (sym same))
