use Rattle.std.proofs.Common.{◌≡◌, ℕ, Some, None, arith, subst}
use Rattle.std.proofs.lemmas.List.Elements.{All-more}
use Rattle.vs_send.specs.declared.transfer.Transfer.{Transfer}
use Rattle.vs_state.specs.declared.state.State as tables
use Rattle.vs_state.specs.Tables.{numbered}
use Rattle.vs_core.specs.Core.{means}
use Rattle.vs_choose.specs.Mover.{HasNoMove}
use Rattle.vs_choose.proofs.Movers.{table_moves}
use Rattle.vs_choose.proofs.mover.next_move.Goals as goal

pub loop-entry-preserved : goal.loop-entry-preserved
loop-entry-preserved c =
    let P : ℕ × Transfer → Type 0 = λ e. HasNoMove (means c.args.core.now) c.args.set e.0 in
    All-more P c.entries-entry-items.result.now c.loop-entry.entry-index c.entry-item.result (omega arith) c.loop-entry.invariant
    (subst P c.entry-item.is c.in_default.ensures.none)

pub returns-clause-none : goal.returns-clause-none
returns-clause-none c =
    let t = c.in_ok-tables.tables.now in
    let there = subst (λ (st : tables.State). Some t ≡ numbered Some None st.sets.items c.args.set) c.state.ensures.value c.in_ok-tables.ensures in
    table_moves c.args.core.now.state c.args.set t c.entries-entry-items.result.now c.loop-entry.entry-index there c.entries-entry-items.ensures.all
    (omega arith) c.loop-entry.invariant
