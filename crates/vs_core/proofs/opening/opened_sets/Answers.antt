use Rattle.std.proofs.Common.{◌++◌, ◌∷◌, [], List, sym, subst}
use Rattle.vs_state.specs.declared.tables.SetTables.{SetTables}
use Rattle.vs_core.specs.Opening.{AreOpenedSets}
use Rattle.vs_core.proofs.Opened.{one_more_opened}
use Rattle.vs_core.proofs.opening.opened_sets.Goals as goal

pub loop-state-preserved : goal.loop-state-preserved
loop-state-preserved c =
    let d = c.in-Some.state in
    let t = c.in_ok-opened_set.field-0 in
    subst (λ (ts : List SetTables). AreOpenedSets (c.loop-state.yielded ++ d ∷ []) ts) (sym {A = List SetTables} c.in_ok-push.ensures.items)
    (one_more_opened d t c.loop-state.yielded c.loop-state.sets.items c.loop-state.invariant c.in_ok-opened_set.ensures)
