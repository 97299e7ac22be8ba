use Rattle.std.proofs.Common.{◌-◌, ap, ◌∙◌}
use Rattle.std.specs.Prelude.{◌&&◌}
use Rattle.vs_calls.specs.Progress.{Progress, cut, is_held}
use Rattle.vs_machine.specs.State as machine
use Rattle.vs_state.specs.declared.actors.ClientTables.{ClientTables}
use Rattle.vs_state.specs.Plain.{client}
use Rattle.vs_core.proofs.Clients.{IsClient, client_of, progress_written, sound_with}
use Rattle.vs_core.proofs.Stages.{cut_holds, cut_set}
use Rattle.vs_core.proofs.kinds.cut.cut_present.Goals as goal

here : (c : goal.After-state-1) → IsClient c.args.state.now c.args.client (c.from.result - 1) c.index_mut.result.now
here c = client_of c.args.state.now c.args.client c.from.result c.index_mut.result.now c.requires.client (c.from.ensures ∙ c.get.ensures.value) c.index_mut.ensures.value

abbrev after : (c : goal.After-state-1) → ClientTables
after c = record c.index_mut.result.now { present = c.cut.new.self }

pub returns-clause-cut : goal.returns-clause-cut
returns-clause-cut c = progress_written c.args.state.now c.args.client _ c.index_mut.result.now (after c) (here c) cut (ap (machine.with_progress (client c.index_mut.result.now)) c.cut.ensures)

pub returns-clause-sound : goal.returns-clause-sound
returns-clause-sound c =
    let v = client c.index_mut.result.now in
    sound_with c.args.state.now c.args.client _ c.index_mut.result.now (after c) (here c)
    (λ m x b.
    ap (λ (p : Progress). is_held p.stage && machine.is_set p.set x && machine.is_call_of m b (machine.next_call v)) c.cut.ensures
    ∙ (λ i. cut_holds v.present i && machine.is_set (cut_set v.present i) x && machine.is_call_of m b (machine.next_call v))) c.requires.sound
