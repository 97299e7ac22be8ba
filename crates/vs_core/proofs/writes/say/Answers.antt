use Rattle.std.proofs.Common.{◌≡◌, ◌-◌, true, sym, ap, subst, ◌∙◌}
use Rattle.std.specs.Prelude.{◌&&◌}
use Rattle.vs_rows.specs.Said.{said_all}
use Rattle.vs_calls.specs.Progress.{Progress, acted, is_held, is_running}
use Rattle.vs_calls.specs.State.{means}
use Rattle.vs_machine.specs.State as machine
use Rattle.vs_state.specs.Plain.{plain, client}
use Rattle.vs_core.proofs.Clients.{IsClient, client_of, client_is, client_written, sound_with}
use Rattle.vs_core.proofs.Stages.{running_holds}
use Rattle.vs_core.proofs.writes.say.Goals as goal

here : (c : goal.After-state-1) → IsClient c.args.state.now c.args.client (c.from.result - 1) c.index_mut.result.now
here c = client_of c.args.state.now c.args.client c.from.result c.index_mut.result.now c.requires.client (c.from.ensures ∙ c.get.ensures.value) c.index_mut.ensures.value

pub returns-clause-said : goal.returns-clause-said
returns-clause-said c =
    let s = c.args.state.now in
    let t = c.index_mut.result.now in
    client_written s c.args.client _ t (record t { present = c.act.new.self }) (here c)
    ∙ ap (λ p. machine.put_client (plain s) c.args.client (machine.with_progress (client t) p)) c.act.ensures
    ∙ ap (λ v. machine.put_client (plain s) c.args.client (machine.with_progress v (acted v.present c.args.place (said_all c.args.said.items)))) (sym (client_is s c.args.client _ t (record t { present = c.act.new.self }) (here c)))

pub returns-clause-sound : goal.returns-clause-sound
returns-clause-sound c =
    let t = c.index_mut.result.now in
    let runs : is_running (means t.present).stage ≡ true = subst (λ (v : machine.Client). is_running v.present.stage ≡ true) (client_is c.args.state.now c.args.client _ t (record t { present = c.act.new.self }) (here c)) c.requires.running in
    sound_with c.args.state.now c.args.client _ t (record t { present = c.act.new.self }) (here c)
    (λ m x b. ap (λ (p : Progress). is_held p.stage && machine.is_set p.set x && machine.is_call_of m b (machine.next_call (client t))) c.act.ensures ∙ ap (λ e. e && machine.is_set t.present.set x && machine.is_call_of m b (machine.next_call (client t))) (sym (running_holds (means t.present).stage runs))) c.requires.sound
