use Rattle.std.proofs.Common.{◌≡◌, ◌-◌, ◌++◌, ◌∷◌, [], true, Ok, sym, ap, subst, ◌∙◌}
use Rattle.std.specs.Prelude.{◌||◌, not, nat_le}
use Rattle.vs_calls.specs.Progress.{is_held, is_over, is_refused, outcome_of, taken}
use Rattle.vs_machine.specs.State as machine
use Rattle.vs_state.specs.Plain.{plain, client}
use Rattle.vs_core.proofs.Calls.{take_client, take_is, take_tried, take_over}
use Rattle.vs_core.proofs.Clients.{IsClient, client_of, client_is, client_there, client_written, sound_free}
use Rattle.vs_core.proofs.Stages.{answering_is_free}
use Rattle.vs_core.proofs.kinds.take.take.Goals as goal

found : (c : goal.After-index_mut-tables) → IsClient c.args.state.now c.args.client (c.from.result - 1) c.index_mut-tables.result.now
found c = client_of c.args.state.now c.args.client c.from.result c.index_mut-tables.result.now (take_client (plain c.args.state.now) c.args.client c.requires.possible) (c.from.ensures ∙ c.get.ensures.value) c.index_mut-tables.ensures.value

same : (c : goal.After-index_mut-tables) → (plain c.args.state.now).client c.args.client ≡ client c.index_mut-tables.result.now
same c = client_is c.args.state.now c.args.client _ c.index_mut-tables.result.now c.index_mut-tables.result.now (found c)

pub take_outcome-requires-clause-tried : goal.take_outcome-requires-clause-tried
take_outcome-requires-clause-tried c = subst (λ (v : machine.Client). (not (is_refused v.present.stage) || nat_le 128 v.present.tries) ≡ true) (same c) (take_tried (plain c.args.state.now) c.args.client c.requires.possible)

pub take_outcome-requires-clause-over : goal.take_outcome-requires-clause-over
take_outcome-requires-clause-over c = subst (λ (v : machine.Client). (is_refused v.present.stage || is_over v.present.stage) ≡ true) (same c) (take_over (plain c.args.state.now) c.args.client c.requires.possible)

pub take_outcome-requires-clause-room : goal.take_outcome-requires-clause-room
take_outcome-requires-clause-room c = c.requires.ready c.index_mut-tables.result.now (client_there c.args.state.now c.args.client _ c.index_mut-tables.result.now c.index_mut-tables.result.now (found c))

here : (c : goal.After-state-1) → IsClient c.args.state.now c.args.client (c.from.result - 1) c.index_mut-tables.result.now
here c = client_of c.args.state.now c.args.client c.from.result c.index_mut-tables.result.now (take_client (plain c.args.state.now) c.args.client c.requires.possible) (c.from.ensures ∙ c.get.ensures.value) c.index_mut-tables.ensures.value

pub returns-clause-step : goal.returns-clause-step
returns-clause-step c =
    let s = plain c.args.state.now in
    let o = c.args.client in
    let t = c.index_mut-tables.result.now in
    let after : machine.Client → machine.State = λ v. machine.put_client s o (record v { answered = v.answered ++ outcome_of v.present ∷ []; present = taken v.present }) in
    take_is s o c.requires.possible
    ∙ ap Ok (sym (client_written c.args.state.now o _ t c.take_outcome.new.tables (here c) ∙ ap (machine.put_client s o) c.take_outcome.ensures ∙ ap after (sym (client_is c.args.state.now o _ t t (here c)))))

pub returns-clause-sound : goal.returns-clause-sound
returns-clause-sound c =
    let s = plain c.args.state.now in
    let o = c.args.client in
    sound_free c.args.state.now o _ c.index_mut-tables.result.now c.take_outcome.new.tables (here c)
    (answering_is_free (s.client o).present.stage (take_over s o c.requires.possible)) (ap (λ (v : machine.Client). is_held v.present.stage) c.take_outcome.ensures) c.requires.sound
