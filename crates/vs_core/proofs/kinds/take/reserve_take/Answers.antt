use Rattle.std.proofs.Common.{◌-◌, ◌^◌, ◌<◌, subst, ◌∙◌}
use Rattle.std.proofs.lemmas.Result.{on_ok_weaker}
use Rattle.vs_machine.specs.State as machine
use Rattle.vs_state.specs.Plain.{plain}
use Rattle.vs_core.specs.Taking.{HasTakeRoom}
use Rattle.vs_core.proofs.Calls.{take_client}
use Rattle.vs_core.proofs.Clients.{IsClient, client_is, client_of, plain_same, sound_same, written_there}
use Rattle.vs_core.proofs.kinds.take.reserve_take.Goals as goal

here : (c : goal.After-state-1) → IsClient c.args.state.now c.args.client (c.from.result - 1) c.index_mut-tables.result.now
here c = client_of c.args.state.now c.args.client c.from.result c.index_mut-tables.result.now (take_client (plain c.args.state.now) c.args.client c.requires.possible) (c.from.ensures ∙ c.get.ensures.value) c.index_mut-tables.ensures.value

pub reserve_outcome-requires : goal.reserve_outcome-requires
reserve_outcome-requires c =
    let s = c.args.state.now in
    let t = c.index_mut-tables.result.now in
    let it = client_of s c.args.client c.from.result t (take_client (plain s) c.args.client c.requires.possible) (c.from.ensures ∙ c.get.ensures.value) c.index_mut-tables.ensures.value in
    subst (λ (v : machine.Client). v.present.number < 2 ^ 32 - 1) (client_is s c.args.client _ t t it) (c.requires.known.numbers c.args.client)

pub returns-clause-ready : goal.returns-clause-ready
returns-clause-ready c = on_ok_weaker c.reserve_outcome.result (λ room. written_there c.args.state.now c.args.client _ c.index_mut-tables.result.now c.reserve_outcome.new.tables (here c) HasTakeRoom room) c.reserve_outcome.ensures.room

pub returns-clause-same : goal.returns-clause-same
returns-clause-same c = plain_same c.args.state.now c.args.client _ c.index_mut-tables.result.now c.reserve_outcome.new.tables (here c) c.reserve_outcome.ensures.same

pub returns-clause-sound : goal.returns-clause-sound
returns-clause-sound c = sound_same c.args.state.now c.args.client _ c.index_mut-tables.result.now c.reserve_outcome.new.tables (here c) c.reserve_outcome.ensures.same c.requires.sound
