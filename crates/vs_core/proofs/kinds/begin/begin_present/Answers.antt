use Rattle.std.proofs.Common.{◌≡◌, ◌-◌, ap, ◌∙◌}
use Rattle.vs_calls.specs.Progress.{begun}
use Rattle.vs_machine.specs.State as machine
use Rattle.vs_state.specs.declared.actors.ClientTables.{ClientTables}
use Rattle.vs_state.specs.Plain.{plain, client}
use Rattle.vs_core.proofs.Clients.{IsClient, client_of, progress_written, with_client}
use Rattle.vs_core.proofs.Holding.{sound_client}
use Rattle.vs_core.proofs.kinds.begin.begin_present.Goals as goal

here : (c : goal.After-state-1) → IsClient c.args.state.now c.args.client (c.from.result - 1) c.index_mut.result.now
here c = client_of c.args.state.now c.args.client c.from.result c.index_mut.result.now c.requires.client (c.from.ensures ∙ c.get.ensures.value) c.index_mut.ensures.value

abbrev after : (c : goal.After-state-1) → ClientTables
after c = record c.index_mut.result.now { present = c.begin.new.self }

abbrev begun_state : (c : goal.After-state-1) → machine.State
begun_state c =
    let old = (plain c.args.state.now).client c.args.client in
    machine.put_client (plain c.args.state.now) c.args.client (machine.with_progress old (begun old.present c.args.verdict))

becomes : (c : goal.After-state-1) → plain (with_client c.args.state.now (c.from.result - 1) (after c)) ≡ begun_state c
becomes c = progress_written c.args.state.now c.args.client _ c.index_mut.result.now (after c) (here c) (λ p. begun p c.args.verdict) (ap (machine.with_progress (client c.index_mut.result.now)) c.begin.ensures)

pub returns-clause-begun : goal.returns-clause-begun
returns-clause-begun c = becomes c

pub returns-clause-sound : goal.returns-clause-sound
returns-clause-sound c = sound_client c.args.state.now c.args.client _ c.index_mut.result.now (after c) (begun_state c) (here c) (becomes c) c.requires.agrees c.requires.sized
