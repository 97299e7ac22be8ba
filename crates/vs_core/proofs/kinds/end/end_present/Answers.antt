use Rattle.std.proofs.Common.{◌≡◌, ◌-◌, ap, ◌∙◌}
use Rattle.vs_calls.specs.Progress.{ended}
use Rattle.vs_machine.specs.State as machine
use Rattle.vs_machine.specs.Kinds.Calls as kinds
use Rattle.vs_state.specs.declared.actors.ClientTables.{ClientTables}
use Rattle.vs_state.specs.Plain.{plain, client}
use Rattle.vs_core.proofs.Clients.{IsClient, client_of, progress_written, with_client}
use Rattle.vs_core.proofs.Holding.{sound_client}
use Rattle.vs_core.proofs.kinds.end.end_present.Goals as goal

here : (c : goal.After-state-1) → IsClient c.args.state.now c.args.client (c.from.result - 1) c.index_mut.result.now
here c = client_of c.args.state.now c.args.client c.from.result c.index_mut.result.now c.requires.client (c.from.ensures ∙ c.get.ensures.value) c.index_mut.ensures.value

abbrev after : (c : goal.After-state-1) → ClientTables
after c = record c.index_mut.result.now { present = c.end.new.self }

becomes : (c : goal.After-state-1) → plain (with_client c.args.state.now (c.from.result - 1) (after c)) ≡ kinds.after_end (plain c.args.state.now) c.args.client
becomes c = progress_written c.args.state.now c.args.client _ c.index_mut.result.now (after c) (here c) ended (ap (machine.with_progress (client c.index_mut.result.now)) c.end.ensures)

pub returns-clause-ended : goal.returns-clause-ended
returns-clause-ended c = becomes c

pub returns-clause-sound : goal.returns-clause-sound
returns-clause-sound c = sound_client c.args.state.now c.args.client _ c.index_mut.result.now (after c) (kinds.after_end (plain c.args.state.now) c.args.client) (here c) (becomes c) c.requires.agrees c.requires.sized
