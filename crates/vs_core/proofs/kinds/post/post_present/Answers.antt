use Rattle.std.proofs.Common.{◌-◌, ◌∙◌, ap}
use Rattle.vs_calls.specs.Progress.{posted}
use Rattle.vs_machine.specs.State as machine
use Rattle.vs_state.specs.declared.actors.ClientTables.{ClientTables}
use Rattle.vs_state.specs.Plain.{plain, client}
use Rattle.vs_calls.specs.Progress.{Progress, is_held}
use Rattle.vs_core.proofs.Clients.{IsClient, client_of, progress_written, sound_free}
use Rattle.vs_core.proofs.Stages.{posting_is_free}
use Rattle.vs_core.proofs.kinds.post.post_present.Goals as goal

here : (c : goal.After-state-1) → IsClient c.args.state.now c.args.client (c.from.result - 1) c.index_mut.result.now
here c = client_of c.args.state.now c.args.client c.from.result c.index_mut.result.now c.requires.client (c.from.ensures ∙ c.get.ensures.value) c.index_mut.ensures.value

abbrev after : (c : goal.After-state-1) → ClientTables
after c = record c.index_mut.result.now { present = c.post.new.self }

pub returns-clause-posted : goal.returns-clause-posted
returns-clause-posted c = progress_written c.args.state.now c.args.client _ c.index_mut.result.now (after c) (here c) (λ p. posted p c.args.set c.args.writes) (ap (machine.with_progress (client c.index_mut.result.now)) c.post.ensures)

pub returns-clause-sound : goal.returns-clause-sound
returns-clause-sound c = sound_free c.args.state.now c.args.client _ c.index_mut.result.now (after c) (here c) (posting_is_free ((plain c.args.state.now).client c.args.client).present.stage c.requires.stage) (ap (λ (p : Progress). is_held p.stage) c.post.ensures) c.requires.sound
