use Rattle.std.proofs.Common.{◌≡◌, ap, ◌∙◌}
use Rattle.vs_refs.specs.Counts.{no_counts}
use Rattle.vs_refs.specs.Refs.{counts_of}
use Rattle.vs_machine.specs.State as machine
use Rattle.vs_machine.specs.Kinds.Stops.{gone_down}
use Rattle.vs_state.specs.Plain.{plain}
use Rattle.vs_state.specs.Tables.{numbered}
use Rattle.vs_core.specs.GoingDown.{ForgetsAt, without_calls, without_lines, without_moves}
use Rattle.vs_core.proofs.Leaving.{agrees_down}
use Rattle.vs_core.proofs.going_down.go_down.Goals as goal
use Rattle.vs_core.proofs.going_down.go_down.Goals.{After-close_connections}

down : (c : After-close_connections) → plain c.close_connections.new.state ≡ gone_down (plain c.args.state.now) c.args.set
down c =
    let x = c.args.set in
    c.close_connections.ensures.closed
    ∙ ap (λ (m : machine.State). without_lines m x) c.stop_moves.ensures.stopped
    ∙ ap (λ (m : machine.State). without_lines (without_moves m x) x) c.lose_calls.ensures.lost
    ∙ ap (λ (m : machine.State). without_lines (without_moves (without_calls m x) x) x) c.clear_tables.ensures.cleared

-- only the tables say which references stand
forgets : (c : After-close_connections) → ForgetsAt c.args.state.now c.close_connections.new.state c.args.set
forgets c =
    let sets = c.close_connections.ensures.sets ∙ c.stop_moves.ensures.sets ∙ c.lose_calls.ensures.sets in
    record {
      counts = λ y q. ap (λ sets. numbered (λ t. counts_of t.refs.items q) no_counts sets.items y) sets ∙ c.clear_tables.ensures.forgets.counts y q;
      hauls = λ y. ap (λ sets. numbered (λ t. t.hauls) 0 sets.items y) sets ∙ c.clear_tables.ensures.forgets.hauls y;
    }

pub returns-clause-down : goal.returns-clause-down
returns-clause-down c = down c

pub returns-clause-sound : goal.returns-clause-sound
returns-clause-sound c = record {
  sized = c.close_connections.ensures.sized;
  agrees = agrees_down c.args.state.now c.close_connections.new.state c.args.set (down c) (forgets c) c.requires.sound.agrees;
}
