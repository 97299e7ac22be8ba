use Rattle.vs_gen.proofs.Drawn.{draw_wrapped, state_wrapped}
use Rattle.vs_gen.proofs.draws.Draws.next.Goals as goal

pub returns-clause-value : goal.returns-clause-value
returns-clause-value c = rw c.self.view_is (draw_wrapped c.args.self.now)

pub returns-clause-state : goal.returns-clause-state
returns-clause-state c = rw c.self.view_is (state_wrapped c.args.self.now)
