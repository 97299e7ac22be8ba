use Rattle.std.proofs.Common.{Ok, sym, ap, ◌∙◌}
use Rattle.std.specs.Option.{option_map}
use Rattle.vs_send.specs.Phases.{waited}
use Rattle.vs_machine.specs.State as machine
use Rattle.vs_machine.specs.Kinds.Sender as sender
use Rattle.vs_machine.proofs.Can.Sender.{can_wait}
use Rattle.vs_state.specs.Plain.{plain}
use Rattle.vs_core.proofs.Sender.{goes_on}
use Rattle.vs_core.proofs.kinds.freeze.not_yet.Goals as goal

pub returns-clause-step : goal.returns-clause-step
returns-clause-step c =
    let s = plain c.args.state.now in
    let x = c.args.set in
    let b = c.args.bucket in
    let next = goes_on (sender.not_yet s x b) c.requires.possible in
    let can = can_wait s next.0 x b next.1 in
    next.1
    ∙ ap Ok (sym (
    c.wait_turn.ensures.waits
    ∙ ap (λ m. machine.put_bucket s b (machine.with_transfer (s.bucket b) x (option_map (λ t. sender.in_phase t (waited t.phase)) m))) can.there
    ∙ ap (λ p. sender.put_phase s x b can.u (waited p)) can.draining
    ∙ can.gives
    ))
