use Rattle.std.proofs.Common.{◌≡◌, ℕ, false, ap, subst, ◌∙◌}
use Rattle.vs_link.specs.Connection.{unused}
use Rattle.vs_machine.specs.State.{State, is_link}
use Rattle.vs_state.specs.Plain.{plain}
use Rattle.vs_settle.proofs.Reading.{outside_unused}
use Rattle.vs_settle.proofs.reads.know.Goals as goal

pub returns-clause-lines : goal.returns-clause-lines
returns-clause-lines g c =
    let st = c.state-state.result.now in
    subst (λ (s : State). (x y : ℕ) → is_link s x y ≡ false → s.link x y ≡ unused) (ap plain c.state-state.ensures.value ∙ c.core.ensures.state)
    (outside_unused st c.state-state.ensures.sound.sized.links)
