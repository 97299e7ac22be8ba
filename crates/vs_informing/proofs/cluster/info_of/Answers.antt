use Rattle.std.proofs.Common.{◌≡◌, sym, ap, subst, ◌∙◌}
use Rattle.std.specs.Prelude.{IfOk}
use Rattle.vs_info.specs.Info.{info_text}
use Rattle.vs_machine.specs.State.{State}
use Rattle.vs_informing.proofs.cluster.info_of.Goals as goal

pub info-requires : goal.info-requires
info-requires g c = c.requires ∙ sym (ap (λ (s : State). s.config) c.core.ensures.state)

pub returns : goal.returns
returns g c = subst (λ (s : State). IfOk c.info.result (λ text. text.items ≡ info_text s)) c.core.ensures.state c.info.ensures
