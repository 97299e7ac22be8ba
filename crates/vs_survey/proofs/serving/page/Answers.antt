use Rattle.std.proofs.Common.{◌≡◌, subst}
use Rattle.std.specs.Prelude.{IfOk}
use Rattle.vs_state.specs.declared.state.State.{State}
use Rattle.vs_state.specs.Plain.{plain}
use Rattle.vs_survey.specs.Readers as readers
use Rattle.vs_survey.proofs.serving.page.Goals as goal

pub returns : goal.returns
returns c = subst (λ (s : State). IfOk c.page_of.result (λ ids. ids.items ≡ readers.page (plain s) c.args.set c.args.after)) c.state.ensures.value c.page_of.ensures
