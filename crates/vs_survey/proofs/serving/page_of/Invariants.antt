use Rattle.vs_state.specs.Plain.{plain}
use Rattle.vs_survey.specs.Readers.{is_listed}
use Rattle.vs_survey.proofs.Paging.{Listed}
use Rattle.vs_survey.proofs.serving.page_of.Given as goal

abbrev pub invariant-loop-before : goal.invariant-loop-before
invariant-loop-before l = Listed (is_listed (plain l.state) l.set l.after) l.before l.ids.items
