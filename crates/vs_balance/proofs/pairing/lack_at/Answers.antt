use Rattle.std.proofs.Common.{sym, ◌∙◌, false}
use Rattle.vs_balance.specs.declared.view.SetView.{SetView}
use Rattle.vs_balance.proofs.Steps.{taking, at_index, past_index}
use Rattle.vs_balance.proofs.pairing.lack_at.Goals as goal

abbrev nothing : SetView
nothing = record { count = 0; pinned = 0; weight = 0; locked = false }

pub returns-then-index-views : goal.returns-then-index-views
returns-then-index-views c = c.lack.ensures ∙ sym (at_index (taking c.args.limit) c.args.views.now c.args.ideals.now c.args.index nothing c.requires c.if-index-views.true)

pub returns-else-index-views : goal.returns-else-index-views
returns-else-index-views c = sym (past_index (taking c.args.limit) c.args.views.now c.args.ideals.now c.args.index c.if-index-views.false)
