use Rattle.std.proofs.Common.{◌≡◌}
use Rattle.vs_machine.specs.Kinds.Rebalancing.{view_of}
use Rattle.vs_machine.specs.Tables.{list_to}
use Rattle.vs_state.specs.Plain.{plain}
use Rattle.vs_info.proofs.balance.views.Given as goal

abbrev pub invariant-loop-index : goal.invariant-loop-index
invariant-loop-index l = l.views.items ≡ list_to (view_of (plain l.state)) l.index
