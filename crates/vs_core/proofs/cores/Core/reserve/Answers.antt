use Rattle.std.proofs.Common.{sym, ap, subst, ◌∙◌}
use Rattle.vs_machine.specs.Runs.{IsReached}
use Rattle.vs_core.specs.Core.{means}
use Rattle.vs_core.proofs.cores.Core.reserve.Goals as goal

pub invariant_of-self : goal.invariant_of-self
invariant_of-self c = record {
  reached = subst IsReached (sym c.reserve_kinds.ensures.same) c.self.invariant.reached;
  sound = c.reserve_kinds.ensures.sound;
  ready = tt;
}

pub returns-in_err-reserve_kinds-clause-same : goal.returns-in_err-reserve_kinds-clause-same
returns-in_err-reserve_kinds-clause-same c = c.reserve_kinds.ensures.same ∙ ap means c.self.view_is

pub invariant_of-self-2 : goal.invariant_of-self-2
invariant_of-self-2 c = record {
  reached = subst IsReached (sym c.reserve_kinds.ensures.same) c.self.invariant.reached;
  sound = c.reserve_kinds.ensures.sound;
  ready = c.in_ok-reserve_kinds.ensures.ready;
}

pub returns-clause-same : goal.returns-clause-same
returns-clause-same c = c.reserve_kinds.ensures.same ∙ ap means c.self.view_is
