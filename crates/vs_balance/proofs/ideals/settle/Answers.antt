use Rattle.std.proofs.Common.{sym, ap, subst, ◌∙◌, List, length}
use Rattle.vs_balance.specs.declared.member.Member.{Member}
use Rattle.vs_balance.specs.Member.{repeated, CanShare}
use Rattle.vs_balance.proofs.Leaving.{repeated_standing}
use Rattle.vs_balance.proofs.Weighing.{CanShare-next, ending-next}
use Rattle.vs_balance.proofs.ideals.settle.Goals as goal

pub loop-preserved : goal.loop-preserved
loop-preserved c =
    let after = c.leave_short.ensures.after in
    record {
      sharing = subst CanShare (sym after) (CanShare-next c.loop.members c.loop.invariant.sharing);
      ending = ap (λ (ms : List Member). repeated (length ms) ms) after ∙ ending-next c.loop.members ∙ c.loop.invariant.ending;
    }

pub returns-clause-after : goal.returns-clause-after
returns-clause-after c =
    let none = c.loop-test.ensures.none in
    let stands = sym c.leave_short.ensures.after ∙ none in
    none ∙ sym (repeated_standing (length c.loop.members) c.loop.members stands) ∙ c.loop.invariant.ending
