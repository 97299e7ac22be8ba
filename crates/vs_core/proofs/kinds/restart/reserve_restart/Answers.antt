use Rattle.std.proofs.Common.{◌≡◌, false, Ok, sym, subst, ◌∙◌}
use Rattle.vs_machine.specs.Kinds.Stops.{restart}
use Rattle.vs_machine.specs.State as machine
use Rattle.vs_state.specs.Guard.{verdict}
use Rattle.vs_state.specs.Plain.{plain}
use Rattle.vs_core.specs.Restarting.{kept_of, settled, AreLocks, IsPendingReady}
use Rattle.vs_core.proofs.Restarting.{change_still}
use Rattle.vs_core.proofs.kinds.restart.reserve_restart.Goals as goal

pub reserve_by-requires-clause-possible : goal.reserve_by-requires-clause-possible
reserve_by-requires-clause-possible c =
    subst (λ (m : machine.State). verdict (restart m c.args.set c.args.kept c.args.by) ≡ Ok tt) (sym c.reserve_change.ensures.same) c.requires.possible

pub returns-in_err-reserve_by-clause-same : goal.returns-in_err-reserve_by-clause-same
returns-in_err-reserve_by-clause-same c = c.reserve_by.ensures.same ∙ c.reserve_change.ensures.same

pub returns-clause-same : goal.returns-clause-same
returns-clause-same c = c.reserve_by.ensures.same ∙ c.reserve_change.ensures.same

pub returns-clause-ready : goal.returns-clause-ready
returns-clause-ready c =
    let s = plain c.args.state.now in
    let x = c.args.set in
    let kept = c.args.kept in
    let new = c.reserve_by.new.state in
    let refs = c.in_ok-refs.refs in
    let staged = c.in_ok-staged.staged in
    let same = c.reserve_by.ensures.same ∙ c.reserve_change.ensures.same in
    let there = change_still c.reserve_change.new.state new x (kept_of kept (s.pending x)) staged c.reserve_by.ensures.sets c.reserve_by.ensures.histories c.in_ok-staged.ensures.ready in
    record {
      answer = c.in_ok-reserve_by.ensures.room;
      change = subst (λ (m : machine.State). IsPendingReady new x (kept_of kept (m.pending x)) staged) (sym same) there;
      locks = subst (λ (m : machine.State). m.up x ≡ false → AreLocks refs.items (settled m x (kept_of kept (m.pending x))) x) (sym same) c.in_ok-refs.ensures;
    }
