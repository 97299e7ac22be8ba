use Rattle.std.proofs.Common.{◌≡◌, true, Some, Ok, sym, ap, subst, ◌∙◌}
use Rattle.vs_machine.specs.Runs.{IsReached}
use Rattle.vs_machine.specs.State as machine
use Rattle.vs_machine.specs.Kinds.Stops.{Recording}
use Rattle.vs_machine.specs.Step.{step}
use Rattle.vs_state.specs.Guard.{verdict}
use Rattle.vs_state.specs.Plain.{plain}
use Rattle.vs_core.specs.Core.{Shown, means}
use Rattle.vs_core.specs.Keeps.{IsKnown}
use Rattle.vs_core.specs.Records.{records}
use Rattle.vs_core.proofs.Journaled.{records_written}
use Rattle.vs_core.proofs.Sender.{goes_on}
use Rattle.vs_core.proofs.cores.Core.reserve_for.Goals as goal

pub reserve-requires-clause-possible : goal.reserve-requires-clause-possible
reserve-requires-clause-possible c = subst (λ (v : Shown). verdict (step (means v) c.args.event.now) ≡ Ok tt) (sym c.self.view_is) c.requires

pub invariant_of-self : goal.invariant_of-self
invariant_of-self c = record {
  reached = subst IsReached (sym c.reserve.ensures.same) c.self.invariant.reached;
  sound = c.reserve.ensures.sound;
  ready = tt;
}

pub returns-in_err-prepared-clause-same : goal.returns-in_err-prepared-clause-same
returns-in_err-prepared-clause-same c = c.reserve.ensures.same ∙ ap means c.self.view_is

pub reserve_failure-requires-clause-set : goal.reserve_failure-requires-clause-set
reserve_failure-requires-clause-set c =
    let s = plain c.self.inside.state in
    let possible = subst (λ (v : Shown). verdict (step (means v) c.args.event.now) ≡ Ok tt) (sym c.self.view_is) c.requires in
    let next = goes_on (step s c.args.event.now) possible in
    let kept = c.recorded_changes.ensures.written s next.0 c.args.event.now c.self.invariant.reached next.1 in
    subst (λ (m : machine.State). (r : Recording) → records m c.args.event.now ≡ Some r → machine.has_set m r.at ≡ true) (sym c.in_ok-prepared.ensures.same)
    (λ r is. (kept.fits_here r (records_written s c.args.event.now r is)).set)

pub reserve_failure-requires-clause-known : goal.reserve_failure-requires-clause-known
reserve_failure-requires-clause-known c = subst IsKnown (sym c.in_ok-prepared.ensures.same) c.know.ensures

pub invariant_of-self-in_err-fault : goal.invariant_of-self-in_err-fault
invariant_of-self-in_err-fault c = record {
  reached = subst IsReached (sym (c.reserve_failure.ensures.same ∙ c.in_ok-prepared.ensures.same)) c.self.invariant.reached;
  sound = c.reserve_failure.ensures.sound;
  ready = tt;
}

pub returns-in_err-fault-clause-same : goal.returns-in_err-fault-clause-same
returns-in_err-fault-clause-same c = c.reserve_failure.ensures.same ∙ c.in_ok-prepared.ensures.same ∙ ap means c.self.view_is

pub invariant_of-self-2 : goal.invariant_of-self-2
invariant_of-self-2 c = record {
  reached = subst IsReached (sym (c.reserve_failure.ensures.same ∙ c.in_ok-prepared.ensures.same)) c.self.invariant.reached;
  sound = c.reserve_failure.ensures.sound;
  ready = record { room = c.in_ok-fault.ensures.kept _ c.in_ok-prepared.ensures.ready; failing = c.in_ok-fault.ensures.ready };
}

pub returns-clause-same : goal.returns-clause-same
returns-clause-same c = c.reserve_failure.ensures.same ∙ c.in_ok-prepared.ensures.same ∙ ap means c.self.view_is
