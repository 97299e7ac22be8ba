use Rattle.std.proofs.Common.{◌≡◌, Ok, sym, subst}
use Rattle.vs_machine.specs.Step.{step}
use Rattle.vs_state.specs.Guard.{verdict}
use Rattle.vs_state.specs.Plain.{plain}
use Rattle.vs_core.specs.Core.{Shown, means}
use Rattle.vs_core.specs.Safety.{IsSafeEvent}
use Rattle.vs_core.specs.Standing.{IsReady}
use Rattle.vs_core.proofs.cores.Core.apply.Goals as goal

pub prepared_for-prepared-requires-clause-possible : goal.prepared_for-prepared-requires-clause-possible
prepared_for-prepared-requires-clause-possible c = subst (λ (v : Shown). verdict (step (means v) c.args.event.now) ≡ Ok tt) (sym c.self.view_is) c.requires.possible

pub carry_out-requires-clause-possible : goal.carry_out-requires-clause-possible
carry_out-requires-clause-possible c = subst (λ (v : Shown). verdict (step (means v) c.args.event.now) ≡ Ok tt) (sym c.self.view_is) c.requires.possible

pub invariant_of-self : goal.invariant_of-self
invariant_of-self c = record {
  reached = c.every_event.ensures.reaches (plain c.self.inside.state) (plain c.carry_out.new.state) c.args.event.now c.self.invariant.reached c.carry_out.ensures.step;
  sound = c.carry_out.ensures.sound;
  ready = subst (IsReady c.carry_out.new.state) (sym c.take-ready.ensures.after) tt;
}

pub returns-clause-step : goal.returns-clause-step
returns-clause-step c = subst (λ (v : Shown). step (means v) c.args.event.now ≡ Ok (plain c.carry_out.new.state)) c.self.view_is c.carry_out.ensures.step

pub returns-clause-event : goal.returns-clause-event
returns-clause-event c =
    subst (λ (v : Shown). IsSafeEvent (means v) c.args.event.now (plain c.carry_out.new.state)) c.self.view_is
    (c.safe_runs.ensures.events (plain c.self.inside.state) (plain c.carry_out.new.state) c.args.event.now c.self.invariant.reached c.carry_out.ensures.step)

pub returns-clause-safe : goal.returns-clause-safe
returns-clause-safe c =
    c.safe_runs.ensures.states (plain c.carry_out.new.state) (c.every_event.ensures.reaches (plain c.self.inside.state) (plain c.carry_out.new.state) c.args.event.now c.self.invariant.reached c.carry_out.ensures.step)
