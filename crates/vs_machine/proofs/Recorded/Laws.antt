-- What events write, along a run.
use Rattle.std.proofs.Common.{◌≡◌, ℕ, refl, sym, subst, ◌∙◌, List, [], ◌∷◌, Some, Ok}
use Rattle.vs_machine.specs.Kinds.Stops.{recording_of, recorded_step}
use Rattle.vs_event.specs.declared.event.Event.{Event}
use Rattle.vs_machine.specs.Coherence.{owners}
use Rattle.vs_machine.specs.Laws.{WrittenEvents, WrittenRuns, FaultRuns, PendingRuns, OpenedHoldings, ReopenedRuns}
use Rattle.vs_machine.specs.Opening.{opening}
use Rattle.vs_machine.specs.Runs.{IsReached}
use Rattle.vs_machine.specs.State.{State}
use Rattle.vs_machine.specs.Step.{step, run}
use Rattle.vs_machine.specs.Whole.{Whole}
use Rattle.vs_machine.proofs.Inputs.{input_runs, few_runs}
use Rattle.vs_machine.proofs.Opens.{owner, opening_whole}
use Rattle.vs_machine.proofs.Possible.{bind_ok, ok_is}
use Rattle.vs_machine.proofs.Reached.{reached_whole}
use Rattle.vs_machine.proofs.Steps.{step_whole}
use Rattle.vs_machine.proofs.Recorded.Faulting.{event_step, writes_recorded, may_fault}
use Rattle.vs_machine.proofs.Recorded.Reopening.{reopens}
use Rattle.vs_machine.proofs.Recorded.Steps.{WipesFit, step_wipes, pending_may, at_up, recorded_may, step_keeps}

run_wipes : (own : ℕ → ℕ) (s t : State) (es : List Event) → Whole own s → WipesFit s → run s es ≡ Ok t → WipesFit t
run_wipes own s t [] w f h = subst WipesFit (ok_is s t h) f
run_wipes own s t (e ∷ es) w f h =
    let next = bind_ok (step s e) (λ u. run u es) t h in
    let whole = step_whole own s next.0 e w next.1 in
    run_wipes (owners own s e) next.0 t es whole (step_wipes own (owners own s e) s next.0 e w whole f next.1) next.2

reached_wipes : (s : State) → IsReached s → WipesFit s
reached_wipes s r = run_wipes (owner r.config r.scripts r.held r.opens) (opening r.config r.scripts r.held) s r.events (opening_whole r.config r.scripts r.held r.opens) (λ x b n is. absurd cc) r.runs

pub written_runs : WrittenRuns
written_runs s t e r h = let w = reached_whole s r in step_keeps w.0 s w.1 (input_runs s r) (few_runs s r) (reached_wipes s r) t e h

pub pending_runs : PendingRuns
pending_runs s r x c is = let w = reached_whole s r in record { down = (w.1.pending x c is).0; may = pending_may w.0 s w.1 (input_runs s r) (few_runs s r) (reached_wipes s r) x c is }

pub opened_holdings : OpenedHoldings
opened_holdings config scripts held x = refl

pub written_events : WrittenEvents
written_events = writes_recorded

pub fault_runs : FaultRuns
fault_runs s t e r n reached h is next =
    let w = reached_whole s reached in
    let possible : recorded_step s e ≡ Ok t = sym (event_step s e) ∙ h in
    let records : recording_of s e ≡ Some r = sym ((writes_recorded s).recorded_by e) ∙ is in
    let may = recorded_may w.0 s w.1 (input_runs s reached) (few_runs s reached) (reached_wipes s reached) t e r possible records in
    let up = at_up w.0 s t w.1 e r possible records in
    record { up = up; possible = may_fault s t e r n may.set up possible records next }

pub reopened_runs : ReopenedRuns
reopened_runs s r d f scripts lawful = reopens s r (λ x c is. (pending_runs s r x c is).may.set) d f scripts lawful
