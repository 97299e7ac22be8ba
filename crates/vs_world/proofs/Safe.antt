-- What is promised of the runs of a world, and when it refuses an event.
use Rattle.std.proofs.Common.{◌≡◌, Result, Ok, Err, OnOk}
use Rattle.std.specs.Prelude.{◌↔◌}
use Rattle.vs_core.specs.Safety.{IsSafe, IsSafeEvent, SafeStates, SafeEvents}
use Rattle.vs_event.specs.declared.event.Event.{Event}
use Rattle.vs_event.specs.declared.reason.Reason.{Reason}
use Rattle.vs_machine.specs.State.{State}
use Rattle.vs_state.specs.Guard.{verdict}
use Rattle.vs_world.specs.Played.{Played, IsRun, IsAdvanced, state_of}
use Rattle.vs_world.specs.declared.fault.StepFault.{StepFault}
use Rattle.vs_world.specs.declared.fault.StepFault.TheVariants.{NotNow}
use Rattle.vs_world.proofs.Playing.{is_reached}

pub safe_state : SafeStates → (p : Played) → IsRun p → IsSafe (state_of p)
safe_state law p r = law (state_of p) (is_reached p r)

pub safe_event : {X : Type 0} (r : Result X StepFault) (p q : Played) (e : Event) → SafeEvents → IsRun p → OnOk r (IsAdvanced p q e) → OnOk r (IsSafeEvent (state_of p) e (state_of q))
safe_event (Ok x) p q e law run more = law (state_of p) (state_of q) e (is_reached p run) more.step
safe_event (Err f) p q e law run more = tt

-- ---- refusals

abbrev pub refused_by : (X : Type 0) → Reason → Result X StepFault
refused_by X reason = Err (NotNow reason)

pub refused_now : (X : Type 0) (r : Result State Reason) (reason : Reason) → verdict r ≡ Err reason → (q : Reason) → (refused_by X reason ≡ refused_by X q) ↔ (r ≡ Err q)
refused_now X (Err e) reason is q = ((λ h. cc (is, h)), (λ h. cc (is, h)))
refused_now X (Ok t) reason is q = absurd (cc is)

pub not_refused_now : {X : Type 0} (r : Result State Reason) (x : Result X StepFault) → verdict r ≡ Ok tt → ((q : Reason) → x ≡ Err (NotNow q) → ⊥) → (q : Reason) → (x ≡ Err (NotNow q)) ↔ (r ≡ Err q)
not_refused_now (Ok t) x is not q = ((λ h. absurd (not q h)), (λ h. absurd (cc h)))
not_refused_now (Err e) x is not q = absurd (cc is)
