-- What becomes of a turn.
use Rattle.std.proofs.Common.{◌≡◌, ℕ, Bool, false, Result, Ok, Err, refl, sym, ap, ◌∙◌, subst, inl, inr}
use Rattle.std.specs.Prelude.{◌≢◌, ◌↔◌, IfErr, OnOk, IsOk}
use Rattle.vs_choose.specs.Restart.{IsBare}
use Rattle.vs_disk.specs.Told.{Told}
use Rattle.vs_event.specs.declared.event.Event.{Event}
use Rattle.vs_event.specs.declared.event.Event.TheVariants.{Fault, Restart}
use Rattle.vs_event.specs.declared.event.RestartBy.{RestartBy}
use Rattle.vs_event.specs.declared.reason.Reason.{Reason}
use Rattle.vs_machine.specs.Actors.{Actor, IsOf, IsPossible}
use Rattle.vs_machine.specs.State.{State}
use Rattle.vs_machine.specs.Step.{step}
use Rattle.vs_world.specs.Played.{Played, IsAdvanced, IsSame, state_of}
use Rattle.vs_world.specs.Restarts.{IsRestartCause}
use Rattle.vs_world.specs.Steps.{IsStepCause}
use Rattle.vs_world.specs.World.{World}
use Rattle.vs_world.specs.declared.fault.StepFault.{StepFault}
use Rattle.vs_world.specs.declared.fault.StepFault.TheVariants as faults
use Rattle.vs_drive.specs.Turns.{number_of, stage_after, turn_of, who, Happened, HasMissed, IsTurn}
use Rattle.vs_drive.specs.declared.turn.Place.{Place}
use Rattle.vs_drive.specs.declared.turn.Turn.{Turn}

-- ---- why an event wasn't carried out

-- what is possible isn't refused
never_refused : (r : Result State Reason) → IsOk r → (reason : Reason) → r ≢ Err reason
never_refused (Ok t) possible reason is = cc
never_refused (Err e) possible reason is = cc

module _ {D : Type 0} (told : D → Told) (old new : World D) where
  step_missed : (e : Event) (fault : StepFault) → ((reason : Reason) → fault ≢ faults.NotNow reason) → IsStepCause told old new e fault → HasMissed old.played new.played fault
  step_missed e (faults.NotNow reason) other h = other reason refl
  step_missed e (faults.Full x) other h = h.1
  step_missed e (faults.WentDown x) other h = inr (Fault x h.number h.recorded, tt, h.advanced)
  step_missed e (faults.OpenFault x) other h = inl h.1
  step_missed e faults.NoMemory other h = h

  pub missed : (e : Event) (r : Result (Unit {0}) StepFault) → IsPossible (state_of old.played) e
      → ((reason : Reason) → (r ≡ Err (faults.NotNow reason)) ↔ (step (state_of old.played) e ≡ Err reason))
      → IfErr r (IsStepCause told old new e) → IfErr r (HasMissed old.played new.played)
  missed e (Ok done) possible refused cause = tt
  missed e (Err fault) possible refused cause =
      step_missed e fault (λ reason is. never_refused (step (state_of old.played) e) possible reason ((refused reason).0 (ap (λ (f : StepFault). Err f) is))) cause

  restart_missed : (x : ℕ) (by : RestartBy) (fault : StepFault) → ((reason : Reason) → fault ≢ faults.NotNow reason) → IsRestartCause told old new x by fault → HasMissed old.played new.played fault
  restart_missed x by (faults.NotNow reason) other h = other reason refl
  restart_missed x by (faults.Full y) other h = absurd h
  restart_missed x by (faults.WentDown y) other h = absurd h
  restart_missed x by (faults.OpenFault y) other h = inl h.2
  restart_missed x by faults.NoMemory other h = h

  pub missed_restart : (x : ℕ) (by : RestartBy) (fault : StepFault) (r : Result Bool StepFault) → r ≡ Err fault → IsPossible (state_of old.played) (Restart x false by)
      → ((reason : Reason) → (r ≡ Err (faults.NotNow reason)) ↔ (step (state_of old.played) (Restart x false by) ≡ Err reason))
      → IsRestartCause told old new x by fault → HasMissed old.played new.played fault
  missed_restart x by fault r is possible refused cause =
      restart_missed x by fault (λ reason same. never_refused (step (state_of old.played) (Restart x false by)) possible reason ((refused reason).0 (is ∙ ap (λ (f : StepFault). Err f) same))) cause

-- ---- what becomes of the turn

module _ (old new : Played) where
  not_now : (fault : StepFault) → HasMissed old new fault → (reason : Reason) → fault ≢ faults.NotNow reason
  not_now fault missed reason is = subst (HasMissed old new) is missed

  pub never_not_now : (r : Result (Unit {0}) StepFault) → IfErr r (HasMissed old new) → (reason : Reason) → r ≢ Err (faults.NotNow reason)
  never_not_now (Ok done) missed reason is = cc
  never_not_now (Err fault) missed reason is = not_now fault missed reason (cc)

  -- the turn of an actor that gave an event of its own
  pub turned : (a : Actor) (e : Event) (place : Place) (r : Result (Unit {0}) StepFault) → IsOf a e → OnOk r (Happened old new e) → IfErr r (HasMissed old new)
      → place.who ≡ who a → place.call ≡ number_of (state_of old) a → place.stage ≡ stage_after e → IsTurn old new a (turn_of place r)
  turned a e place (Ok done) own happened missed at call stage = record { event = e; its_own = own; happened = happened; at = at; call = call; stage = stage }
  turned a e place (Err (faults.NotNow reason)) own happened missed at call stage = absurd missed
  turned a e place (Err (faults.Full x)) own happened missed at call stage = missed
  turned a e place (Err (faults.WentDown x)) own happened missed at call stage = missed
  turned a e place (Err (faults.OpenFault x)) own happened missed at call stage = missed
  turned a e place (Err faults.NoMemory) own happened missed at call stage = missed

  -- the same, of what became of it
  pub turned_to : (a : Actor) (e : Event) (place : Place) (r : Result (Unit {0}) StepFault) (t : Turn) → t ≡ turn_of place r → IsOf a e → OnOk r (Happened old new e) → IfErr r (HasMissed old new)
      → place.who ≡ who a → place.call ≡ number_of (state_of old) a → place.stage ≡ stage_after e → IsTurn old new a t
  turned_to a e place r t is own happened missed at call stage = subst (IsTurn old new a) (sym is) (turned a e place r own happened missed at call stage)

-- what follows where it was carried out
pub on_ok : {E P Q : Type 0} (r : Result (Unit {0}) E) → (P → Q) → OnOk r P → OnOk r Q
on_ok (Ok done) then h = then h
on_ok (Err e) then h = tt

-- an event that is no restart happened as it was given
pub step_happened : (old new : Played) (e : Event) → ((x : ℕ) (kept : Bool) (by : RestartBy) → e ≢ Restart x kept by) → IsAdvanced old new e → Happened old new e
step_happened old new (Restart x kept by) other h = absurd (other x kept by refl)
step_happened old new e other h = h

-- a restart happened as the journal showed
pub restart_happened : (old new : Played) (e : Event) (x : ℕ) (kept shown : Bool) (by : RestartBy) → e ≡ Restart x kept by → IsAdvanced old new (Restart x shown by) → Happened old new e
restart_happened old new e x kept shown by is h = rw is (shown, h)

-- one that can happen and is bare can happen as if nothing were pending
pub bare_possible : (s : State) (e : Event) (x : ℕ) (kept : Bool) (by : RestartBy) → e ≡ Restart x kept by → IsBare e → IsPossible s e → IsPossible s (Restart x false by)
bare_possible s e x kept by is bare possible =
    let nothing : kept ≡ false = subst IsBare is bare in
    subst (λ (k : Bool). IsPossible s (Restart x k by)) nothing (subst (IsPossible s) is possible)

pub same : (p : Played) → IsSame p p
same p = record { state = refl; events = refl; opening = refl }
