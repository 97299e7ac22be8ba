-- The number of a set's last fault against how often its disk failed.
use Rattle.std.proofs.Common.{◌≡◌, ◌≢◌, ⊎_elim, ℕ, zero, suc, ◌+◌, ◌≤◌, Bool, List, length, Some, Result, Ok, Err, refl, sym, ap, subst, ◌∙◌, arith}
use Rattle.std.specs.Prelude.{IfErr, IfOk, OnOk}
use Rattle.std.proofs.lemmas.Bool.{cases_eq}
use Rattle.std.proofs.lemmas.Option.{slice_get_within}
use Rattle.vs_disk.specs.Told.{Told}
use Rattle.vs_disk.specs.Model.{Keeps}
use Rattle.vs_event.specs.declared.event.Event.{Event}
use Rattle.vs_event.specs.declared.event.Event.TheVariants.{Fault, Restart}
use Rattle.vs_event.specs.declared.event.RestartBy.{RestartBy}
use Rattle.vs_machine.specs.Driven.{FaultNumbers, numbers_after}
use Rattle.vs_machine.specs.State.{State}
use Rattle.vs_machine.proofs.Frame.{put_here, put_there}
use Rattle.vs_stores.specs.Numbered.{at_number}
use Rattle.vs_stores.proofs.Lists.{get_within}
use Rattle.vs_world.specs.Began.{begun}
use Rattle.vs_world.specs.declared.opening.Opening.{Opening}
use Rattle.vs_world.specs.Counted.{IsCounted, IsNoFault, KeepsCount}
use Rattle.vs_world.specs.Played.{IsAdvanced, IsSame, began, state_of}
use Rattle.vs_world.specs.Restarts.{IsRestartCause}
use Rattle.vs_world.specs.Steps.{HasGoneDown, IsStepCause}
use Rattle.vs_world.specs.World.{World, OfDisks}
use Rattle.vs_world.specs.declared.fault.StepFault.{StepFault}
use Rattle.vs_world.specs.declared.fault.StepFault.TheVariants.{NotNow, Full, WentDown, OpenFault, NoMemory}

no_fault : (last : ℕ → ℕ) (e : Event) → IsNoFault e → numbers_after last e ≡ last
no_fault last (Fault x n r) is_none = absurd is_none
no_fault last e is_none = refl

-- where as many stand there is one at the same number
there : {D : Type 0} (xs ys : List D) (x : ℕ) (b : D) → length xs ≡ length ys → at_number ys x ≡ Some b → (a : D) × (at_number xs x ≡ Some a)
there xs ys zero b count at = absurd cc
there xs ys (suc i) b count at = get_within xs i (omega (arith, slice_get_within ys i b at, count))

module _ {D : Type 0} (told : D → Told) (old new : World D) (count : length old.disks ≡ length new.disks) (keeps : (x : ℕ) → OfDisks old new x (λ was is. Keeps (told was) (told is))) where
  -- no number changes
  counted_as : ((x : ℕ) → (state_of new.played).last_fault x ≡ (state_of old.played).last_fault x) → new.played.opening ≡ old.played.opening → (x : ℕ) → IsCounted told old x → IsCounted told new x
  counted_as numbers opening x counted is at few =
      let was = there old.disks new.disks x is count at in
      let kept = keeps x was.0 is was.1 at in
      let before = counted was.0 was.1 (omega (arith, kept.faults, few)) in
      omega (arith, before, kept.faults, numbers x, ap (λ (o : Opening). (begun o).faults x) opening)

  counted_same : IsSame old.played new.played → KeepsCount told old new
  counted_same same x known = counted_as (λ y. ap (λ (s : State). s.last_fault y) same.state) same.opening x

  pub counted_on : FaultNumbers → (e : Event) → IsNoFault e → IsAdvanced old.played new.played e → KeepsCount told old new
  counted_on law e is_none more x known = counted_as
      (λ y. ap (λ (f : ℕ → ℕ). f y) (law (state_of old.played) (state_of new.played) e more.step ∙ no_fault (state_of old.played).last_fault e is_none)) more.opening x

  -- the fault has the next number
  counted_down : FaultNumbers → (e : Event) (x : ℕ) → HasGoneDown told old new e x → KeepsCount told old new
  counted_down law e x gone y known counted is at few = ⊎_elim here away (cases_eq y x)
    where
      last : ℕ → ℕ
      last z = (state_of old.played).last_fault z

      numbers : (z : ℕ) → (state_of new.played).last_fault z ≡ numbers_after (state_of old.played).last_fault (Fault x gone.number gone.recorded) z
      numbers z = ap (λ (f : ℕ → ℕ). f z) (law (state_of old.played) (state_of new.played) (Fault x gone.number gone.recorded) gone.advanced.step)

      Held : ℕ → Type 0
      Held z = (state_of new.played).last_fault z + (began new.played).faults z ≤ (told is).faults

      was : (a : D) × (at_number old.disks y ≡ Some a)
      was = there old.disks new.disks y is count at

      before : (state_of old.played).last_fault y + (began old.played).faults y ≤ (told was.0).faults
      before = counted was.0 was.1 (omega (arith, (keeps y was.0 is was.1 at).faults, few))

      away : y ≢ x → Held y
      away ne = omega (arith, before, (keeps y was.0 is was.1 at).faults, numbers y ∙ put_there (state_of old.played).last_fault x gone.number y ne, ap (λ (o : Opening). (begun o).faults y) gone.advanced.opening)

      here : y ≡ x → Held y
      here e =
          let at_x : at_number new.disks x ≡ Some is = subst (λ (z : ℕ). at_number new.disks z ≡ Some is) e at in
          let was_x : at_number old.disks x ≡ Some was.0 = subst (λ (z : ℕ). at_number old.disks z ≡ Some was.0) e was.1 in
          let before_x = subst (λ (z : ℕ). (state_of old.played).last_fault z + (began old.played).faults z ≤ (told was.0).faults) e before in
          subst Held (sym e)
          (omega (
            arith,
            before_x,
            (keeps y was.0 is was.1 at).faults,
            few,
            gone.number_is is at_x,
            gone.failed was.0 is was_x at_x,
            numbers x ∙ put_here (state_of old.played).last_fault x gone.number,
            ap (λ (o : Opening). (begun o).faults x) gone.advanced.opening,
          ))

  -- ---- whatever was answered
  counted_equal : new ≡ old → KeepsCount told old new
  counted_equal same = subst (λ (w : World D). KeepsCount told old w) (sym same) (λ x known counted. counted)

  step_counts : FaultNumbers → (e : Event) → (fault : StepFault) → IsStepCause told old new e fault → KeepsCount told old new
  step_counts law e (NotNow reason) cause = counted_equal cause
  step_counts law e (Full x) cause = counted_same cause.1
  step_counts law e (WentDown x) cause = counted_down law e x cause
  step_counts law e (OpenFault x) cause = counted_same cause.1
  step_counts law e NoMemory cause = counted_same cause

  pub step_counted : FaultNumbers → (e : Event) (result : Result (Unit {0}) StepFault) → OnOk result (IsAdvanced old.played new.played e) → IfErr result (IsStepCause told old new e) → IsNoFault e → KeepsCount told old new
  step_counted law e (Ok done) ok err is_none = counted_on law e is_none ok
  step_counted law e (Err fault) ok err is_none = step_counts law e fault err

  restart_counts : (x : ℕ) (by : RestartBy) (fault : StepFault) → IsRestartCause told old new x by fault → KeepsCount told old new
  restart_counts x by (NotNow reason) cause = counted_equal cause
  restart_counts x by (Full y) cause = absurd cause
  restart_counts x by (WentDown y) cause = absurd cause
  restart_counts x by (OpenFault y) cause = counted_same cause.2
  restart_counts x by NoMemory cause = counted_same cause

  pub restart_counted : FaultNumbers → (x : ℕ) (by : RestartBy) (result : Result Bool StepFault) → IfOk result (λ kept. IsAdvanced old.played new.played (Restart x kept by)) → IfErr result (IsRestartCause told old new x by) → KeepsCount told old new
  restart_counted law x by (Ok kept) ok err = counted_on law (Restart x kept by) tt ok
  restart_counted law x by (Err fault) ok err = restart_counts x by fault err
