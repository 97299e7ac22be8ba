-- Why a set wasn't started again.
use Rattle.std.proofs.Common.{◌≡◌, ℕ, Bool, true, false, refl, sym, subst, ◌∙◌, arith}
use Rattle.vs_base.specs.Listed.{Listed}
use Rattle.vs_core.specs.Core as core
use Rattle.vs_disk.specs.declared.disk.Disk.{Ghosts}
use Rattle.vs_disk.specs.Told.{Failed}
use Rattle.vs_event.specs.declared.event.Event.{Event}
use Rattle.vs_event.specs.declared.event.Event.TheVariants.{Restart}
use Rattle.vs_event.specs.declared.event.RestartBy.{RestartBy}
use Rattle.vs_machine.specs.Journals.{written}
use Rattle.vs_machine.specs.Kinds.Stops.{recording}
use Rattle.vs_machine.specs.State.{State}
use Rattle.vs_stores.specs.Calls.{FailsAt}
use Rattle.vs_stores.specs.Stores.{HasSet, IsReadyAt, stores_of}
use Rattle.vs_stores.specs.declared.stores.Stores.{Stores}
use Rattle.vs_world.specs.declared.opening.Opening.{Opening}
use Rattle.vs_world.specs.Played.{IsSame}
use Rattle.vs_world.specs.Steps.{IsTooLong, StaysDown, IsStepCause}
use Rattle.vs_world.specs.Touched.{IsTouched, IsPastLimit, IsUnfit}
use Rattle.vs_world.specs.Whole.{IsWhole, played_in, shown}
use Rattle.vs_world.specs.declared.fault.StepFault.{StepFault}
use Rattle.vs_world.specs.declared.fault.StepFault.TheVariants.{NotNow, Full, WentDown, OpenFault, NoMemory}
use Rattle.vs_world.proofs.Disks.{of_disks}
use Rattle.vs_world.proofs.Kept.{lengths_at}
use Rattle.vs_world.proofs.Restarted.{kept_written}

module _ {D : Type 0} {disk : Ghosts D} (c c' : core.Shown) (events events' : Listed Event) (opening : Opening) (old new : Stores D disk) (x : ℕ)
    (whole : IsWhole c events opening old) (has : HasSet old x) (touched : IsTouched (core.means c) old new x) (down : (core.means c).up x ≡ false) (by : RestartBy) where
  -- its disk failed
  pub stays_down : (kept : Bool) → FailsAt old new x → StaysDown disk.told (shown c events opening old) (shown c' events' opening new) (Restart x kept by) x
  stays_down kept failed = record { kept = kept; by = by; is = refl; down = down; failed = of_disks old new x touched.others Failed has failed }

  -- its journal is full
  too_long : (core.means c' ≡ core.means c) → IsPastLimit (core.means c) new x → IsTooLong (shown c' events' opening new) (Restart x true by) x
  too_long same past = record {
    recording = record { at = x; change = past.change };
    written_is = subst (λ (s : State). written s (Restart x true by) ≡ recording x past.change) (sym same) (kept_written (core.means c) x by past.change down past.pending_is);
    at = refl;
    above = omega (arith, past.above, touched.others.limit ∙ whole.limit, lengths_at (stores_of new) x);
  }

  pub step_cause : (kept : Bool) (fault : StepFault) → IsSame (played_in c events opening) (played_in c' events' opening) → IsUnfit (core.means c) old new x kept fault
      → IsStepCause disk.told (shown c events opening old) (shown c' events' opening new) (Restart x kept by) fault
  step_cause kept (NotNow reason) same unfit = absurd unfit
  step_cause kept (Full y) same unfit =
      let here = subst (λ (k : Bool). IsTooLong (shown c' events' opening new) (Restart x k by) x) (sym unfit.1) (too_long same.state unfit.2) in
      (subst (λ (z : ℕ). IsTooLong (shown c' events' opening new) (Restart x kept by) z) (sym unfit.0) here, same)
  step_cause kept (WentDown y) same unfit = absurd unfit
  step_cause kept (OpenFault y) same unfit =
      (subst (λ (z : ℕ). StaysDown disk.told (shown c events opening old) (shown c' events' opening new) (Restart x kept by) z) (sym unfit.0) (stays_down kept unfit.1), same)
  step_cause kept NoMemory same unfit = same

  -- a journal that is full is ready
  pub unfit_ready : (kept : Bool) (fault : StepFault) (y : ℕ) → IsUnfit (core.means c) old new x kept fault → fault ≡ Full y → (y ≡ x) × IsReadyAt new x
  unfit_ready kept (Full z) y unfit is = (cc (is, unfit.0), unfit.2.ready)
  unfit_ready kept (NotNow reason) y unfit is = absurd unfit
  unfit_ready kept (WentDown z) y unfit is = absurd unfit
  unfit_ready kept (OpenFault z) y unfit is = absurd (cc is)
  unfit_ready kept NoMemory y unfit is = absurd (cc is)
