-- How what a cluster keeps goes on.
use Rattle.std.proofs.Common.{◌≡◌, ℕ, ◌+◌, ◌≤◌, Bool, true, false, List, [], ◌∷◌, ◌++◌, Result, Ok, Err, Some, length, refl, sym, ap, subst, ◌∙◌, arith}
use Rattle.std.specs.Prelude.{◌↔◌, IfErr, IfOk, OnOk}
use Rattle.vs_disk.specs.Told.{Told}
use Rattle.vs_event.specs.declared.event.Event.{Event}
use Rattle.vs_event.specs.declared.event.Event.TheVariants.{Fault, Post, Restart}
use Rattle.vs_event.specs.declared.event.RestartBy.{RestartBy}
use Rattle.vs_event.specs.declared.reason.Reason.{Reason}
use Rattle.vs_machine.specs.Driven.{DrivenAtFirst, DrivenByOthers, DrivenByPosts, GoesByHint, IsDriven, IsNoPost, IsPostAllowed, flags_of}
use Rattle.vs_machine.specs.Laws.{BegunInputs}
use Rattle.vs_machine.specs.State.{State, has_set, sets_of}
use Rattle.vs_machine.specs.Step.{run}
use Rattle.vs_machine.specs.Tables.{is_to, put}
use Rattle.vs_world.specs.Began.{begun, start_of}
use Rattle.vs_world.specs.Counted.{IsCounted, KeepsCount}
use Rattle.vs_world.specs.Played.{IsAdvanced, IsRun, IsSame, Played, began, state_of}
use Rattle.vs_world.specs.Restarts.{IsRestartCause}
use Rattle.vs_world.specs.Steps.{IsStepCause}
use Rattle.vs_world.specs.World as world
use Rattle.vs_world.specs.World.{World}
use Rattle.vs_world.specs.declared.fault.StepFault.{StepFault}
use Rattle.vs_world.specs.declared.fault.StepFault.TheVariants.{NotNow, Full, WentDown, OpenFault, NoMemory}
use Rattle.vs_world.specs.declared.opening.Opening.{Opening}
use Rattle.vs_cluster.specs.Cluster.{Cluster, IsKept}

-- ---- the list

-- the flags are those of the list after an event, too
record GoesOn (old new : Played) : Type 0 where
  pub opening : new.opening ≡ old.opening
  pub driven : (flags : ℕ → Bool) → IsDriven (start_of (began old)) old.events flags → IsDriven (start_of (began new)) new.events flags

listed : (old new : Played) (events : List Event) (flags : ℕ → Bool) → new.opening ≡ old.opening → new.events ≡ events → IsDriven (start_of (began old)) events flags → IsDriven (start_of (began new)) new.events flags
listed old new events flags opening same driven =
    subst (λ (o : Opening). IsDriven (start_of (begun o)) new.events flags) (sym opening)
    (subst (λ (es : List Event). IsDriven (start_of (began old)) es flags) (sym same) driven)

advanced : DrivenByOthers → (old new : Played) (e : Event) → IsNoPost e → IsAdvanced old new e → GoesOn old new
advanced law old new e none more = record {
  opening = more.opening;
  driven = λ flags driven. listed old new (old.events ++ e ∷ []) flags more.opening more.events (law (start_of (began old)) old.events flags e driven none);
}

same : (old new : Played) → IsSame old new → GoesOn old new
same old new is = record { opening = is.opening; driven = λ flags driven. listed old new old.events flags is.opening is.events driven }

module _ {D : Type 0} (told : D → Told) (law : DrivenByOthers) (old new : World D) where
  equal : new ≡ old → GoesOn old.played new.played
  equal is = subst (λ (w : World D). GoesOn old.played w.played) (sym is) (record { opening = refl; driven = λ flags driven. driven })

  refused : (e : Event) (fault : StepFault) → IsStepCause told old new e fault → GoesOn old.played new.played
  refused e (NotNow reason) cause = equal cause
  refused e (Full x) cause = same old.played new.played cause.1
  refused e (WentDown x) cause = advanced law old.played new.played (Fault x cause.number cause.recorded) tt cause.advanced
  refused e (OpenFault x) cause = same old.played new.played cause.1
  refused e NoMemory cause = same old.played new.played cause

  unraised : (x : ℕ) (by : RestartBy) (fault : StepFault) → IsRestartCause told old new x by fault → GoesOn old.played new.played
  unraised x by (NotNow reason) cause = equal cause
  unraised x by (Full y) cause = absurd cause
  unraised x by (WentDown y) cause = absurd cause
  unraised x by (OpenFault y) cause = same old.played new.played cause.2
  unraised x by NoMemory cause = same old.played new.played cause

-- ---- the sets

-- the sets are those that it began with
begun_sets : BegunInputs → (p : Played) → IsRun p → sets_of (state_of p) ≡ length (began p).config.sets
begun_sets law p r = ap (λ c. length c.sets) (law (start_of (began p)) (state_of p) p.events r.runs).config

same_sets : BegunInputs → (old new : Played) → IsRun old → IsRun new → new.opening ≡ old.opening → sets_of (state_of new) ≡ sets_of (state_of old)
same_sets law old new was is opening = begun_sets law new is ∙ ap (λ (o : Opening). length (begun o).config.sets) opening ∙ sym (begun_sets law old was)

-- ---- what every cluster keeps

module _ {D : Type 0} (told : D → Told) (law : BegunInputs) (old new : World D) (was : world.IsKept told old) (is : world.IsKept told new) (keeps : KeepsCount told old new) where
  counted : new.played.opening ≡ old.played.opening → ((x : ℕ) → has_set (state_of old.played) x ≡ true → IsCounted told old x)
      → (x : ℕ) → has_set (state_of new.played) x ≡ true → IsCounted told new x
  counted opening before x there =
      let here : has_set (state_of old.played) x ≡ true = subst (λ (n : ℕ). is_to n x ≡ true) (same_sets law old.played new.played was.run is.run opening) there in
      keeps x here (before x here)

  -- after an event that is no post, or none
  kept_on : (hints : List Bool) → GoesOn old.played new.played → IsKept told (record { world = old; hints = hints }) → IsKept told (record { world = new; hints = hints })
  kept_on hints on kept = record { driven = on.driven (flags_of hints) kept.driven; counted = counted on.opening kept.counted; flags = kept.flags }

  -- after a step, whatever it answers
  pub kept_stepped : DrivenByOthers → (e : Event) (hints : List Bool) (r : Result (Unit {0}) StepFault) → IsNoPost e → OnOk r (IsAdvanced old.played new.played e) → IfErr r (IsStepCause told old new e)
      → IsKept told (record { world = old; hints = hints }) → IsKept told (record { world = new; hints = hints })
  kept_stepped others e hints (Ok u) none more cause kept = kept_on hints (advanced others old.played new.played e none more) kept
  kept_stepped others e hints (Err fault) none more cause kept = kept_on hints (refused told others old new e fault cause) kept

  -- and after a restart
  pub kept_restarted : DrivenByOthers → (x : ℕ) (by : RestartBy) (hints : List Bool) (r : Result Bool StepFault) → IfOk r (λ pending. IsAdvanced old.played new.played (Restart x pending by)) → IfErr r (IsRestartCause told old new x by)
      → IsKept told (record { world = old; hints = hints }) → IsKept told (record { world = new; hints = hints })
  kept_restarted others x by hints (Ok pending) more cause kept = kept_on hints (advanced others old.played new.played (Restart x pending by) tt more) kept
  kept_restarted others x by hints (Err fault) more cause kept = kept_on hints (unraised told others old new x by fault cause) kept

  -- after a post that was refused
  pub kept_refused : DrivenByOthers → (e : Event) (hints : List Bool) (fault : StepFault) → IsStepCause told old new e fault → IsKept told (record { world = old; hints = hints }) → IsKept told (record { world = new; hints = hints })
  kept_refused others e hints fault cause kept = kept_on hints (refused told others old new e fault cause) kept

  -- after a post that is allowed, with the flag as it went
  pub kept_posted : DrivenByPosts → (hints hints' : List Bool) (c x : ℕ) (flag : Bool) → IsPostAllowed (state_of old.played) (flags_of hints c) c x → (flag ≡ true) ↔ GoesByHint (state_of old.played) c x
      → IsAdvanced old.played new.played (Post c x) → flags_of hints' ≡ put (flags_of hints) c flag → length hints' ≡ 64
      → IsKept told (record { world = old; hints = hints }) → IsKept told (record { world = new; hints = hints' })
  kept_posted posts hints hints' c x flag allowed goes more flags_are count kept = record {
    driven = subst (λ (flags : ℕ → Bool). IsDriven (start_of (began new.played)) new.played.events flags) (sym flags_are)
        (listed old.played new.played (old.played.events ++ Post c x ∷ []) (put (flags_of hints) c flag) more.opening more.events
        (posts (start_of (began old.played)) (state_of old.played) old.played.events (flags_of hints) c x flag kept.driven was.run.runs allowed goes));
    counted = counted more.opening kept.counted;
    flags = count;
  }

-- ---- before all events

module _ {D : Type 0} (told : D → Told) (w : World D) (is : world.IsKept told w) (none : w.played.events ≡ []) where
  begins : start_of (began w.played) ≡ state_of w.played
  begins = state_is (start_of (began w.played)) (state_of w.played) (ap (λ (es : List Event). run (start_of (began w.played)) es) (sym none) ∙ is.run.runs)
    where
      state_is : (s t : State) → ◌≡◌ {A = Result State Reason} (Ok s) (Ok t) → s ≡ t
      state_is s t e = cc

  pub kept_first : DrivenAtFirst → (hints : List Bool) → flags_of hints ≡ (λ c. false) → length hints ≡ 64 → IsKept told (record { world = w; hints = hints })
  kept_first law hints flags_are count = record {
    driven = subst (λ (flags : ℕ → Bool). IsDriven (start_of (began w.played)) w.played.events flags) (sym flags_are)
        (subst (λ (es : List Event). IsDriven (start_of (began w.played)) es (λ c. false)) (sym none) (law (start_of (began w.played))));
    counted = λ x there it at few. omega (arith, is.faults x there it at, ap (λ (s : State). s.last_fault x) begins);
    flags = count;
  }
