-- What is known of posts, waits and fault numbers stays while the cluster comes to rest.
use Rattle.std.proofs.Common.{◌≡◌, ℕ, suc, Bool, true, List, [], ◌∷◌, ◌++◌, length, Result, Ok, Err, sym, ap, subst, ◌∙◌, arith, append_assoc, inl, inr}
use Rattle.std.specs.Prelude.{◌⊎◌, All, OnOk, OnErr}
use Rattle.std.proofs.lemmas.List.{append-nil}
use Rattle.vs_config.specs.Configuration.{Configuration}
use Rattle.vs_disk.specs.Told.{Told}
use Rattle.vs_event.specs.declared.event.Event.{Event}
use Rattle.vs_event.specs.declared.event.Event.TheVariants.{Deliver, Hear, Ask, Condemn, Wipe, Forget, Restart, Fault}
use Rattle.vs_event.specs.declared.event.Recorded.{Recorded}
use Rattle.vs_machine.specs.Driven.{IsDriven, IsNoPost, DrivenByOthers}
use Rattle.vs_machine.specs.Laws.{BegunInputs}
use Rattle.vs_machine.specs.State.{State, has_set}
use Rattle.vs_machine.specs.Tables.{is_to}
use Rattle.vs_settle.specs.Service.{IsService, AddsServices}
use Rattle.vs_settle.specs.Stopped.{AddsAndFails, KeepsFaults}
use Rattle.vs_settle.specs.declared.fault.SettleFault.{SettleFault}
use Rattle.vs_world.proofs.Playing.{config_is}
use Rattle.vs_world.specs.Began.{begun, start_of}
use Rattle.vs_world.specs.Played.{began, state_of}
use Rattle.vs_world.specs.World.{World, IsKept}
use Rattle.vs_run.specs.Worlds.{IsSteered}

service_no_post : (e : Event) → IsService e → IsNoPost e
service_no_post (Deliver x y) is = tt
service_no_post (Hear x y) is = tt
service_no_post (Ask x b) is = tt
service_no_post (Condemn x b) is = tt
service_no_post (Wipe x b) is = tt
service_no_post (Forget x b) is = tt
service_no_post (Restart x kept by) is = tt
service_no_post e is = absurd is

-- more events of the service
driven_more : DrivenByOthers → (start : State) (flags : ℕ → Bool) (events added : List Event) → IsDriven start events flags → All IsService added → IsDriven start (events ++ added) flags
driven_more law start flags events [] driven all = subst (λ (es : List Event). IsDriven start es flags) (sym (append-nil events)) driven
driven_more law start flags events (e ∷ es) driven all =
    subst (λ (es : List Event). IsDriven start es flags) (append_assoc events (e ∷ []) es)
    (driven_more law start flags (events ++ e ∷ []) es (law start events flags e driven (service_no_post e (all 0 e (omega arith)))) (λ k d below. all (suc k) d (omega (arith, below))))

-- and a fault, perhaps
driven_to_fault : DrivenByOthers → (start : State) (flags : ℕ → Bool) (events later : List Event) → IsDriven start events flags → AddsAndFails events later → IsDriven start later flags
driven_to_fault law start flags events later driven adds = subst (λ (es : List Event). IsDriven start es flags) (sym adds.events) (last adds.last adds.fails)
  where
    so_far : IsDriven start (events ++ adds.added) flags
    so_far = driven_more law start flags events adds.added driven adds.services

    last : (end : List Event) → (end ≡ []) ⊎ ((x : ℕ) × (n : ℕ) × (e : Recorded) × (end ≡ Fault x n e ∷ [])) → IsDriven start ((events ++ adds.added) ++ end) flags
    last end (inl none) = rw none (subst (λ (es : List Event). IsDriven start es flags) (sym (append-nil (events ++ adds.added))) so_far)
    last end (inr one) = rw one.3 (law start (events ++ adds.added) flags (Fault one.0 one.1 one.2) so_far tt)

-- the sets are the same
pub set_before : BegunInputs → {D : Type 0} (told : D → Told) (old new : World D) (x : ℕ) → IsKept told old → IsKept told new → began new.played ≡ began old.played → has_set (state_of new.played) x ≡ true → has_set (state_of old.played) x ≡ true
set_before inputs told old new x before after same there =
    let config : (state_of new.played).config ≡ (state_of old.played).config = config_is inputs new.played after.run ∙ (ap (λ b. b.config) same ∙ sym (config_is inputs old.played before.run)) in
    subst (λ (c : Configuration). is_to (length c.sets) x ≡ true) config there

module _ {D : Type 0} (told : D → Told) (inputs : BegunInputs) (law : DrivenByOthers) where
  steered_at : (old new : World D) → IsKept told old → IsKept told new → began new.played ≡ began old.played → KeepsFaults told old new → (s : IsSteered told old) → IsDriven (start_of (began old.played)) new.played.events s.flags → IsSteered told new
  steered_at old new before after same faults s driven = record {
    flags = s.flags;
    driven = subst (λ b. IsDriven (start_of b) new.played.events s.flags) (sym same) driven;
    counted = λ x there.
        let was = set_before inputs told old new x before after same there in
        faults.counted x was (s.counted x was);
  }

  -- whatever the service answers
  pub steered_still : {A : Type 0} (r : Result A SettleFault) (old new : World D) → IsKept told old → IsKept told new → new.played.opening ≡ old.played.opening → KeepsFaults told old new → OnOk r (AddsServices old.played.events new.played.events)
      → OnErr r (AddsAndFails old.played.events new.played.events) → IsSteered told old → IsSteered told new
  steered_still (Ok a) old new before after same faults adds fails s =
      steered_at old new before after (ap begun same) faults s
      (subst (λ (es : List Event). IsDriven (start_of (began old.played)) es s.flags) (sym adds.events) (driven_more law (start_of (began old.played)) s.flags old.played.events adds.added s.driven adds.services))
  steered_still (Err e) old new before after same faults adds fails s =
      steered_at old new before after (ap begun same) faults s (driven_to_fault law (start_of (began old.played)) s.flags old.played.events new.played.events s.driven fails)
