-- Why a world that was opened isn't played on.
use Rattle.std.proofs.Common.{◌≡◌, ◌≤◌, ◌<◌, ℕ, zero, suc, ◌+◌, List, length, Some, Result, Ok, Err, refl, sym, ap, subst, arith, inl, inr, ⊎_elim, ◌∙◌}
use Rattle.std.specs.Prelude.{IsOkAnd, slice_get, ◌⊎◌}
use Rattle.std.proofs.lemmas.Bool.{cases_lt}
use Rattle.vs_base.specs.Faults.{Rose}
use Rattle.vs_config.specs.Configuration.{Configuration}
use Rattle.vs_disk.specs.Model.{Keeps}
use Rattle.vs_disk.specs.Told.{Told, Failed}
use Rattle.vs_event.specs.declared.event.Event.{Event}
use Rattle.vs_script.specs.Scripts.{Scripts}
use Rattle.vs_machine.specs.Journals.{written}
use Rattle.vs_machine.specs.Laws.{BegunInputs}
use Rattle.vs_machine.specs.State.{State}
use Rattle.vs_store.specs.Standing.{Standing, opened, entry_len}
use Rattle.vs_store.specs.declared.fault.StoreFault.{StoreFault}
use Rattle.vs_stores.specs.Numbered.{at_number}
use Rattle.vs_stores.proofs.Lists.{some_is}
use Rattle.vs_world.proofs.Disks.{keeps_itself}
use Rattle.vs_world.specs.Began.{begun}
use Rattle.vs_world.specs.Journals.{head_of}
use Rattle.vs_world.specs.Opened.{IsOpened}
use Rattle.vs_world.specs.Played.{began, state_of}
use Rattle.vs_world.specs.World.{World, IsKept, OfDisks, length_of}
use Rattle.vs_world.specs.declared.fault.StepFault.{StepFault}
use Rattle.vs_world.specs.declared.fault.StepFault.TheVariants.{NotNow, Full, WentDown, OpenFault, NoMemory}
use Rattle.vs_top.specs.Plays.{Played, Reaches, HasFailed, IsPlayCause, AreFit, fault_at, played_on, journal_limit}
use Rattle.vs_world.specs.NotOpened.{IsNotOpened}
use Rattle.vs_world.specs.declared.fault.WorldFault.{WorldFault}
use Rattle.vs_world.specs.declared.fault.WorldFault.TheVariants as world
use Rattle.vs_top.specs.Faults.{IsOfPlay, IsOfSets}
use Rattle.vs_top.specs.Stops.{HasPlayed, StopsAt, Goes}
use Rattle.vs_top.specs.declared.play.PlayFault.{PlayFault}
use Rattle.vs_top.specs.declared.play.PlayFault.TheVariants as faults
use Rattle.vs_top.proofs.Playing.{is_begun, are_fit, config_now}
use Rattle.vs_top.proofs.Stopping.{there_too}

-- faults that rose later rose
rose_later : (a b c : ℕ) → a ≤ b → Rose b c → Rose a c
rose_later a b c more rose = omega (arith, more, rose)

-- a journal of that length is too long for one entry more
too_long : (r : Result Standing StoreFault) (n m limit : ℕ) → limit < n + m → IsOkAnd r (λ s. s.journal.gate + 1 ≡ n) → IsOkAnd r (λ s. limit < s.journal.gate + 1 + m)
too_long (Ok s) n m limit above is = omega (arith, above, is)
too_long (Err e) n m limit above is = is

module _ {D : Type 0} (told : D → Told) (config : Configuration) (scripts : Scripts) (before : List D) (w : World D) (o : IsOpened told config scripts journal_limit before w) where
  -- opening kept the disks, and so did playing
  opening_keeps : (x : ℕ) (was is : D) → at_number before x ≡ Some was → at_number w.disks x ≡ Some is → Keeps (told was) (told is)
  opening_keeps zero was is at now = absurd cc
  opening_keeps (suc i) was is at now = ⊎_elim spare of_set (cases_lt (length config.sets) (suc i))
    where
      spare : length config.sets < suc i → Keeps (told was) (told is)
      spare above = subst (λ (d : D). Keeps (told was) (told d)) (some_is was is (sym at ∙ sym (o.disks.spare (suc i) above) ∙ now)) (keeps_itself (told was))

      of_set : suc i ≤ length config.sets → Keeps (told was) (told is)
      of_set within = (o.disks.of_sets (suc i) was is (omega arith, within) at now).keeps

  module _ (inputs : BegunInputs) (events : List Event) (after : List D) (w1 : World D) (k : IsKept told w1) (disks : w1.disks ≡ after) (n : ℕ) where
    abbrev p : Played D
    p = played_on told config scripts events before after

    reaches : (mid : World D) (e : Event) → HasPlayed told w mid events n → slice_get events n ≡ Some e → Reaches p n (state_of mid.played) e
    reaches mid e so_far there = record { began = began w.played; begun = is_begun told config scripts before w o events after; ran = so_far.ran; there = there }

    -- a disk that failed in the last step
    has_failed : (mid : World D) (x : ℕ) → HasPlayed told w mid events n → OfDisks mid w1 x (λ was is. Failed (told was) (told is)) → HasFailed p x
    has_failed mid x so_far failed was is at now =
        let is_now : at_number w1.disks x ≡ Some is = ap (λ (ds : List D). at_number ds x) disks ∙ now in
        let m = there_too mid.disks w1.disks x is (so_far.disks ∙ sym k.disks) is_now in
        let first = there_too w.disks mid.disks x m.0 (o.kept.disks ∙ sym so_far.disks) m.1 in
        let opening = opening_keeps x was first.0 at first.1 in
        let playing = so_far.keeps x first.0 m.0 first.1 m.1 in
        rose_later (told was).faults (told m.0).faults (told is).faults (omega (arith, opening.faults, playing.faults)) (failed m.0 is m.1 is_now)

    fits_now : (mid : World D) → HasPlayed told w mid events n → w1.played.opening ≡ mid.played.opening → AreFit p (state_of w1.played)
    fits_now mid so_far same = are_fit told config scripts before w o inputs w1 k (same ∙ so_far.opening) events after disks

    pub play_cause : (stop : StepFault) → StopsAt told w w1 events n stop → IsPlayCause (fault_at (n + 1) stop) p
    play_cause (NotNow reason) s = (
      n,
      refl,
      record {
        before = state_of s.mid.played;
        event = s.event;
        reaches = reaches s.mid s.event s.so_far s.there;
        refused = s.refused reason refl;
        fits = subst (AreFit p) (ap (λ (v : World D). state_of v.played) s.cause) (fits_now s.mid s.so_far (ap (λ (v : World D). v.played.opening) s.cause));
      },
    )
    play_cause (Full x) s =
        let long = s.cause.0 in
        let same = s.cause.1 in
        let cfg = config_now told config scripts before w o inputs w1 k (same.opening ∙ s.so_far.opening) in
        let limit : (began w1.played).limit ≡ journal_limit = ap (λ opening. (begun opening).limit) (same.opening ∙ s.so_far.opening) ∙ o.limit_is in (
          n,
          refl,
          record {
            before = state_of s.mid.played;
            event = s.event;
            reaches = reaches s.mid s.event s.so_far s.there;
            recording = long.recording;
            written_is = subst (λ (t : State). written t s.event ≡ Some long.recording) same.state long.written_is;
            at = long.at;
            above = λ it set at tells.
                subst (λ c. IsOkAnd (opened (head_of c x) (told it).reads_as) (λ s. journal_limit < s.journal.gate + 1 + entry_len long.recording.change)) cfg
                (too_long (opened (head_of (state_of w1.played).config x) (told it).reads_as) (length_of w1 x) (entry_len long.recording.change) journal_limit
                (subst (λ y. journal_limit < length_of w1 y + entry_len long.recording.change) long.at (subst (λ l. l < length_of w1 long.recording.at + entry_len long.recording.change) limit long.above))
                (s.length_is x refl it (ap (λ (ds : List D). at_number ds x) disks ∙ at) tells));
            fits = subst (AreFit p) same.state (fits_now s.mid s.so_far same.opening);
          },
        )
    play_cause (WentDown x) s = (
      (
        n,
        refl,
        record {
          before = state_of s.mid.played;
          event = s.event;
          reaches = reaches s.mid s.event s.so_far s.there;
          last = state_of w1.played;
          after_fault = inr (s.cause.number, s.cause.recorded, s.cause.is, s.cause.advanced.step);
          fits = fits_now s.mid s.so_far s.cause.advanced.opening;
        },
      ),
      has_failed s.mid x s.so_far s.cause.failed,
    )
    play_cause (OpenFault x) s = (
      (
        n,
        refl,
        record {
          before = state_of s.mid.played;
          event = s.event;
          reaches = reaches s.mid s.event s.so_far s.there;
          last = state_of w1.played;
          after_fault = inl s.cause.1.state;
          fits = fits_now s.mid s.so_far s.cause.1.opening;
        },
      ),
      has_failed s.mid x s.so_far s.cause.0.failed,
    )
    play_cause NoMemory s = tt

  module _ (inputs : BegunInputs) (events : List Event) (after : List D) (w1 : World D) (k : IsKept told w1) (disks : w1.disks ≡ after) where
    -- memory was refused, or an event isn't carried out
    pub stop_cause : (fault : PlayFault) → (fault ≡ faults.NoMemory) ⊎ Goes told w w1 events (Err fault) → IsPlayCause fault (played_on told config scripts events before after)
    stop_cause fault (inl none) = subst (λ (f : PlayFault). IsPlayCause f (played_on told config scripts events before after)) (sym none) tt
    stop_cause fault (inr (n, stop, is, at)) = subst (λ (f : PlayFault). IsPlayCause f (played_on told config scripts events before after)) (sym is) (play_cause inputs events after w1 k disks n stop at)

-- ---- the sets that are named

named_at : (n m : ℕ) (stop : StepFault) → IsOfPlay (fault_at m stop) n
named_at n m (NotNow reason) = tt
named_at n m (Full x) = tt
named_at n m (WentDown x) = tt
named_at n m (OpenFault x) = tt
named_at n m NoMemory = tt

pub stop_named : {D : Type 0} (told : D → Told) (w w1 : World D) (events : List Event) (n : ℕ) (fault : PlayFault) → (fault ≡ faults.NoMemory) ⊎ Goes told w w1 events (Err fault) → IsOfPlay fault n
stop_named told w w1 events n fault (inl none) = subst (λ (f : PlayFault). IsOfPlay f n) (sym none) tt
stop_named told w w1 events n fault (inr (m, stop, is, at)) = subst (λ (f : PlayFault). IsOfPlay f n) (sym is) (named_at n (m + 1) stop)

pub opening_named : {D : Type 0} (told : D → Told) (config : Configuration) (limit : ℕ) (before after : List D) (fault : WorldFault) → IsNotOpened told config limit before fault after → IsOfSets fault (length config.sets)
opening_named told config limit before after (world.OfSet x fault) refused = refused.cause.set.1
opening_named told config limit before after (world.Incoherent bucket entries) refused = tt
opening_named told config limit before after world.NoMemory refused = tt
