-- One event after another is played on a world.
use Rattle.std.proofs.Common.{◌≡◌, ℕ, zero, suc, ◌+◌, ◌<◌, List, [], ◌∷◌, ◌++◌, length, take, get_or, Some, Result, Ok, Err, refl, sym, ap, subst, arith, ◌∙◌}
use Rattle.std.proofs.lemmas.List.{take_more}
use Rattle.std.proofs.lemmas.Option.{slice_get_within}
use Rattle.vs_disk.specs.Model.{Keeps}
use Rattle.vs_disk.specs.Told.{Told}
use Rattle.vs_event.specs.declared.event.Event.{Event}
use Rattle.vs_machine.specs.Step.{run}
use Rattle.vs_store.proofs.Told.{keeps_then}
use Rattle.vs_stores.proofs.Lists.{get_within, some_is}
use Rattle.vs_stores.specs.Numbered.{at_number}
use Rattle.vs_world.proofs.Disks.{keeps_itself}
use Rattle.vs_world.proofs.Playing.{run_more}
use Rattle.vs_world.specs.Began.{start_of}
use Rattle.vs_world.specs.Played.{IsAdvanced, began, state_of}
use Rattle.vs_world.specs.World.{World, OfDisks}
use Rattle.vs_world.specs.declared.fault.StepFault.{StepFault}
use Rattle.vs_top.specs.Stops.{HasPlayed, IsFresh}

-- a list that is no shorter has an item there, too
pub there_too : {A : Type 0} (xs ys : List A) (x : ℕ) (y : A) → length xs ≡ length ys → at_number ys x ≡ Some y → (a : A) × (at_number xs x ≡ Some a)
there_too xs ys zero y same at = absurd cc
there_too xs ys (suc i) y same at = get_within xs i (omega (arith, same, slice_get_within ys i y at))

abbrev pub failed : StepFault → Result (Unit {0}) StepFault
failed fault = Err fault

module _ {D : Type 0} (told : D → Told) where
  abbrev AreKept : World D → World D → Type 0
  AreKept old new = (x : ℕ) → OfDisks old new x (λ was is. Keeps (told was) (told is))

  pub same_keeps : (w : World D) → AreKept w w
  same_keeps w x was is before after = subst (λ (d : D). Keeps (told was) (told d)) (some_is was is (sym before ∙ after)) (keeps_itself (told was))

  pub are_kept : (a b c : World D) → length b.disks ≡ length c.disks → AreKept a b → AreKept b c → AreKept a c
  are_kept a b c count f g x was is before after =
      let mid = there_too b.disks c.disks x is count after in
      keeps_then (told was) (told mid.0) (told is) (f x was mid.0 before mid.1) (g x mid.0 is mid.1 after)

  -- none yet
  pub played_none : (w : World D) (events : List Event) → IsFresh w → HasPlayed told w w events 0
  played_none w events fresh = record { opening = refl; ran = ap Ok (sym fresh.state); list = fresh.events; keeps = same_keeps w; disks = fresh.disks }

  -- one more
  pub played_more : (old mid new : World D) (events : List Event) (n : ℕ) (e : Event) → n < length events → e ≡ get_or events n e → HasPlayed told old mid events n
      → IsAdvanced mid.played new.played e → AreKept mid new → length new.disks ≡ 32 → HasPlayed told old new events (n + 1)
  played_more old mid new events n e within is so_far more keeps count =
      let longer : take (n + 1) events ≡ take n events ++ e ∷ [] = take_more events n e within ∙ ap (λ (x : Event). take n events ++ x ∷ []) (sym is) in
      record {
        opening = more.opening ∙ so_far.opening;
        ran = ap (λ (es : List Event). run (start_of (began old.played)) es) longer ∙ run_more (start_of (began old.played)) (state_of mid.played) (state_of new.played) (take n events) e so_far.ran more.step;
        list = more.events ∙ ap (λ (es : List Event). es ++ e ∷ []) so_far.list ∙ sym longer;
        keeps = are_kept old mid new (so_far.disks ∙ sym count) so_far.keeps keeps;
        disks = count;
      }
