-- The cluster that was driven and brought to rest is a run of the number.
use Rattle.std.proofs.Common.{◌≡◌, ℕ, ◌^◌, ◌<◌, true, arith}
use Rattle.vs_core.specs.Safety.{SafeRuns}
use Rattle.vs_disk.specs.Told.{Told}
use Rattle.vs_machine.specs.Driven.{FaultNumbers}
use Rattle.vs_machine.specs.Journals.{held_as}
use Rattle.vs_machine.specs.Kinds.Stops.{is_finished}
use Rattle.vs_machine.specs.Laws.{BegunInputs, InputRuns}
use Rattle.vs_machine.specs.Settling.{IsSettled}
use Rattle.vs_machine.specs.State.{has_set}
use Rattle.vs_run.specs.Worlds.{IsSteered}
use Rattle.vs_world.specs.Began.{start_of}
use Rattle.vs_world.specs.Played.{began, state_of}
use Rattle.vs_world.specs.World.{World, IsKept}
use Rattle.vs_generating.specs.Running.{IsBeginning, IsRunOf}
use Rattle.vs_generating.proofs.DisksInMemory.{disk_of_set}
use Rattle.vs_generating.proofs.Unfailed.{fault_in}

module _ {D : Type 0} (told : D → Told) (never : (d : D) → (told d).faults ≡ 0) (numbers : FaultNumbers) (inputs : InputRuns) (begun : BegunInputs) (law : SafeRuns) where
  -- no set has had a fault
  no_number : (w : World D) (x : ℕ) → IsKept told w → IsSteered told w → has_set (state_of w.played) x ≡ true → (state_of w.played).last_fault x ≡ 0
  no_number w x kept s set =
      let it = disk_of_set told inputs w x kept set in
      let none = never it.0 in
      let few : (told it.0).faults < 2 ^ 63 = omega (arith, none) in
      let counted = s.counted x set it.0 it.1 few in
      omega (arith, none, counted)

  pub run_of : (number : ℕ) (w : World D) → IsBeginning number (began w.played) → IsKept told w → IsSteered told w → is_finished (state_of w.played) ≡ true → IsSettled (state_of w.played) → IsRunOf number w.played.events (state_of w.played)
  run_of number w beginning kept s finished settled = record {
    began = began w.played;
    beginning = beginning;
    ran = kept.run.runs;
    safe = law (began w.played).config (began w.played).scripts (held_as (began w.played).states) w.played.events kept.run.opens;
    finished = finished;
    settled = settled;
    steered = s.driven.posts;
    unwaited = s.driven.unwaited;
    unfailed = λ m x n e at.
        let has = fault_in numbers begun (start_of (began w.played)) (state_of w.played) w.played.events m x n e kept.run.runs at in
        omega (arith, has.some, no_number w x kept s has.set);
  }
