-- The disks of a cluster, which never fail.
use Rattle.std.proofs.Common.{◌≡◌, ℕ, zero, suc, ◌-◌, ◌^◌, ◌≤◌, min, true, false, List, length, Some, ap, ◌∙◌, arith}
use Rattle.vs_disk.specs.Told.{Told, Failed}
use Rattle.vs_disk.specs.declared.plain.PlainDisk.{PlainDisk}
use Rattle.vs_machine.specs.Laws.{InputRuns}
use Rattle.vs_machine.specs.State.{has_set, sets_of}
use Rattle.vs_settle.specs.Stopped.{HasFailed, IsSettleCause}
use Rattle.vs_stores.specs.Numbered.{at_number}
use Rattle.vs_stores.proofs.Lists.{get_within}
use Rattle.vs_world.proofs.Disks.{is_set}
use Rattle.vs_world.proofs.Playing.{is_reached}
use Rattle.vs_world.specs.Played.{began, state_of}
use Rattle.vs_world.specs.World.{World, IsKept, OfDisk, disk_at, length_of}
use Rattle.vs_drive.specs.Ends.{IsDriveCause}
use Rattle.vs_drive.specs.declared.driver.DriveFault.{DriveFault}
use Rattle.vs_drive.specs.declared.driver.DriveFault.TheVariants as drive
use Rattle.vs_settle.specs.declared.fault.SettleFault.{SettleFault}
use Rattle.vs_settle.specs.declared.fault.SettleFault.TheVariants as settle
use Rattle.vs_generating.specs.Faults.{IsNoDiskFault, IsOfDrivers}

-- what a disk in memory tells
abbrev pub told_of : PlainDisk → Told
told_of d = record {
  is_open = true;
  tells_reads = true;
  is_honest = false;
  reads_as = d.bytes.items;
  may_leave = λ c. ⊥;
  moment = 0;
  left_since = λ t c. ⊥;
  reserved = d.room;
  faults = 0;
}

-- one of 32 disks
pub disk_of : {D : Type 0} (disks : List D) (x : ℕ) → length disks ≡ 32 → 1 ≤ x → x ≤ 32 → (it : D) × (at_number disks x ≡ Some it)
disk_of disks zero count first last = absurd (omega (arith, first))
disk_of disks (suc i) count first last = get_within disks i (omega (arith, count, last))

-- there are 32 sets at most
pub few_sets : {D : Type 0} (told : D → Told) (inputs : InputRuns) (w : World D) → IsKept told w → sets_of (state_of w.played) ≤ 32
few_sets told inputs w kept = (inputs (state_of w.played) (is_reached w.played kept.run)).lawful.sets.1

-- a set has a disk
pub disk_of_set : {D : Type 0} (told : D → Told) (inputs : InputRuns) (w : World D) (x : ℕ) → IsKept told w → has_set (state_of w.played) x ≡ true → (it : D) × (disk_at w x ≡ Some it)
disk_of_set told inputs w x kept set =
    let within = is_set (sets_of (state_of w.played)) x set in
    disk_of w.disks x kept.disks within.0 (omega (arith, within.1, few_sets told inputs w kept))

-- a count that stays 0 doesn't rise
pub never_failed : (was is : Told) → is.faults ≡ 0 → ¬ (Failed was is)
never_failed was is none rose = omega (arith, none, rose)

-- so the service doesn't stop for a disk
pub none_failed : {D : Type 0} (told : D → Told) (inputs : InputRuns) (never : (d : D) → (told d).faults ≡ 0) (old new : World D) (x : ℕ) → IsKept told old → IsKept told new → ¬ (HasFailed told old new x)
none_failed told inputs never old new x before after failed =
    let within = is_set (sets_of (state_of new.played)) x failed.set in
    let last : x ≤ 32 = omega (arith, within.1, few_sets told inputs new after) in
    let was = disk_of old.disks x before.disks within.0 last in
    let is = disk_of new.disks x after.disks within.0 last in
    never_failed (told was.0) (told is.0) (never is.0) (failed.failed was.0 is.0 was.1 is.1)

-- no journal of theirs is nearly full, where it may have every length of 64 bits
pub never_full : (w : World PlainDisk) (x n : ℕ) → IsKept told_of w → InputRuns → IsOfDrivers w (drive.Full x) → n ≡ min (length_of w x) (2 ^ 64 - 1) → OfDisk w x (λ it. n ≤ (told_of it).reserved) → ⊥
never_full w x n kept inputs full length_is reserved =
    let it = disk_of_set told_of inputs w x kept full.1.has in
    omega (arith, it.0.bounded, reserved it.0 it.1, length_is, full.0, full.1.above)

-- ---- why the work stops

pub of_drivers : {D : Type 0} (old new : World D) (fault : DriveFault) → (began old.played).limit ≡ 2 ^ 64 - 1 → IsDriveCause old new fault → IsOfDrivers new fault
of_drivers old new (drive.Full x) limit cause = (ap (λ b. b.limit) cause.0 ∙ limit, cause.1)
of_drivers old new drive.NoMemory limit cause = tt

pub of_service : {D : Type 0} (told : D → Told) (inputs : InputRuns) (never : (d : D) → (told d).faults ≡ 0) (old new : World D) (fault : SettleFault) → IsKept told old → IsKept told new → IsSettleCause told old new fault → IsNoDiskFault fault
of_service told inputs never old new (settle.DiskFault x) before after cause = none_failed told inputs never old new x before after cause
of_service told inputs never old new (settle.Full x) before after cause = tt
of_service told inputs never old new settle.NoMemory before after cause = tt
