-- What is known of a world while it is run.
use Rattle.std.specs.Prelude.{◌≡◌, ◌⊎◌, ℕ, ◌^◌, ◌<◌, Bool, true, List, length, Option, Result, Ok, Err}
use Rattle.std.specs.Io.KnownBytes.{Appends}
use Rattle.vs_base.specs.Faults.{Rose}
use Rattle.vs_base.specs.Numbers.{IsSetNo}
use Rattle.vs_disk.specs.Told as disk
use Rattle.vs_event.specs.Event.{events_text}
use Rattle.vs_host.specs.Calls.{AppendsFront}
use Rattle.vs_host.specs.Told.{Told}
use Rattle.vs_legal.specs.Laws.{AreBasesNamed}
use Rattle.vs_machine.specs.Driven.{IsDriven}
use Rattle.vs_machine.specs.Kinds.Stops.{is_finished}
use Rattle.vs_machine.specs.Report.{report}
use Rattle.vs_machine.specs.Settling.{IsSettled}
use Rattle.vs_machine.specs.State.{has_set}
use Rattle.vs_settle.specs.Stopped as settle
use Rattle.vs_settle.specs.declared.fault.SettleFault.{SettleFault}
use Rattle.vs_settle.specs.declared.fault.SettleFault.TheVariants as stop
use Rattle.vs_world.specs.Began.{start_of}
use Rattle.vs_world.specs.Counted.{IsCounted}
use Rattle.vs_world.specs.Played.{began, state_of}
use Rattle.vs_world.specs.World.{World, IsKept, IsLengthAt}
use Rattle.vs_drive.specs.Ends.{IsDriveCause}
use Rattle.vs_drive.specs.declared.driver.DriveFault.{DriveFault}
use Rattle.vs_drive.specs.declared.driver.DriveFault.TheVariants as drive
use Rattle.vs_top.specs.declared.fault.Fault.{Fault}
use Rattle.vs_top.specs.declared.fault.Fault.TheVariants as faults
use Rattle.vs_top.specs.Statuses.{fault_line}

-- its posts were steered, no mover waited, and no fault was made up
pub record IsSteered {D : Type 0} (told : D → disk.Told) (w : World D) : Type 0 where
  pub flags : ℕ → Bool
  pub driven : IsDriven (start_of (began w.played)) w.played.events flags
  pub counted : (x : ℕ) → has_set (state_of w.played) x ≡ true → IsCounted told w x

-- from the old world, in which nothing had happened, all was driven to an answer
pub record IsDrivenFrom {D : Type 0} (told : D → disk.Told) (old new : World D) : Type 0 where
  pub began : began new.played ≡ began old.played
  pub steered : IsSteered told new
  pub finished : is_finished (state_of new.played) ≡ true

-- all is answered, and the cluster came to rest
pub record IsAtRest {D : Type 0} (w : World D) : Type 0 where
  pub finished : is_finished (state_of w.played) ≡ true
  pub settled : IsSettled (state_of w.played)

-- ---- what is told of it

-- the report was put out, which has its length in 64 bits and keys and values for rows, and the text of the events was logged
pub record IsTold {D : Type 0} (w : World D) (old new : Told) : Type 0 where
  pub short : length (report (state_of w.played)) < 2 ^ 64
  pub named : AreBasesNamed (state_of w.played)
  pub out : Appends old.out new.out (report (state_of w.played))
  pub log : Appends old.log new.log (events_text w.played.events)

-- a write failed, that of the report or that of the events
pub record IsToldInPart {D : Type 0} (w : World D) (old new : Told) : Type 0 where
  pub rose : Rose old.write_faults new.write_faults
  pub at : (AppendsFront old.out new.out (report (state_of w.played)) × (new.log ≡ old.log))
      ⊎ (Appends old.out new.out (report (state_of w.played)) × AppendsFront old.log new.log (events_text w.played.events))

-- nothing was put out or logged
pub record IsUntold (old new : Told) : Type 0 where
  pub out : new.out ≡ old.out
  pub log : new.log ≡ old.log

abbrev pub IsTellingCause : {D : Type 0} → World D → Fault → Told → Told → Type 0
IsTellingCause w faults.Write old new = IsToldInPart w old new
IsTellingCause w faults.NoMemory old new = IsUntold old new
IsTellingCause w fault old new = ⊥

-- the text of the events was logged and then the line, each whole or, where a write failed, a front of it
pub record IsLoggedWithLine {D : Type 0} (w : World D) (line : List ℕ) (old new : Told) : Type 0 where
  pub out : new.out ≡ old.out
  pub between : Option (List ℕ)
  pub events : Appends old.log between (events_text w.played.events) ⊎ (AppendsFront old.log between (events_text w.played.events) × Rose old.write_faults new.write_faults)
  pub line_is : Appends between new.log line ⊎ (AppendsFront between new.log line × Rose old.write_faults new.write_faults)

-- ---- how it ends, once all is answered

-- the set whose disk failed, while the cluster came to rest
pub record HasFailedAtRest {D : Type 0} (told : D → disk.Told) (old new : World D) (before after : Told) : Type 0 where
  pub set : ℕ
  pub number : IsSetNo set
  pub failed : settle.HasFailed told old new set
  pub logged : IsLoggedWithLine new (fault_line (faults.Disk set)) before after

abbrev pub IsEnd : {D : Type 0} → (D → disk.Told) → ℕ → World D → World D → Told → Told → Type 0
IsEnd told status old new before after =
    ((status ≡ 0) × IsAtRest new × IsTold new before after)
    ⊎ ((status ≡ 7) × HasFailedAtRest told old new before after)

abbrev pub IsEndCause : {D : Type 0} → Fault → World D → Told → Told → Type 0
IsEndCause faults.Write new before after = IsAtRest new × IsToldInPart new before after
IsEndCause faults.NoMemory new before after = IsUntold before after
IsEndCause (faults.Full x) new before after = settle.IsFull new x × IsUntold before after
IsEndCause fault new before after = ⊥

-- ---- from a world in which nothing has happened to disks that come back

abbrev pub from_drivers : DriveFault → Fault
from_drivers (drive.Full x) = faults.Full x
from_drivers drive.NoMemory = faults.NoMemory

-- all was driven to an answer in the middle, and then the cluster came to rest, or the service did what it could
pub record IsRun {D : Type 0} (told : D → disk.Told) (first middle last : World D) (back : List D) : Type 0 where
  pub driven : IsDrivenFrom told first middle
  pub before : IsKept told middle
  pub began : began last.played ≡ began middle.played
  pub steered : IsSteered told last
  pub kept : IsKept told last
  pub disks : last.disks ≡ back

-- the drivers stopped, for this fault
pub record IsStopped {D : Type 0} (told : D → disk.Told) (first last : World D) (back : List D) (fault : DriveFault) : Type 0 where
  pub cause : IsDriveCause first last fault
  pub length_is : (x : ℕ) → fault ≡ drive.Full x → IsLengthAt told last x
  pub kept : IsKept told last
  pub disks : last.disks ≡ back

abbrev pub from_service : SettleFault → Fault
from_service (stop.DiskFault x) = faults.Disk x
from_service (stop.Full x) = faults.Full x
from_service stop.NoMemory = faults.NoMemory

abbrev pub IsOfDisk : Fault → Type 0
IsOfDisk (faults.Disk x) = Unit {0}
IsOfDisk fault = ⊥

abbrev pub IsRunOn : {D : Type 0} → (D → disk.Told) → World D → Result ℕ Fault → List D → Told → Told → Type 0
IsRunOn {D} told first (Ok status) back before after = (middle : World D) × (last : World D) × IsRun told first middle last back × IsEnd told status middle last before after
IsRunOn {D} told first (Err fault) back before after =
    ((last : World D) × (stopped : DriveFault) × (fault ≡ from_drivers stopped) × IsStopped told first last back stopped × IsUntold before after)
    ⊎ ((middle : World D) × (last : World D) × IsRun told first middle last back × IsEndCause fault last before after)
