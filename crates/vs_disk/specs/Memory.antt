-- What a disk in memory holds and tells.
use Rattle.std.specs.Prelude.{◌≡◌, ℕ, ◌==◌, Bool, true, false, List, [], length, take, reverse, Option, find}
use Rattle.std.specs.Option.{option_map}
use Rattle.vs_disk.specs.declared.memory.MemDisk.{MemDisk}
use Rattle.vs_disk.specs.declared.call.MemCall.{MemCall}
use Rattle.vs_disk.specs.declared.call.FailingCall.{FailingCall}
use Rattle.vs_disk.specs.Told.{Told}
use Rattle.vs_disk.specs.Images.{Images, LeftSince}

-- what it held at first, all of it synced
abbrev pub first_of : MemDisk → List ℕ
first_of disk = disk.first.items

-- the calls that it has had, the first of them first
abbrev pub calls_of : MemDisk → List MemCall
calls_of disk = disk.calls.items

-- what a read gives
abbrev pub bytes_of : MemDisk → List ℕ
bytes_of disk = disk.bytes.items

-- what a crash after so many of its calls may leave
abbrev pub left_after : MemDisk → ℕ → List ℕ → Type 0
left_after disk n = Images (first_of disk) (reverse (take n (calls_of disk)))

-- what a disk in memory tells that held `first` at first, had these calls and reads as these bytes
abbrev pub told_by : Bool → List ℕ → List MemCall → List ℕ → ℕ → ℕ → Told
told_by ready first calls bytes room faults = record {
  is_open = ready;
  tells_reads = true;
  is_honest = true;
  reads_as = bytes;
  may_leave = Images first (reverse calls);
  moment = length calls;
  left_since = LeftSince first calls;
  reserved = room;
  faults = faults;
}

abbrev pub told_of : MemDisk → Told
told_of disk = told_by disk.ready (first_of disk) (calls_of disk) (bytes_of disk) disk.room disk.faults

-- a disk with these bytes, all of them synced, which isn't open and has had no call
pub record IsFresh (file : List ℕ) (failing : List FailingCall) (disk : MemDisk) : Type 0 where
  pub first : first_of disk ≡ file
  pub bytes : bytes_of disk ≡ file
  pub calls : calls_of disk ≡ []
  pub fails : disk.fails.items ≡ failing
  pub shut : disk.ready ≡ false
  pub faults : disk.faults ≡ 0

-- how many bytes the call of this number puts down before it fails, where it is to fail
abbrev pub puts_of : List FailingCall → ℕ → Option ℕ
puts_of fails number = option_map (λ f. f.put) (find (λ f. f.call == number) fails)
