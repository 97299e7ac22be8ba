-- What the ends of all commands have in common.
use Rattle.std.specs.Prelude.{◌≡◌, ◌⊎◌, ◌≤◌, ℕ, List}
use Rattle.std.specs.Io.KnownBytes.{Appends}
use Rattle.vs_base.specs.Faults.{Rose}
use Rattle.vs_host.specs.Told.{Told}
use Rattle.vs_host.specs.Calls.{SameFiles, AppendsFront}

-- the line was logged, or a front of it where a write failed
abbrev pub IsLogged : List ℕ → Told → Told → Type 0
IsLogged line old new =
    Appends old.log new.log line
    ⊎ (AppendsFront old.log new.log line × Rose old.write_faults new.write_faults)

-- no call changes the files, and no count of faults falls
pub record KeepsHost (old new : Told) : Type 0 where
  pub files : SameFiles old new
  pub read_faults : old.read_faults ≤ new.read_faults
  pub write_faults : old.write_faults ≤ new.write_faults

-- neither a read nor a write failed
pub record NoneRose (old new : Told) : Type 0 where
  pub reads : ¬ (Rose old.read_faults new.read_faults)
  pub writes : ¬ (Rose old.write_faults new.write_faults)

-- the line was logged, and nothing else was done
pub record OnlyLogs (line : List ℕ) (old new : Told) : Type 0 where
  pub logged : IsLogged line old new
  pub host : KeepsHost old new
  pub out : new.out ≡ old.out
  pub taken : new.taken ≡ old.taken
  pub read_faults : new.read_faults ≡ old.read_faults
