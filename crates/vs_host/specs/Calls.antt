-- What the calls of a host do.
use Rattle.std.specs.Prelude.{◌≡◌, ℕ, ◌≤◌, ◌<◌, List, length, take, Option, IfSome, Result, IfOk, IsErrOf, MatchResult, OnErr}
use Rattle.std.specs.Global.{Vec}
use Rattle.std.specs.Io.KnownBytes.{Appends}
use Rattle.vs_base.specs.Faults.{Rose}
use Rattle.vs_host.specs.Told.{Told}
use Rattle.vs_host.specs.declared.fault.HostRead.{HostRead}
use Rattle.vs_host.specs.declared.fault.HostRead.TheVariants.{Failed, TooLong}
use Rattle.vs_host.specs.declared.fault.HostFailed.{HostFailed}

-- no call changes the files, nor which names may be read
pub record SameFiles (old new : Told) : Type 0 where
  pub file : new.file ≡ old.file
  pub may_read : new.may_read ≡ old.may_read

-- a file was read whole, or it is longer than the limit, or a read failed
pub record Reads (name : List ℕ) (limit : ℕ) (old new : Told)
    (result : Result (Vec ℕ) HostRead) : Type 0 where
  -- the bytes are those of the file
  pub told : IfOk result (λ bytes. IfSome (old.file name) (λ file. bytes.items ≡ file))
  pub taken : IfOk result (λ bytes. new.taken ≡ length bytes.items)
  pub within : IfOk result (λ bytes. length bytes.items ≤ limit)
  -- more than the limit was taken; the file is longer than that
  pub too_long : IsErrOf result TooLong → limit < new.taken
  pub too_long_told : IsErrOf result TooLong → IfSome (old.file name) (λ file. limit < length file)
  pub failed : IsErrOf result Failed → Rose old.read_faults new.read_faults
  pub later : old.read_faults ≤ new.read_faults
  -- what stays
  pub files : SameFiles old new
  pub out : new.out ≡ old.out
  pub log : new.log ≡ old.log
  pub write_faults : new.write_faults ≡ old.write_faults

-- the first bytes of these were added to a text, which may be all of them or none
abbrev pub AppendsFront : Option (List ℕ) → Option (List ℕ) → List ℕ → Type 0
AppendsFront old new bytes = (n : ℕ) × Appends old new (take n bytes)

-- all bytes were added to a text, or the write failed and a front of them was
abbrev pub Puts : {U : Type 0}
    → List ℕ → Option (List ℕ) → Option (List ℕ) → Result U HostFailed → Type 0
Puts bytes old new result =
    MatchResult result (λ _. Appends old new bytes) (λ _. AppendsFront old new bytes)

-- bytes were put out
pub record PutsOut {U : Type 0} (bytes : List ℕ) (old new : Told)
    (result : Result U HostFailed) : Type 0 where
  pub out : Puts bytes old.out new.out result
  pub failed : OnErr result (Rose old.write_faults new.write_faults)
  pub later : old.write_faults ≤ new.write_faults
  -- what stays
  pub files : SameFiles old new
  pub log : new.log ≡ old.log
  pub taken : new.taken ≡ old.taken
  pub read_faults : new.read_faults ≡ old.read_faults

-- bytes were logged
pub record Logs {U : Type 0} (bytes : List ℕ) (old new : Told)
    (result : Result U HostFailed) : Type 0 where
  pub log : Puts bytes old.log new.log result
  pub failed : OnErr result (Rose old.write_faults new.write_faults)
  pub later : old.write_faults ≤ new.write_faults
  -- what stays
  pub files : SameFiles old new
  pub out : new.out ≡ old.out
  pub taken : new.taken ≡ old.taken
  pub read_faults : new.read_faults ≡ old.read_faults
