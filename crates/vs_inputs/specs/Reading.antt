-- What reading a file does to the host, and gives.
use Rattle.std.specs.Prelude.{◌≡◌, ◌<◌, ◌≤◌, ℕ, List, length, Some, Result, Ok, Err, IfOk, IfErr, ⊤}
use Rattle.std.specs.Global.{Vec}
use Rattle.vs_base.specs.Faults.{Rose}
use Rattle.vs_host.specs.Told.{Told}
use Rattle.vs_host.specs.Calls.{SameFiles}
use Rattle.vs_inputs.specs.Files.{Files, IsTextOf, HasText, IsTooLong}
use Rattle.vs_inputs.specs.declared.fault.InputFault.{InputFault}
use Rattle.vs_inputs.specs.declared.fault.InputFault.TheVariants.{Text, Read, NoMemory}
use Rattle.vs_inputs.specs.declared.fault.TextFault.{TextFault}
use Rattle.vs_inputs.specs.declared.fault.TextFault.TheVariants.{TooLong}
use Rattle.vs_inputs.specs.declared.read.TheConstants.{MOST_BYTES}

-- files were read, and nothing was put out or logged
pub record OnlyReads (old new : Told) : Type 0 where
  pub files : SameFiles old new
  pub out : new.out ≡ old.out
  pub log : new.log ≡ old.log
  pub write_faults : new.write_faults ≡ old.write_faults
  pub read_faults : old.read_faults ≤ new.read_faults

-- ---- a text

-- why the file of this place was not read
abbrev pub IsReadCause : InputFault → ℕ → List ℕ → Told → Told → Type 0
IsReadCause (Text k TooLong) place name old new =
    (k ≡ place) × IsTooLong old.file name × (MOST_BYTES < new.taken)
IsReadCause (Text k other) place name old new = ⊥
IsReadCause (Read k) place name old new = (k ≡ place) × Rose old.read_faults new.read_faults
IsReadCause NoMemory place name old new = ⊤

pub record ReadsText (name : List ℕ) (place : ℕ) (old new : Told)
    (result : Result (Vec ℕ) InputFault) : Type 0 where
  pub host : OnlyReads old new
  pub ok : IfOk result (λ text. IsTextOf old.file name text.items)
  pub err : IfErr result (λ fault. IsReadCause fault place name old new)

-- ---- what a text gives, at this place: the value, seen by `view`, or its fault

abbrev pub MayGive : {X Y : Type 0}
    → (X → Y) → ℕ → (Result Y TextFault → Type 0) → Result X InputFault → Type 0
MayGive view place Gives (Ok x) = Gives (Ok (view x))
MayGive view place Gives (Err (Text k TooLong)) = ⊥
MayGive view place Gives (Err (Text k fault)) = (k ≡ place) × Gives (Err fault)
MayGive view place Gives (Err (Read k)) = ⊥
MayGive view place Gives (Err NoMemory) = ⊤

-- ---- what a file gives

-- this is wrong with the text of the file
abbrev pub HasFault : {Y : Type 0}
    → Files → List ℕ → (List ℕ → Result Y TextFault → Type 0) → TextFault → Type 0
HasFault files name Gives TooLong = IsTooLong files name
HasFault files name Gives fault = HasText files name (λ text. Gives text (Err fault))

-- of a file that is too long, more than a text may be was taken
abbrev pub TookTooMuch : TextFault → Told → Type 0
TookTooMuch TooLong host = MOST_BYTES < host.taken
TookTooMuch fault host = ⊤

-- why the file of this place didn't give a value
abbrev pub IsFileCause : {Y : Type 0} → InputFault → ℕ → List ℕ
    → (List ℕ → Result Y TextFault → Type 0) → Told → Told → Type 0
IsFileCause (Text k fault) place name Gives old new =
    (k ≡ place) × HasFault old.file name Gives fault × TookTooMuch fault new
IsFileCause (Read k) place name Gives old new =
    (k ≡ place) × Rose old.read_faults new.read_faults
IsFileCause NoMemory place name Gives old new = ⊤

-- a fault of the outside, which says nothing of a text
abbrev pub IsOutside : InputFault → Type 0
IsOutside (Text k fault) = ⊥
IsOutside (Read k) = ⊤
IsOutside NoMemory = ⊤

-- the file is told, is no longer than a text may be, and gives this value
pub record IsGood {Y : Type 0} (files : Files) (name : List ℕ)
    (Gives : List ℕ → Result Y TextFault → Type 0) (value : Y) : Type 0 where
  pub text : List ℕ
  pub told : files name ≡ Some text
  pub short : length text ≤ MOST_BYTES
  pub gives : Gives text (Ok value)

-- the file of this place was read, and gave a value, seen by `view`, or not
pub record ReadsFile {X Y : Type 0} (view : X → Y) (place : ℕ) (name : List ℕ)
    (Gives : List ℕ → Result Y TextFault → Type 0) (old new : Told)
    (result : Result X InputFault) : Type 0 where
  pub host : OnlyReads old new
  pub ok : IfOk result (λ x. HasText old.file name (λ text. Gives text (Ok (view x))))
  pub err : IfErr result (λ fault. IsFileCause fault place name Gives old new)
  -- a good file is taken
  pub good : (value : Y) → IsGood old.file name Gives value → IfErr result IsOutside
  -- and what is read of it is what it gives
  pub same : (value : Y) → IsGood old.file name Gives value → IfOk result (λ x. view x ≡ value)
