-- The one spelling of a change in a journal, as bytes, and which changes have one.
use Rattle.std.specs.Prelude.{◌≡◌, ℕ, ⊤, ◌<◌, ◌≤◌, ◌+◌, ◌*◌, ◌^◌, List, [], ◌∷◌, ◌++◌, length, Option, Some, None}
use Rattle.std.specs.Int.{Width, w16, w32, w64, to_le_bytes}
use Rattle.std.specs.List.{flat_map, AllByRecursion}
use Rattle.vs_base.specs.Numbers.{IsBucketId, IsClientNo, IsSetNo}
use Rattle.vs_rows.specs.Names.{IsKey, IsName, key_limit, value_limit}
use Rattle.vs_rows.specs.Pages.{IsPage}
use Rattle.vs_rows.specs.RowMap.{RowMap}
use Rattle.vs_rows.specs.declared.op.Op.{Op}
use Rattle.vs_rows.specs.declared.op.Op.TheVariants.{Get, Put, Insert, Delete, Swap, Count, Scan}
use Rattle.vs_space.specs.declared.status.Status.{Status}
use Rattle.vs_space.specs.declared.status.Status.TheVariants.{Active, Pinned, Sending, Receiving, Sent, Garbage}
use Rattle.vs_record.specs.Change.{Change, SetStatus, AddRows, Write, Wipe, Forget}
use Rattle.vs_record.specs.declared.version.Version.{Version}
use Rattle.vs_record.specs.declared.version.Version.TheVariants.{One, Two}

-- a number as so many bytes, the low one first
unfoldable pub number_text : Width → ℕ → List ℕ
number_text w n = to_le_bytes w n

-- a key: its length, and its bytes
abbrev pub key_text : List ℕ → List ℕ
key_text key = length key ∷ key

-- the length of a value: one byte in version 1, two in version 2
abbrev pub length_text : Version → ℕ → List ℕ
length_text One n = n ∷ []
length_text Two n = number_text w16 n

abbrev pub value_text : Version → List ℕ → List ℕ
value_text v value = length_text v (length value) ++ value

abbrev pub row_text : Version → List ℕ × List ℕ → List ℕ
row_text v row = key_text row.0 ++ value_text v row.1

-- a status and its set, which is 0 where there is none
abbrev pub status_text : Status → List ℕ
status_text Active = 1 ∷ 0 ∷ []
status_text Pinned = 2 ∷ 0 ∷ []
status_text (Sending to) = 3 ∷ to ∷ []
status_text (Receiving from) = 4 ∷ from ∷ []
status_text (Sent to) = 5 ∷ to ∷ []
status_text Garbage = 6 ∷ 0 ∷ []

abbrev pub op_text : Version → Op → List ℕ
op_text v (Get k) = 1 ∷ key_text k
op_text v (Put k new) = 2 ∷ row_text v (k, new)
op_text v (Insert k new) = 3 ∷ row_text v (k, new)
op_text v (Delete k) = 4 ∷ key_text k
op_text v (Swap k old new) = 5 ∷ (key_text k ++ (value_text v old ++ value_text v new))
op_text v Count = 6 ∷ []
op_text v (Scan k n) = 7 ∷ (key_text k ++ n ∷ [])

-- as many as there are, and each of them
abbrev pub rows_text : Version → RowMap → List ℕ
rows_text v rows = number_text w16 (length rows) ++ flat_map (row_text v) rows

abbrev pub ops_text : Version → List Op → List ℕ
ops_text v ops = length ops ∷ flat_map (op_text v) ops

-- a byte for the kind of a change, and its fields
abbrev pub change_text : Version → Change → List ℕ
change_text v (SetStatus b st) = 1 ∷ (number_text w32 b ++ status_text st)
change_text v (AddRows b x rows) = 2 ∷ (number_text w32 b ++ x ∷ rows_text v rows)
change_text v (Write id b ops) = 3 ∷ id.client ∷ (number_text w32 id.call ++ (number_text w32 b ++ ops_text v ops))
change_text v (Wipe b n) = 4 ∷ (number_text w32 b ++ number_text w16 n)
change_text v (Forget b) = 5 ∷ number_text w32 b

-- The body of a change. In the second part of a journal it stands behind its number there, and is of version 2. In the
-- first part it has no number, and is of version 1.
abbrev pub body_of : Option ℕ → Change → List ℕ
body_of None c = change_text One c
body_of (Some number) c = number_text w64 number ++ change_text Two c

-- ---- what has a spelling

-- the set of a status is a set
abbrev pub IsStatus : Status → Type 0
IsStatus (Sending to) = IsSetNo to
IsStatus (Receiving from) = IsSetNo from
IsStatus (Sent to) = IsSetNo to
IsStatus status = ⊤

-- the most bytes of a value: in version 1 it was 64
abbrev pub value_limit_in : Version → ℕ
value_limit_in One = 64
value_limit_in Two = value_limit

abbrev pub IsValueIn : Version → List ℕ → Type 0
IsValueIn v value = IsName (value_limit_in v) value

abbrev pub IsRow : Version → List ℕ × List ℕ → Type 0
IsRow v row = IsKey row.0 × IsValueIn v row.1

-- a scan asks for 1 to 100 rows
abbrev pub IsOp : Version → Op → Type 0
IsOp v (Get k) = IsKey k
IsOp v (Put k new) = IsRow v (k, new)
IsOp v (Insert k new) = IsRow v (k, new)
IsOp v (Delete k) = IsKey k
IsOp v (Swap k old new) = IsKey k × (IsValueIn v old × IsValueIn v new)
IsOp v Count = ⊤
IsOp v (Scan k n) = IsKey k × (1 ≤ n) × (n ≤ 100)

-- 1 to 16 operations
pub record AreOps (v : Version) (ops : List Op) : Type 0 where
  pub some : 1 ≤ length ops
  pub most : length ops ≤ 16
  pub each : AllByRecursion (IsOp v) ops

-- at most 1,000 rows, rising by key
pub record AreRows (v : Version) (rows : RowMap) : Type 0 where
  pub page : IsPage rows
  pub each : AllByRecursion (IsRow v) rows

-- the change has a spelling in this version
abbrev pub HasText : Version → Change → Type 0
HasText v (SetStatus b st) = IsBucketId b × IsStatus st
HasText v (AddRows b x rows) = IsBucketId b × IsSetNo x × AreRows v rows
HasText v (Write id b ops) = IsClientNo id.client × (id.call < 2 ^ 32) × IsBucketId b × AreOps v ops
HasText v (Wipe b n) = IsBucketId b × (1 ≤ n) × (n ≤ 1000)
HasText v (Forget b) = IsBucketId b

-- the change may stand in a journal, in the second part with this number, in the first without one
abbrev pub IsRecordable : Option ℕ → Change → Type 0
IsRecordable None c = HasText One c
IsRecordable (Some number) c = (number < 2 ^ 64) × HasText Two c

-- these bytes are its body there
pub record IsBodyOf (bytes : List ℕ) (number : Option ℕ) (c : Change) : Type 0 where
  pub recordable : IsRecordable number c
  pub text : bytes ≡ body_of number c

-- a body of version 1 has no number, and one of version 2 has one
abbrev pub IsOfVersion : ℕ → Option ℕ → Type 0
IsOfVersion version None = version ≡ 1
IsOfVersion version (Some number) = version ≡ 2

-- Of that, what the types of a change don't say: how many rows a scan asks for, and how many a wipe deletes.
abbrev pub IsModest : Op → Type 0
IsModest (Scan k n) = (1 ≤ n) × (n ≤ 100)
IsModest op = ⊤

abbrev pub HasCounts : Change → Type 0
HasCounts (Write id b ops) = AllByRecursion IsModest ops
HasCounts (Wipe b n) = (1 ≤ n) × (n ≤ 1000)
HasCounts change = ⊤

-- ---- sizes

-- the most bytes of a row, with both lengths
abbrev pub row_limit : ℕ
row_limit = (1 + key_limit) + (2 + value_limit)

-- the most bytes of a body: 1,000 rows, behind a number, a byte for the kind, a bucket, a set and how many rows there are
abbrev pub body_limit : ℕ
body_limit = (8 + 1 + 4 + 1 + 2) + 1000 * row_limit
