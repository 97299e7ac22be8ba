-- Reading a body from left to right.
use Rattle.std.specs.Prelude.{ℕ, zero, suc, ◌-◌, ◌==◌, nat_eq, nat_le, Bool, ◌&&◌, not, if◌then◌else◌, List, [], ◌∷◌, ◌++◌, length, take, drop, Option, Some, None, Result, Ok, Err, ◌≡◌}
use Rattle.std.specs.Cmp.Lexicographic.{pointwise}
use Rattle.std.specs.Int.{Width, w16, w32, w64, byte_len, from_le_bytes}
use Rattle.std.specs.List.{list_all}
use Rattle.std.specs.Ordering.{is_lt}
use Rattle.vs_base.specs.declared.numbers.CallId.{CallId}
use Rattle.vs_rows.specs.Names.{key_limit}
use Rattle.vs_rows.specs.RowMap.{RowMap, key_cmp}
use Rattle.vs_rows.specs.declared.op.Op.{Op}
use Rattle.vs_rows.specs.declared.op.Op.TheVariants.{Get, Put, Insert, Delete, Swap, Count, Scan}
use Rattle.vs_space.specs.declared.status.Status.{Status}
use Rattle.vs_space.specs.declared.status.Status.TheVariants.{Active, Pinned, Sending, Receiving, Sent, Garbage}
use Rattle.vs_record.specs.Body.{value_limit_in}
use Rattle.vs_record.specs.Change.{Change, SetStatus, AddRows, Write, Wipe, Forget}
use Rattle.vs_record.specs.declared.fault.RecordFault.{RecordFault}
use Rattle.vs_record.specs.declared.fault.RecordFault.TheVariants.{BadBody, NoMemory}
use Rattle.vs_record.specs.declared.version.Version.{Version}
use Rattle.vs_record.specs.declared.version.Version.TheVariants.{One, Two}

-- What a function returned, seen by view, is what reading gives, unless memory ran out.
abbrev pub Fails : {Y : Type 0} → RecordFault → Option Y → Type 0
Fails NoMemory read = Unit {0}
Fails BadBody read = read ≡ None

abbrev pub Gives : {X Y : Type 0} → (X → Y) → Result X RecordFault → Option Y → Type 0
Gives view (Ok x) read = read ≡ Some (view x)
Gives view (Err e) read = Fails e read

-- ---- a field is a value, and the bytes behind it

infixl 10 ◌>>=◌
abbrev pub ◌>>=◌ : {X Y : Type 0} → Option X → (X → Option Y) → Option Y
None >>= f = None
(Some x) >>= f = f x

-- one field behind another
abbrev pub both : {X Y : Type 0} → (List ℕ → Option (X × List ℕ)) → (List ℕ → Option (Y × List ℕ)) → List ℕ → Option ((X × Y) × List ℕ)
both first second bytes = do
  a ← first bytes
  b ← second a.1
  Some ((a.0, b.0), b.1)

-- a field whose value passes a test
abbrev pub tested : {X : Type 0} → (X → Bool) → Option (X × List ℕ) → Option (X × List ℕ)
tested test None = None
tested test (Some field) = if test field.0 then Some field else None

-- a field as a value of another kind
abbrev pub as_by : {X Y : Type 0} → (X → Y) → Option (X × List ℕ) → Option (Y × List ℕ)
as_by make None = None
as_by make (Some field) = Some (make field.0, field.1)

-- ---- numbers

abbrev pub byte_at : List ℕ → Option (ℕ × List ℕ)
byte_at [] = None
byte_at (b ∷ bytes) = Some (b, bytes)

unfoldable pub number_at : Width → List ℕ → Option (ℕ × List ℕ)
number_at w bytes = if nat_le (byte_len w) (length bytes) then Some (from_le_bytes w (take (byte_len w) bytes), drop (byte_len w) bytes) else None

abbrev pub is_between : ℕ → ℕ → ℕ → Bool
is_between low high n = nat_le low n && nat_le n high

unfoldable pub bucket_at : List ℕ → Option (ℕ × List ℕ)
bucket_at bytes = tested (is_between 1 30000) (number_at w32 bytes)

unfoldable pub set_at : List ℕ → Option (ℕ × List ℕ)
set_at bytes = tested (is_between 1 32) (byte_at bytes)

unfoldable pub client_at : List ℕ → Option (ℕ × List ℕ)
client_at bytes = tested (is_between 1 64) (byte_at bytes)

-- how many rows a scan asks for
unfoldable pub few_at : List ℕ → Option (ℕ × List ℕ)
few_at bytes = tested (is_between 1 100) (byte_at bytes)

-- how many rows a wipe deletes
unfoldable pub many_at : List ℕ → Option (ℕ × List ℕ)
many_at bytes = tested (is_between 1 1000) (number_at w16 bytes)

-- ---- statuses

-- the status of a number, without a set or with this one
abbrev pub bare_status : ℕ → Option Status
bare_status tag = if tag == 1 then Some Active else if tag == 2 then Some Pinned else if tag == 6 then Some Garbage else None

abbrev pub set_status : ℕ → ℕ → Option Status
set_status tag set = if tag == 3 then Some (Sending set) else if tag == 4 then Some (Receiving set) else if tag == 5 then Some (Sent set) else None

abbrev pub status_by : ℕ → ℕ → Option Status
status_by tag other = if other == 0 then bare_status tag else if is_between 1 32 other then set_status tag other else None

unfoldable pub status_at : List ℕ → Option (Status × List ℕ)
status_at bytes = do
  tag ← byte_at bytes
  other ← byte_at tag.1
  status ← status_by tag.0 other.0
  Some (status, other.1)

-- ---- keys, values and rows

-- so many bytes at most, all of them visible, and not the mark alone
abbrev pub is_name : ℕ → List ℕ → Bool
is_name most bytes = is_between 1 most (length bytes) && list_all (λ b. is_between 0x21 0x7E b) bytes && not (pointwise nat_eq bytes (59 ∷ []))

-- as many bytes as the number in front of them says
abbrev pub text_behind : Option (ℕ × List ℕ) → Option (List ℕ × List ℕ)
text_behind None = None
text_behind (Some size) = if nat_le size.0 (length size.1) then Some (take size.0 size.1, drop size.0 size.1) else None

unfoldable pub key_at : List ℕ → Option (List ℕ × List ℕ)
key_at bytes = tested (is_name key_limit) (text_behind (byte_at bytes))

unfoldable pub length_at : Version → List ℕ → Option (ℕ × List ℕ)
length_at One bytes = byte_at bytes
length_at Two bytes = number_at w16 bytes

unfoldable pub value_at : Version → List ℕ → Option (List ℕ × List ℕ)
value_at v bytes = tested (is_name (value_limit_in v)) (text_behind (length_at v bytes))

unfoldable pub row_at : Version → List ℕ → Option ((List ℕ × List ℕ) × List ℕ)
row_at v bytes = both key_at (value_at v) bytes

unfoldable pub values_at : Version → List ℕ → Option ((List ℕ × List ℕ) × List ℕ)
values_at v bytes = both (value_at v) (value_at v) bytes

-- the key is above those of the rows
abbrev pub is_above : RowMap → List ℕ → Bool
is_above rows key = list_all (λ row. is_lt (key_cmp row.0 key)) rows

-- n more rows behind these, each with a key above those before it
unfoldable pub rows_from : Version → ℕ → RowMap → List ℕ → Option (RowMap × List ℕ)
rows_from v zero rows bytes = Some (rows, bytes)
rows_from v (suc n) rows bytes = do
  row ← row_at v bytes
  if is_above rows row.0.0 then rows_from v n (rows ++ row.0 ∷ []) row.1 else None

unfoldable pub rows_at : Version → List ℕ → Option (RowMap × List ℕ)
rows_at v bytes = do
  count ← tested (λ n. nat_le n 1000) (number_at w16 bytes)
  rows_from v count.0 [] count.1

-- ---- operations

unfoldable pub op_by : Version → ℕ → List ℕ → Option (Op × List ℕ)
op_by v tag bytes =
    if tag == 1 then as_by Get (key_at bytes)
    else if tag == 2 then as_by (λ row. Put row.0 row.1) (row_at v bytes)
    else if tag == 3 then as_by (λ row. Insert row.0 row.1) (row_at v bytes)
    else if tag == 4 then as_by Delete (key_at bytes)
    else if tag == 5 then as_by (λ p. Swap p.0 p.1.0 p.1.1) (both key_at (values_at v) bytes)
    else if tag == 6 then Some (Count, bytes)
    else if tag == 7 then as_by (λ p. Scan p.0 p.1) (both key_at few_at bytes)
    else None

unfoldable pub op_at : Version → List ℕ → Option (Op × List ℕ)
op_at v bytes = do
  tag ← byte_at bytes
  op_by v tag.0 tag.1

-- n more operations behind these
unfoldable pub ops_from : Version → ℕ → List Op → List ℕ → Option (List Op × List ℕ)
ops_from v zero ops bytes = Some (ops, bytes)
ops_from v (suc n) ops bytes = do
  op ← op_at v bytes
  ops_from v n (ops ++ op.0 ∷ []) op.1

unfoldable pub ops_at : Version → List ℕ → Option (List Op × List ℕ)
ops_at v bytes = do
  count ← tested (is_between 1 16) (byte_at bytes)
  first ← op_at v count.1
  ops_from v (count.0 - 1) (first.0 ∷ []) first.1

-- ---- changes

-- a call's operations on a bucket
unfoldable pub id_at : List ℕ → Option (CallId × List ℕ)
id_at bytes = as_by (λ p. record { client = p.0; call = p.1 }) (both client_at (number_at w32) bytes)

abbrev pub set_status_at : List ℕ → Option (Change × List ℕ)
set_status_at bytes = as_by (λ p. SetStatus p.0 p.1) (both bucket_at status_at bytes)

abbrev pub add_rows_at : Version → List ℕ → Option (Change × List ℕ)
add_rows_at v bytes = as_by (λ p. AddRows p.0 p.1.0 p.1.1) (both bucket_at (both set_at (rows_at v)) bytes)

abbrev pub write_at : Version → List ℕ → Option (Change × List ℕ)
write_at v bytes = as_by (λ p. Write p.0 p.1.0 p.1.1) (both id_at (both bucket_at (ops_at v)) bytes)

abbrev pub wipe_at : List ℕ → Option (Change × List ℕ)
wipe_at bytes = as_by (λ p. Wipe p.0 p.1) (both bucket_at many_at bytes)

abbrev pub forget_at : List ℕ → Option (Change × List ℕ)
forget_at bytes = as_by Forget (bucket_at bytes)

unfoldable pub change_by : Version → ℕ → List ℕ → Option (Change × List ℕ)
change_by v tag bytes =
    if tag == 1 then set_status_at bytes
    else if tag == 2 then add_rows_at v bytes
    else if tag == 3 then write_at v bytes
    else if tag == 4 then wipe_at bytes
    else if tag == 5 then forget_at bytes
    else None

-- the value of a field that is all of the bytes
abbrev pub whole : {X : Type 0} → Option (X × List ℕ) → Option X
whole None = None
whole (Some field) = if length field.1 == 0 then Some field.0 else None

-- the change that all of these bytes spell
unfoldable pub text_of : Version → List ℕ → Option Change
text_of v bytes = do
  tag ← byte_at bytes
  whole (change_by v tag.0 tag.1)

-- ---- bodies

-- a body of a journal's first part is a change's spelling
abbrev pub first_of : List ℕ → Option (Option ℕ × Change)
first_of bytes = do
  c ← text_of One bytes
  Some (None, c)

-- and one of its second part stands behind a number
abbrev pub second_of : List ℕ → Option (Option ℕ × Change)
second_of bytes = do
  number ← number_at w64 bytes
  c ← text_of Two number.1
  Some (Some number.0, c)

-- the number, where this version has one, and the change whose body these bytes are, all of them
unfoldable pub change_of : ℕ → List ℕ → Option (Option ℕ × Change)
change_of version bytes = if version == 1 then first_of bytes else second_of bytes
