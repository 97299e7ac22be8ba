-- A change has one body, and what has its form is read as it.
use Rattle.std.proofs.Common.{◌≡◌, ◌⊎◌, inl, inr, ℕ, ◌+◌, ◌*◌, ◌^◌, ◌<◌, ◌≤◌, ◌==◌, List, [], ◌∷◌, ◌++◌, length, Option, Some, None, refl, sym, ap, subst, ◌∙◌, arith}
use Rattle.std.specs.Int.{w16, w32, w64}
use Rattle.std.specs.List.{flat_map, AllByRecursion}
use Rattle.std.proofs.lemmas.Bool.{eqb-true, cases_lt}
use Rattle.std.proofs.lemmas.List.{length-append, append-nil, nil_from_length}
use Rattle.std.proofs.lemmas.List.Concat.{flat_map-cons}
use Rattle.std.proofs.lemmas.Option.{cond_some, same_Some}
use Rattle.vs_base.specs.Numbers.{IsBucketId, IsClientNo, IsSetNo}
use Rattle.vs_base.specs.declared.numbers.CallId.{CallId}
use Rattle.vs_rows.specs.Names.{IsKey, key_limit, value_limit}
use Rattle.vs_rows.specs.RowMap.{RowMap}
use Rattle.vs_rows.specs.declared.op.Op.{Op}
use Rattle.vs_rows.specs.declared.op.Op.TheVariants.{Get, Put, Insert, Delete, Swap, Count, Scan}
use Rattle.vs_space.specs.declared.status.Status.{Status}
use Rattle.vs_space.specs.declared.status.Status.TheVariants.{Active, Pinned, Sending, Receiving, Sent, Garbage}
use Rattle.vs_record.specs.Change.{Change, SetStatus, AddRows, Write, Wipe, Forget}
use Rattle.vs_record.specs.Body.{number_text, key_text, value_text, row_text, status_text, op_text, rows_text, ops_text, change_text, body_of, row_limit, body_limit, IsStatus, IsValueIn, IsRow, IsOp, AreRows, AreOps, HasText, IsRecordable, IsBodyOf, IsOfVersion}
use Rattle.vs_record.specs.Reading.{◌>>=◌, both, as_by, number_at, bucket_at, set_at, client_at, many_at, status_at, rows_at, ops_at, id_at, change_by, whole, text_of, first_of, second_of, change_of}
use Rattle.vs_record.specs.declared.version.Version.{Version}
use Rattle.vs_record.specs.declared.version.Version.TheVariants.{One, Two}
use Rattle.vs_record.proofs.Taken.{IsBytes, IsBytes-rest, Takes, Reads, bound, both_read, made_takes, made_again, number_reads, wide16, wide32, wide64}
use Rattle.vs_record.proofs.Parts.{chosen, set_reads, client_reads, bucket_reads, many_reads, status_reads}
use Rattle.vs_record.proofs.Lists.{ops_reads, rows_read}

-- ---- a call

abbrev id_of : ℕ × ℕ → CallId
id_of p = record { client = p.0; call = p.1 }

abbrev id_text : CallId → List ℕ
id_text id = id.client ∷ number_text w32 id.call

abbrev IsId : CallId → Type 0
IsId id = IsClientNo id.client × (id.call < 2 ^ 32)

client_call : Reads {X = ℕ × ℕ} (λ p. (p.0 ∷ []) ++ number_text w32 p.1) (λ p. IsClientNo p.0 × (p.1 < 2 ^ 32)) (both client_at (number_at w32))
client_call = both_read client_reads (number_reads w32 (2 ^ 32) wide32)

id_reads : Reads id_text IsId id_at
unfolding id_at
id_reads = record { takes = took; again = λ id rest is. made_again client_call id_of (id.client, id.call) rest is }
  where
    took : (bytes : List ℕ) (id : CallId) (rest : List ℕ) → IsBytes bytes → id_at bytes ≡ Some (id, rest) → Takes bytes (id_text id) rest × IsId id
    took bytes id rest fits e =
        let made = made_takes client_call id_of bytes id rest fits e in
        subst (λ (i : CallId). Takes bytes (id_text i) rest × IsId i) made.1 (made.2, made.3)

-- ---- changes

record IsChangeAt (v : Version) (tag : ℕ) (bytes : List ℕ) (c : Change) (rest : List ℕ) : Type 0 where
  takes : Takes (tag ∷ bytes) (change_text v c) rest
  is : HasText v c

made_change : (v : Version) {X : Type 0} (make : X → Change) (text : X → List ℕ) (Is : X → Type 0) (k tag : ℕ) (bytes : List ℕ) (c : Change) (rest : List ℕ) → ((x : X) → change_text v (make x) ≡ k ∷ text x) → ((x : X) → Is x → HasText v (make x))
    → tag ≡ k → (x : X) × (make x ≡ c) × Takes bytes (text x) rest × Is x → IsChangeAt v tag bytes c rest
made_change v make text Is k tag bytes c rest spelled is same made =
    let takes : Takes (tag ∷ bytes) (k ∷ text made.0) rest = record { parts = λ i. same i ∷ made.2.parts i; rest_fits = made.2.rest_fits } in
    let spelt = subst (λ (t : List ℕ). Takes (tag ∷ bytes) t rest) (sym (spelled made.0)) takes in
    let all : IsChangeAt v tag bytes (make made.0) rest = record { takes = spelt; is = is made.0 made.3 } in
    subst (λ (o : Change). IsChangeAt v tag bytes o rest) made.1 all

abbrev status_of : ℕ × Status → Change
status_of p = SetStatus p.0 p.1

abbrev rows_of : ℕ × (ℕ × RowMap) → Change
rows_of p = AddRows p.0 p.1.0 p.1.1

abbrev write_of : CallId × (ℕ × List Op) → Change
write_of p = Write p.0 p.1.0 p.1.1

abbrev wipe_of : ℕ × ℕ → Change
wipe_of p = Wipe p.0 p.1

status_fields : Reads {X = ℕ × Status} (λ p. number_text w32 p.0 ++ status_text p.1) (λ p. IsBucketId p.0 × IsStatus p.1) (both bucket_at status_at)
status_fields = both_read bucket_reads status_reads

rows_fields : (v : Version) → Reads {X = ℕ × (ℕ × RowMap)} (λ p. number_text w32 p.0 ++ ((p.1.0 ∷ []) ++ rows_text v p.1.1)) (λ p. IsBucketId p.0 × (IsSetNo p.1.0 × AreRows v p.1.1)) (both bucket_at (both set_at (rows_at v)))
rows_fields v = both_read bucket_reads (both_read set_reads (rows_read v))

write_fields : (v : Version) → Reads {X = CallId × (ℕ × List Op)} (λ p. id_text p.0 ++ (number_text w32 p.1.0 ++ ops_text v p.1.1)) (λ p. IsId p.0 × (IsBucketId p.1.0 × AreOps v p.1.1)) (both id_at (both bucket_at (ops_at v)))
write_fields v = both_read id_reads (both_read bucket_reads (ops_reads v))

wipe_fields : Reads {X = ℕ × ℕ} (λ p. number_text w32 p.0 ++ number_text w16 p.1) (λ p. IsBucketId p.0 × ((1 ≤ p.1) × (p.1 ≤ 1000))) (both bucket_at many_at)
wipe_fields = both_read bucket_reads many_reads

by_told : (v : Version) (tag : ℕ) (bytes : List ℕ) (c : Change) (rest : List ℕ) → IsBytes bytes → change_by v tag bytes ≡ Some (c, rest) → IsChangeAt v tag bytes c rest
unfolding change_by
by_told v tag bytes c rest fits e = elim (chosen (tag == 1) _ _ _ e) [
  | inl h ↦ made_change v status_of (λ p. number_text w32 p.0 ++ status_text p.1) (λ p. IsBucketId p.0 × IsStatus p.1) 1 tag bytes c rest (λ x. refl) (λ x is. is) (eqb-true tag 1 h.0) (made_takes status_fields status_of bytes c rest fits h.1)
  | inr e1 ↦ elim (chosen (tag == 2) _ _ _ e1.1) [
    | inl h ↦ made_change v rows_of (λ p. number_text w32 p.0 ++ ((p.1.0 ∷ []) ++ rows_text v p.1.1)) (λ p. IsBucketId p.0 × (IsSetNo p.1.0 × AreRows v p.1.1)) 2 tag bytes c rest (λ x. refl) (λ x is. (is.0, is.1.0, is.1.1)) (eqb-true tag 2 h.0) (made_takes (rows_fields v) rows_of bytes c rest fits h.1)
    | inr e2 ↦ elim (chosen (tag == 3) _ _ _ e2.1) [
      | inl h ↦ made_change v write_of (λ p. id_text p.0 ++ (number_text w32 p.1.0 ++ ops_text v p.1.1)) (λ p. IsId p.0 × (IsBucketId p.1.0 × AreOps v p.1.1)) 3 tag bytes c rest (λ x. refl) (λ x is. (is.0.0, is.0.1, is.1.0, is.1.1)) (eqb-true tag 3 h.0) (made_takes (write_fields v) write_of bytes c rest fits h.1)
      | inr e3 ↦ elim (chosen (tag == 4) _ _ _ e3.1) [
        | inl h ↦ made_change v wipe_of (λ p. number_text w32 p.0 ++ number_text w16 p.1) (λ p. IsBucketId p.0 × ((1 ≤ p.1) × (p.1 ≤ 1000))) 4 tag bytes c rest (λ x. refl) (λ x is. (is.0, is.1.0, is.1.1)) (eqb-true tag 4 h.0) (made_takes wipe_fields wipe_of bytes c rest fits h.1)
        | inr e4 ↦ elim (chosen (tag == 5) _ _ _ e4.1) [
          | inl h ↦ made_change v Forget (number_text w32) IsBucketId 5 tag bytes c rest (λ x. refl) (λ x is. is) (eqb-true tag 5 h.0) (made_takes bucket_reads Forget bytes c rest fits h.1)
          | inr e5 ↦ absurd (let none = e5.1 in cc)
        ]
      ]
    ]
  ]
]

-- what a field is that is all of the bytes
all_of : (o : Option (Change × List ℕ)) (c : Change) → whole o ≡ Some c → o ≡ Some (c, [])
all_of None c e = absurd cc
all_of (Some f) c e =
    let parts = cond_some (length f.1 == 0) f.0 c e in
    let nothing : f.1 ≡ [] = nil_from_length f.1 (eqb-true (length f.1) 0 parts.0) in
    λ i. Some (parts.1 i, nothing i)

text_told : (v : Version) (bytes : List ℕ) (c : Change) → IsBytes bytes → text_of v bytes ≡ Some c → HasText v c × (bytes ≡ change_text v c)
unfolding text_of
text_told v [] c fits e = absurd cc
text_told v (tag ∷ bytes) c fits e =
    let told = by_told v tag bytes c [] (IsBytes-rest tag bytes fits) (all_of (change_by v tag bytes) c e) in
    (told.is, told.takes.parts ∙ append-nil (change_text v c))

at_end : {X : Type 0} {text : X → List ℕ} {Is : X → Type 0} {at : List ℕ → Option (X × List ℕ)} (reads : Reads text Is at) (make : X → Change) (x : X) → Is x → as_by make (at (text x)) ≡ Some (make x, [])
at_end {X} {text} {Is} {at} reads make x is = ap (λ (b : List ℕ). as_by make (at b)) (sym (append-nil (text x))) ∙ made_again reads make x [] is

text_again : (v : Version) (c : Change) → HasText v c → text_of v (change_text v c) ≡ Some c
unfolding text_of change_by
text_again v (SetStatus b st) is = ap whole (at_end status_fields status_of (b, st) is)
text_again v (AddRows b x rows) is = ap whole (at_end (rows_fields v) rows_of (b, (x, rows)) (is.0, (is.1, is.2)))
text_again v (Write id b ops) is = ap whole (at_end (write_fields v) write_of (id, (b, ops)) ((is.0, is.1), (is.2, is.3)))
text_again v (Wipe b n) is = ap whole (at_end wipe_fields wipe_of (b, n) (is.0, (is.1, is.2)))
text_again v (Forget b) is = ap whole (at_end bucket_reads Forget b is)

-- ---- bodies

-- which part's bodies a version reads
pub in_first : (version : ℕ) (bytes : List ℕ) → version ≡ 1 → change_of version bytes ≡ first_of bytes
unfolding change_of
in_first version bytes one = rw one refl

pub in_second : (version : ℕ) (bytes : List ℕ) → version ≡ 2 → change_of version bytes ≡ second_of bytes
unfolding change_of
in_second version bytes two = rw two refl

same_entry : (m n : Option ℕ) (c d : Change) → ◌≡◌ {A = Option (Option ℕ × Change)} (Some (m, c)) (Some (n, d)) → ◌≡◌ {A = Option ℕ × Change} (m, c) (n, d)
same_entry m n c d e = same_Some (m, c) (n, d) e

first_told : (bytes : List ℕ) (number : Option ℕ) (c : Change) → IsBytes bytes → first_of bytes ≡ Some (number, c) → IsOfVersion 1 number × IsBodyOf bytes number c
first_told bytes number c fits e =
    let text = bound (text_of One bytes) (λ c. Some (None, c)) (number, c) e in
    let same = same_entry None number text.0 c text.2 in
    let told = text_told One bytes text.0 fits text.1 in
    let made : IsBodyOf bytes None text.0 = record { recordable = told.0; text = told.1 } in
    subst (λ (p : Option ℕ × Change). IsOfVersion 1 p.0 × IsBodyOf bytes p.0 p.1) same (refl, made)

second_told : (bytes : List ℕ) (number : Option ℕ) (c : Change) → IsBytes bytes → second_of bytes ≡ Some (number, c) → IsOfVersion 2 number × IsBodyOf bytes number c
second_told bytes number c fits e =
    let front = bound (number_at w64 bytes) (λ front. text_of Two front.1 >>= λ c. Some (Some front.0, c)) (number, c) e in
    let text = bound (text_of Two front.0.1) (λ c. Some (Some front.0.0, c)) (number, c) front.2 in
    let same = same_entry (Some front.0.0) number text.0 c text.2 in
    let took = (number_reads w64 (2 ^ 64) wide64).takes bytes front.0.0 front.0.1 fits front.1 in
    let told = text_told Two front.0.1 text.0 took.0.rest_fits text.1 in
    let spelled = took.0.parts ∙ ap (λ (t : List ℕ). number_text w64 front.0.0 ++ t) told.1 in
    let made : IsBodyOf bytes (Some front.0.0) text.0 = record { recordable = (took.1, told.0); text = spelled } in
    subst (λ (p : Option ℕ × Change). IsOfVersion 2 p.0 × IsBodyOf bytes p.0 p.1) same (refl, made)

one_or_two : (version : ℕ) → (1 ≤ version) × (version ≤ 2) → (version ≡ 1) ⊎ (version ≡ 2)
one_or_two version is = elim (cases_lt version 2) [ inl below ↦ inl (omega arith) | inr above ↦ inr (omega arith) ]

-- what is read is a body of that version
pub change_told : (version : ℕ) (bytes : List ℕ) (number : Option ℕ) (c : Change) → (1 ≤ version) × (version ≤ 2) → IsBytes bytes → change_of version bytes ≡ Some (number, c) → IsOfVersion version number × IsBodyOf bytes number c
change_told version bytes number c is fits e = elim (one_or_two version is) [
  | inl one ↦ subst (λ (n : ℕ). IsOfVersion n number × IsBodyOf bytes number c) (sym one) (first_told bytes number c fits (sym (in_first version bytes one) ∙ e))
  | inr two ↦ subst (λ (n : ℕ). IsOfVersion n number × IsBodyOf bytes number c) (sym two) (second_told bytes number c fits (sym (in_second version bytes two) ∙ e))
]

-- and each body of that version is read
pub change_again : (version : ℕ) (number : Option ℕ) (c : Change) → IsOfVersion version number → IsRecordable number c → change_of version (body_of number c) ≡ Some (number, c)
change_again version None c one is = in_first version (change_text One c) one ∙ rw (text_again One c is) refl
change_again version (Some number) c two is =
    in_second version (number_text w64 number ++ change_text Two c) two
    ∙ rw ((number_reads w64 (2 ^ 64) wide64).again number (change_text Two c) is.0, text_again Two c is.1) refl

-- ---- sizes

two : (n : ℕ) → length (number_text w16 n) ≡ 2
two n = wide16.len n

four : (n : ℕ) → length (number_text w32 n) ≡ 4
four n = wide32.len n

key_size : (key : List ℕ) → IsKey key → length (key_text key) ≤ 1 + key_limit
key_size key is = omega (arith, is.short)

value_size : (value : List ℕ) → IsValueIn Two value → length (value_text Two value) ≤ 2 + value_limit
value_size value is = omega (arith, length-append (number_text w16 (length value)) value, two (length value), is.short)

row_size : (row : List ℕ × List ℕ) → IsRow Two row → length (row_text Two row) ≤ row_limit
row_size row is = omega (arith, length-append (key_text row.0) (value_text Two row.1), key_size row.0 is.0, value_size row.1 is.1)

-- with a tag, a key and two values
abbrev op_limit : ℕ
op_limit = 1 + (row_limit + (2 + value_limit))

op_size : (op : Op) → IsOp Two op → length (op_text Two op) ≤ op_limit
op_size (Get k) is = omega (arith, key_size k is)
op_size (Put k v) is = omega (arith, row_size (k, v) is)
op_size (Insert k v) is = omega (arith, row_size (k, v) is)
op_size (Delete k) is = omega (arith, key_size k is)
op_size (Swap k old new) is = omega (arith, length-append (key_text k) (value_text Two old ++ value_text Two new), length-append (value_text Two old) (value_text Two new), key_size k is.0, value_size old is.1.0, value_size new is.1.1)
op_size Count is = omega arith
op_size (Scan k n) is = omega (arith, length-append (key_text k) (n ∷ []), key_size k is.0)

all_size : {X : Type 0} (text : X → List ℕ) (Is : X → Type 0) (most : ℕ) (xs : List X) → ((x : X) → Is x → length (text x) ≤ most) → AllByRecursion Is xs → length (flat_map text xs) ≤ most * length xs
all_size text Is most [] each all = omega arith
all_size text Is most (x ∷ xs) each all = rw flat_map-cons (omega (arith, length-append (text x) (flat_map text xs), each x all.0, all_size text Is most xs each all.1))

status_size : (st : Status) → length (status_text st) ≡ 2
status_size Active = refl
status_size Pinned = refl
status_size (Sending to) = refl
status_size (Receiving from) = refl
status_size (Sent to) = refl
status_size Garbage = refl

-- behind a number a change has 1 byte at least, and at most as many as 1,000 rows take
text_size : (c : Change) → HasText Two c → (1 ≤ length (change_text Two c)) × (8 + length (change_text Two c) ≤ body_limit)
text_size (SetStatus b st) is = (omega arith, omega (arith, length-append (number_text w32 b) (status_text st), four b, status_size st))
text_size (AddRows b x rows) is = (omega arith, omega (arith, length-append (number_text w32 b) (x ∷ rows_text Two rows), four b, length-append (number_text w16 (length rows)) (flat_map (row_text Two) rows), two (length rows), all_size (row_text Two) (IsRow Two) row_limit rows row_size is.2.each, is.2.page.short))
text_size (Write id b ops) is = (omega arith, omega (arith, length-append (number_text w32 id.call) (number_text w32 b ++ ops_text Two ops), four id.call, length-append (number_text w32 b) (ops_text Two ops), four b, all_size (op_text Two) (IsOp Two) op_limit ops op_size is.3.each, is.3.most))
text_size (Wipe b n) is = (omega arith, omega (arith, length-append (number_text w32 b) (number_text w16 n), four b, two n))
text_size (Forget b) is = (omega arith, omega (arith, four b))

-- the size of a body with a number
pub record IsShort (body : List ℕ) : Type 0 where
  pub some : 1 ≤ length body
  pub limit : length body ≤ body_limit

pub body_size : (body : List ℕ) (number : ℕ) (c : Change) → body ≡ body_of (Some number) c → IsRecordable (Some number) c → IsShort body
body_size body number c text is =
    let size = text_size c is.1 in
    let whole : length body ≡ 8 + length (change_text Two c) = omega (arith, ap length text, length-append (number_text w64 number) (change_text Two c), wide64.len number) in
    record { some = omega (arith, size.0, whole); limit = omega (arith, size.1, whole) }
