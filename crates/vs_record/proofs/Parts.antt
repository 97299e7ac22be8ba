-- The fields of a change: numbers of things, statuses, names and rows.
use Rattle.std.proofs.Common.{◌≡◌, ◌⊎◌, inl, inr, ℕ, ◌^◌, ◌<◌, ◌≤◌, ◌==◌, nat_le, Bool, true, false, if◌then◌else◌, List, [], ◌∷◌, ◌++◌, length, take, drop, Option, Some, None, refl, sym, ap, subst, ◌∙◌, append_assoc, arith}
use Rattle.std.specs.Int.{w16, w32}
use Rattle.std.proofs.lemmas.Bool.{eqb-true, false≢true}
use Rattle.std.proofs.lemmas.Bool.Decides.{nat_tests}
use Rattle.std.proofs.lemmas.List.{take_at, drop_at, take-append-drop, length-append, length-take}
use Rattle.std.proofs.lemmas.Option.{cond_some, same_Some}
use Rattle.vs_base.specs.Numbers.{IsBucketId, IsClientNo, IsSetNo}
use Rattle.vs_rows.specs.Names.{IsKey, key_limit, value_limit}
use Rattle.vs_space.specs.declared.status.Status.{Status}
use Rattle.vs_space.specs.declared.status.Status.TheVariants.{Active, Pinned, Sending, Receiving, Sent, Garbage}
use Rattle.vs_record.specs.Body.{number_text, key_text, value_text, row_text, status_text, IsStatus, IsValueIn, IsRow}
use Rattle.vs_record.specs.Reading.{tested, byte_at, is_between, bucket_at, set_at, client_at, few_at, many_at, bare_status, set_status, status_by, status_at, is_name, text_behind, key_at, length_at, value_at, row_at, values_at}
use Rattle.vs_record.specs.declared.version.Version.{Version}
use Rattle.vs_record.specs.declared.version.Version.TheVariants.{One, Two}
use Rattle.vs_record.proofs.Names.{le_decides, between_decides, name_decides}
use Rattle.vs_record.proofs.Taken.{IsBytes, IsBytes-drop, IsBytes-rest, Takes, Takes-then, Reads, bound, pair_is, both_read, tested_read, byte_reads, number_reads, wide16, wide32, read_as}

abbrev IsIn : ℕ → ℕ → ℕ → Type 0
IsIn low high n = (low ≤ n) × (n ≤ high)

-- a byte, or a number of more bytes, in a range
byte_in : (low high : ℕ) → high < 256 → Reads (λ b. b ∷ []) (λ n. IsIn low high n) (λ bytes. tested (is_between low high) (byte_at bytes))
byte_in low high small = read_as (λ n. IsIn low high n) (λ n is. is.1) (λ n is. (omega (arith, is.1, small), is)) (tested_read byte_reads (is_between low high) (λ n. IsIn low high n) (λ n. between_decides low high n))

pub set_reads : Reads (λ x. x ∷ []) IsSetNo set_at
unfolding set_at
set_reads = byte_in 1 32 (omega arith)

pub client_reads : Reads (λ x. x ∷ []) IsClientNo client_at
unfolding client_at
client_reads = byte_in 1 64 (omega arith)

pub few_reads : Reads (λ x. x ∷ []) (λ n. IsIn 1 100 n) few_at
unfolding few_at
few_reads = byte_in 1 100 (omega arith)

pub bucket_reads : Reads (number_text w32) IsBucketId bucket_at
unfolding bucket_at
bucket_reads = read_as (λ n. IsIn 1 30000 n) (λ n is. is.1) (λ n is. (omega (arith, is.1), is)) (tested_read (number_reads w32 (2 ^ 32) wide32) (is_between 1 30000) (λ n. IsIn 1 30000 n) (λ n. between_decides 1 30000 n))

pub many_reads : Reads (number_text w16) (λ n. IsIn 1 1000 n) many_at
unfolding many_at
many_reads = read_as (λ n. IsIn 1 1000 n) (λ n is. is.1) (λ n is. (omega (arith, is.1), is)) (tested_read (number_reads w16 (2 ^ 16) wide16) (is_between 1 1000) (λ n. IsIn 1 1000 n) (λ n. between_decides 1 1000 n))

-- ---- statuses

-- which way a test went
pub chosen : {X : Type 0} (b : Bool) (x y z : X) → (if b then x else y) ≡ z → ((b ≡ true) × (x ≡ z)) ⊎ ((b ≡ false) × (y ≡ z))
chosen true x y z e = inl (refl, e)
chosen false x y z e = inr (refl, e)

abbrev IsSpelled : ℕ → ℕ → Status → Type 0
IsSpelled tag other st = (status_text st ≡ tag ∷ other ∷ []) × IsStatus st

spelled : (st : Status) (tag other : ℕ) (found : Status) → Some st ≡ Some found → status_text st ≡ tag ∷ other ∷ [] → IsStatus st → IsSpelled tag other found
spelled st tag other found e text is = subst (λ (s : Status). IsSpelled tag other s) (same_Some st found e) (text, is)

cells : (a b x y : ℕ) → a ≡ x → b ≡ y → a ∷ b ∷ [] ≡ x ∷ y ∷ []
cells a b x y p q = cc

bare_told : (tag : ℕ) (found : Status) → bare_status tag ≡ Some found → IsSpelled tag 0 found
bare_told tag found e = elim (chosen (tag == 1) _ _ _ e) [
  | inl h ↦ spelled Active tag 0 found h.1 (cells 1 0 tag 0 (sym (eqb-true tag 1 h.0)) refl) tt
  | inr h ↦ elim (chosen (tag == 2) _ _ _ h.1) [
    | inl k ↦ spelled Pinned tag 0 found k.1 (cells 2 0 tag 0 (sym (eqb-true tag 2 k.0)) refl) tt
    | inr k ↦ elim (chosen (tag == 6) _ _ _ k.1) [
      | inl l ↦ spelled Garbage tag 0 found l.1 (cells 6 0 tag 0 (sym (eqb-true tag 6 l.0)) refl) tt
      | inr l ↦ absurd (let none = l.1 in cc)
    ]
  ]
]

set_told : (tag other : ℕ) (found : Status) → IsSetNo other → set_status tag other ≡ Some found → IsSpelled tag other found
set_told tag other found set e = elim (chosen (tag == 3) _ _ _ e) [
  | inl h ↦ spelled (Sending other) tag other found h.1 (cells 3 other tag other (sym (eqb-true tag 3 h.0)) refl) set
  | inr h ↦ elim (chosen (tag == 4) _ _ _ h.1) [
    | inl k ↦ spelled (Receiving other) tag other found k.1 (cells 4 other tag other (sym (eqb-true tag 4 k.0)) refl) set
    | inr k ↦ elim (chosen (tag == 5) _ _ _ k.1) [
      | inl l ↦ spelled (Sent other) tag other found l.1 (cells 5 other tag other (sym (eqb-true tag 5 l.0)) refl) set
      | inr l ↦ absurd (let none = l.1 in cc)
    ]
  ]
]

status_told : (tag other : ℕ) (found : Status) → status_by tag other ≡ Some found → IsSpelled tag other found
status_told tag other found e = elim (chosen (other == 0) _ _ _ e) [
  | inl h ↦ subst (λ (o : ℕ). IsSpelled tag o found) (sym (eqb-true other 0 h.0)) (bare_told tag found h.1)
  | inr h ↦ elim (chosen (is_between 1 32 other) _ _ _ h.1) [
    | inl k ↦ set_told tag other found ((between_decides 1 32 other).0 k.0) k.1
    | inr k ↦ absurd (let none = k.1 in cc)
  ]
]

taken : {X : Type 0} (b : Bool) (x y : X) → b ≡ true → (if b then x else y) ≡ x
taken true x y is = refl
taken false x y is = absurd (false≢true is)

untaken : {X : Type 0} (b : Bool) (x y : X) → b ≡ false → (if b then x else y) ≡ y
untaken true x y is = absurd (false≢true (sym is))
untaken false x y is = refl

some_set : (set : ℕ) → 1 ≤ set → (set == 0) ≡ false
some_set set is = grind (arith, nat_tests)

by_set : (tag : ℕ) (set : ℕ) → IsSetNo set → status_by tag set ≡ set_status tag set
by_set tag set is =
    untaken (set == 0) (bare_status tag) (if is_between 1 32 set then set_status tag set else None) (some_set set is.0)
    ∙ taken (is_between 1 32 set) (set_status tag set) None ((between_decides 1 32 set).1 is)

status_again : (st : Status) (rest : List ℕ) → IsStatus st → status_at (status_text st ++ rest) ≡ Some (st, rest)
unfolding status_at
status_again Active rest is = refl
status_again Pinned rest is = refl
status_again (Sending to) rest is = rw (by_set 3 to is) refl
status_again (Receiving from) rest is = rw (by_set 4 from is) refl
status_again (Sent to) rest is = rw (by_set 5 to is) refl
status_again Garbage rest is = refl

pub status_reads : Reads status_text IsStatus status_at
unfolding status_at
status_reads = record { takes = took; again = status_again }
  where
    took : (bytes : List ℕ) (st : Status) (rest : List ℕ) → IsBytes bytes → status_at bytes ≡ Some (st, rest) → Takes bytes (status_text st) rest × IsStatus st
    took [] st rest fits e = absurd cc
    took (tag ∷ []) st rest fits e = absurd cc
    took (tag ∷ other ∷ bytes) st rest fits e =
        let f = bound (status_by tag other) (λ status. Some (status, bytes)) (st, rest) e in
        let same = pair_is f.0 st bytes rest f.2 in
        let told = status_told tag other f.0 f.1 in
        subst (λ (p : Status × List ℕ). Takes (tag ∷ other ∷ bytes) (status_text p.0) p.1 × IsStatus p.0) (λ i. (same.0 i, same.1 i))
        (record { parts = ap (λ (t : List ℕ). t ++ bytes) (sym told.0); rest_fits = IsBytes-rest other bytes (IsBytes-rest tag (other ∷ bytes) fits) }, told.1)

-- ---- keys and values

-- a text behind its length
pub text_reads : {size_text : ℕ → List ℕ} {size_at : List ℕ → Option (ℕ × List ℕ)} (limit : ℕ) → Reads size_text (λ n. n < limit) size_at → Reads (λ text. size_text (length text) ++ text) (λ text. length text < limit) (λ bytes. text_behind (size_at bytes))
text_reads {size_text} {size_at} limit sizes = record { takes = took; again = reads_again }
  where
    by : (o : Option (ℕ × List ℕ)) (bytes text rest : List ℕ) → IsBytes bytes → size_at bytes ≡ o → text_behind o ≡ Some (text, rest) → Takes bytes (size_text (length text) ++ text) rest × (length text < limit)
    by None bytes text rest fits is e = absurd cc
    by (Some size) bytes text rest fits is e =
        let n = size.0 in
        let more = size.1 in
        let g = cond_some (nat_le n (length more)) (take n more, drop n more) (text, rest) e in
        let long : n ≤ length more = (le_decides n (length more)).0 g.0 in
        let len : length (take n more) ≡ n = omega (arith, length-take n more) in
        let number = sizes.takes bytes n more fits is in
        let behind : Takes more (take n more) (drop n more) = record { parts = sym (take-append-drop n more); rest_fits = IsBytes-drop n more number.0.rest_fits } in
        let both = Takes-then bytes (size_text n) more (take n more) (drop n more) number.0 behind in
        let whole : Takes bytes (size_text (length (take n more)) ++ take n more) (drop n more) = subst (λ (k : ℕ). Takes bytes (size_text k ++ take n more) (drop n more)) (sym len) both in
        let short : length (take n more) < limit = omega (arith, len, number.1) in
        subst (λ (p : List ℕ × List ℕ). Takes bytes (size_text (length p.0) ++ p.0) p.1 × (length p.0 < limit)) g.1 (whole, short)

    took : (bytes text rest : List ℕ) → IsBytes bytes → text_behind (size_at bytes) ≡ Some (text, rest) → Takes bytes (size_text (length text) ++ text) rest × (length text < limit)
    took bytes text rest fits e = by (size_at bytes) bytes text rest fits refl e

    reads_again : (text rest : List ℕ) → length text < limit → text_behind (size_at ((size_text (length text) ++ text) ++ rest)) ≡ Some (text, rest)
    reads_again text rest lt =
        let long : nat_le (length text) (length (text ++ rest)) ≡ true = (le_decides (length text) (length (text ++ rest))).1 (omega (arith, length-append text rest)) in
        ap (λ (b : List ℕ). text_behind (size_at b)) (append_assoc (size_text (length text)) text rest)
        ∙ ap text_behind (sizes.again (length text) (text ++ rest) lt)
        ∙ rw (long, take_at text rest (length text) refl, drop_at text rest (length text) refl) refl

pub key_reads : Reads key_text IsKey key_at
unfolding key_at
key_reads = read_as IsKey (λ key is. is.1) (λ key is. (omega (arith, is.short), is)) (tested_read (text_reads 256 byte_reads) (is_name key_limit) IsKey (name_decides key_limit))

pub value_reads : (v : Version) → Reads (value_text v) (IsValueIn v) (value_at v)
unfolding value_at length_at
value_reads One = read_as (IsValueIn One) (λ value is. is.1) (λ value is. (omega (arith, is.short), is)) (tested_read (text_reads 256 byte_reads) (is_name 64) (IsValueIn One) (name_decides 64))
value_reads Two = read_as (IsValueIn Two) (λ value is. is.1) (λ value is. (omega (arith, is.short), is)) (tested_read (text_reads (2 ^ 16) (number_reads w16 (2 ^ 16) wide16)) (is_name value_limit) (IsValueIn Two) (name_decides value_limit))

pub row_reads : (v : Version) → Reads (row_text v) (IsRow v) (row_at v)
unfolding row_at
row_reads v = both_read key_reads (value_reads v)

abbrev pub values_text : Version → List ℕ × List ℕ → List ℕ
values_text v p = value_text v p.0 ++ value_text v p.1

abbrev pub AreValues : Version → List ℕ × List ℕ → Type 0
AreValues v p = IsValueIn v p.0 × IsValueIn v p.1

pub values_read : (v : Version) → Reads (values_text v) (AreValues v) (values_at v)
unfolding values_at
values_read v = both_read (value_reads v) (value_reads v)
