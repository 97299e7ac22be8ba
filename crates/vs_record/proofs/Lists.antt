-- Operations and rows, one after the other.
use Rattle.std.proofs.Common.{◌≡◌, inl, inr, ℕ, zero, suc, ◌-◌, ◌^◌, ◌<◌, ◌≤◌, ◌==◌, nat_le, true, if◌then◌else◌, List, [], ◌∷◌, ◌++◌, length, Option, Some, None, refl, sym, ap, subst, ◌∙◌, append_assoc, arith}
use Rattle.std.specs.Int.{w16}
use Rattle.std.specs.List.{flat_map, AllByRecursion}
use Rattle.std.proofs.lemmas.Bool.{eqb-true}
use Rattle.std.proofs.lemmas.List.{append-nil}
use Rattle.std.proofs.lemmas.List.Concat.{flat_map-cons}
use Rattle.vs_rows.specs.Names.{IsKey}
use Rattle.vs_rows.specs.RowMap.{RowMap, IsRising}
use Rattle.vs_rows.specs.declared.op.Op.{Op}
use Rattle.vs_rows.specs.declared.op.Op.TheVariants.{Get, Put, Insert, Delete, Swap, Count, Scan}
use Rattle.vs_rows.proofs.Rising.{rising_front}
use Rattle.vs_rows.proofs.Pushed.{rising_push, below_pushed}
use Rattle.vs_record.specs.Body.{number_text, key_text, row_text, op_text, rows_text, ops_text, IsRow, IsOp, AreOps, AreRows}
use Rattle.vs_record.specs.Reading.{◌>>=◌, both, tested, byte_at, number_at, is_between, few_at, key_at, row_at, values_at, is_above, rows_from, rows_at, op_by, op_at, ops_from, ops_at}
use Rattle.vs_record.specs.declared.version.Version.{Version}
use Rattle.vs_record.proofs.Names.{le_decides, between_decides, above_decides}
use Rattle.vs_record.proofs.Taken.{IsBytes, IsBytes-rest, Takes, Takes-then, Reads, bound, pair_is, both_read, tested_read, made_takes, made_again, byte_reads, number_reads, wide16}
use Rattle.vs_record.proofs.Parts.{chosen, key_reads, row_reads, values_text, AreValues, values_read, few_reads}

-- ---- one operation

abbrev swap_of : List ℕ × (List ℕ × List ℕ) → Op
swap_of p = Swap p.0 p.1.0 p.1.1

abbrev swap_text : Version → List ℕ × (List ℕ × List ℕ) → List ℕ
swap_text v p = key_text p.0 ++ values_text v p.1

abbrev IsSwap : Version → List ℕ × (List ℕ × List ℕ) → Type 0
IsSwap v p = IsKey p.0 × AreValues v p.1

swap_reads : (v : Version) → Reads (swap_text v) (IsSwap v) (both key_at (values_at v))
swap_reads v = both_read key_reads (values_read v)

abbrev scan_of : List ℕ × ℕ → Op
scan_of p = Scan p.0 p.1

abbrev scan_text : List ℕ × ℕ → List ℕ
scan_text p = key_text p.0 ++ p.1 ∷ []

abbrev IsScan : List ℕ × ℕ → Type 0
IsScan p = IsKey p.0 × ((1 ≤ p.1) × (p.1 ≤ 100))

scan_reads : Reads scan_text IsScan (both key_at few_at)
scan_reads = both_read key_reads few_reads

-- the bytes behind a tag are those of the operation's fields
record IsOpAt (v : Version) (tag : ℕ) (bytes : List ℕ) (op : Op) (rest : List ℕ) : Type 0 where
  takes : Takes (tag ∷ bytes) (op_text v op) rest
  is : IsOp v op

tagged : (k tag : ℕ) (bytes text rest : List ℕ) → tag ≡ k → Takes bytes text rest → Takes (tag ∷ bytes) (k ∷ text) rest
tagged k tag bytes text rest same takes = record { parts = λ i. same i ∷ takes.parts i; rest_fits = takes.rest_fits }

counted : (v : Version) (tag : ℕ) (bytes : List ℕ) (op : Op) (rest : List ℕ) → IsBytes bytes → tag ≡ 6 → ◌≡◌ {A = Option (Op × List ℕ)} (Some (Count, bytes)) (Some (op, rest)) → IsOpAt v tag bytes op rest
counted v tag bytes op rest fits six e =
    let same = pair_is Count op bytes rest e in
    let whole : IsOpAt v tag bytes Count bytes = record { takes = record { parts = ap (λ (t : ℕ). t ∷ bytes) six; rest_fits = fits }; is = tt } in
    subst (λ (p : Op × List ℕ). IsOpAt v tag bytes p.0 p.1) (λ i. (same.0 i, same.1 i)) whole

made_op : (v : Version) {X : Type 0} (make : X → Op) (text : X → List ℕ) (Is : X → Type 0) (k tag : ℕ) (bytes : List ℕ) (op : Op) (rest : List ℕ) → ((x : X) → op_text v (make x) ≡ k ∷ text x) → ((x : X) → Is x → IsOp v (make x))
    → k ≡ tag → (x : X) × (make x ≡ op) × Takes bytes (text x) rest × Is x → IsOpAt v tag bytes op rest
made_op v make text Is k tag bytes op rest spelled is same made =
    let takes = subst (λ (t : List ℕ). Takes (tag ∷ bytes) t rest) (sym (spelled made.0)) (tagged k tag bytes (text made.0) rest (sym same) made.2) in
    let whole : IsOpAt v tag bytes (make made.0) rest = record { takes = takes; is = is made.0 made.3 } in
    subst (λ (o : Op). IsOpAt v tag bytes o rest) made.1 whole

op_told : (v : Version) (tag : ℕ) (bytes : List ℕ) (op : Op) (rest : List ℕ) → IsBytes bytes → op_by v tag bytes ≡ Some (op, rest) → IsOpAt v tag bytes op rest
unfolding op_by
op_told v tag bytes op rest fits e = elim (chosen (tag == 1) _ _ _ e) [
  | inl h ↦ made_op v Get key_text IsKey 1 tag bytes op rest (λ x. refl) (λ x is. is) (sym (eqb-true tag 1 h.0)) (made_takes key_reads Get bytes op rest fits h.1)
  | inr e1 ↦ elim (chosen (tag == 2) _ _ _ e1.1) [
    | inl h ↦ made_op v (λ row. Put row.0 row.1) (row_text v) (IsRow v) 2 tag bytes op rest (λ x. refl) (λ x is. is) (sym (eqb-true tag 2 h.0)) (made_takes (row_reads v) (λ row. Put row.0 row.1) bytes op rest fits h.1)
    | inr e2 ↦ elim (chosen (tag == 3) _ _ _ e2.1) [
      | inl h ↦ made_op v (λ row. Insert row.0 row.1) (row_text v) (IsRow v) 3 tag bytes op rest (λ x. refl) (λ x is. is) (sym (eqb-true tag 3 h.0)) (made_takes (row_reads v) (λ row. Insert row.0 row.1) bytes op rest fits h.1)
      | inr e3 ↦ elim (chosen (tag == 4) _ _ _ e3.1) [
        | inl h ↦ made_op v Delete key_text IsKey 4 tag bytes op rest (λ x. refl) (λ x is. is) (sym (eqb-true tag 4 h.0)) (made_takes key_reads Delete bytes op rest fits h.1)
        | inr e4 ↦ elim (chosen (tag == 5) _ _ _ e4.1) [
          | inl h ↦ made_op v swap_of (swap_text v) (IsSwap v) 5 tag bytes op rest (λ x. refl) (λ x is. is) (sym (eqb-true tag 5 h.0)) (made_takes (swap_reads v) swap_of bytes op rest fits h.1)
          | inr e5 ↦ elim (chosen (tag == 6) _ _ _ e5.1) [
            | inl h ↦ counted v tag bytes op rest fits (eqb-true tag 6 h.0) h.1
            | inr e6 ↦ elim (chosen (tag == 7) _ _ _ e6.1) [
              | inl h ↦ made_op v scan_of scan_text IsScan 7 tag bytes op rest (λ x. refl) (λ x is. (is.0, is.1.0, is.1.1)) (sym (eqb-true tag 7 h.0)) (made_takes scan_reads scan_of bytes op rest fits h.1)
              | inr e7 ↦ absurd (let none = e7.1 in cc)
            ]
          ]
        ]
      ]
    ]
  ]
]

op_again : (v : Version) (op : Op) (rest : List ℕ) → IsOp v op → op_at v (op_text v op ++ rest) ≡ Some (op, rest)
unfolding op_at op_by
op_again v (Get k) rest is = made_again key_reads Get k rest is
op_again v (Put k new) rest is = made_again (row_reads v) (λ row. Put row.0 row.1) (k, new) rest is
op_again v (Insert k new) rest is = made_again (row_reads v) (λ row. Insert row.0 row.1) (k, new) rest is
op_again v (Delete k) rest is = made_again key_reads Delete k rest is
op_again v (Swap k old new) rest is = made_again (swap_reads v) swap_of (k, (old, new)) rest is
op_again v Count rest is = refl
op_again v (Scan k n) rest is = made_again scan_reads scan_of (k, n) rest (is.0, (is.1, is.2))

pub op_reads : (v : Version) → Reads (op_text v) (IsOp v) (op_at v)
unfolding op_at
op_reads v = record { takes = took; again = op_again v }
  where
    took : (bytes : List ℕ) (op : Op) (rest : List ℕ) → IsBytes bytes → op_at v bytes ≡ Some (op, rest) → Takes bytes (op_text v op) rest × IsOp v op
    took [] op rest fits e = absurd cc
    took (tag ∷ bytes) op rest fits e = let told = op_told v tag bytes op rest (IsBytes-rest tag bytes fits) e in (told.takes, told.is)

-- ---- operations

all_push : {X : Type 0} (P : X → Type 0) (xs : List X) (x : X) → AllByRecursion P xs → P x → AllByRecursion P (xs ++ x ∷ [])
all_push P [] x all p = (p, tt)
all_push P (y ∷ ys) x all p = (all.0, all_push P ys x all.1 p)

-- what was read behind the items before it
record IsMore {X : Type 0} (text : X → List ℕ) (Is : X → Type 0) (n : ℕ) (front : List X) (bytes : List ℕ) (items : List X) (rest : List ℕ) : Type 0 where
  more : List X
  items_are : items ≡ front ++ more
  takes : Takes bytes (flat_map text more) rest
  each : AllByRecursion Is more
  many : length more ≡ n

one_more : {X : Type 0} (text : X → List ℕ) (Is : X → Type 0) (n : ℕ) (front : List X) (bytes : List ℕ) (x : X) (behind : List ℕ) (items : List X) (rest : List ℕ) → Takes bytes (text x) behind → Is x → IsMore text Is n (front ++ x ∷ []) behind items rest → IsMore text Is (suc n) front bytes items rest
one_more text Is n front bytes x behind items rest takes is later = record {
  more = x ∷ later.more;
  items_are = later.items_are ∙ append_assoc front (x ∷ []) later.more;
  takes = subst (λ (t : List ℕ). Takes bytes t rest) (sym (flat_map-cons text x later.more)) (Takes-then bytes (text x) behind (flat_map text later.more) rest takes later.takes);
  each = (is, later.each);
  many = ap suc later.many;
}

no_more : {X : Type 0} (text : X → List ℕ) (Is : X → Type 0) (front : List X) (bytes : List ℕ) (items : List X) (rest : List ℕ) → IsBytes bytes → front ≡ items → bytes ≡ rest → IsMore text Is 0 front bytes items rest
no_more text Is front bytes items rest fits same behind = record {
  more = [];
  items_are = sym same ∙ sym (append-nil front);
  takes = record { parts = behind; rest_fits = subst IsBytes behind fits };
  each = tt;
  many = refl;
}

ops_told : (v : Version) (n : ℕ) (front : List Op) (bytes : List ℕ) (ops : List Op) (rest : List ℕ) → IsBytes bytes → ops_from v n front bytes ≡ Some (ops, rest) → IsMore (op_text v) (IsOp v) n front bytes ops rest
unfolding ops_from
ops_told v zero front bytes ops rest fits e = let same = pair_is front ops bytes rest e in no_more (op_text v) (IsOp v) front bytes ops rest fits same.0 same.1
ops_told v (suc n) front bytes ops rest fits e =
    let op = bound (op_at v bytes) (λ op. ops_from v n (front ++ op.0 ∷ []) op.1) (ops, rest) e in
    let first = (op_reads v).takes bytes op.0.0 op.0.1 fits op.1 in
    one_more (op_text v) (IsOp v) n front bytes op.0.0 op.0.1 ops rest first.0 first.1 (ops_told v n (front ++ op.0.0 ∷ []) op.0.1 ops rest first.0.rest_fits op.2)

ops_again : (v : Version) (more front : List Op) (rest : List ℕ) → AllByRecursion (IsOp v) more → ops_from v (length more) front (flat_map (op_text v) more ++ rest) ≡ Some (front ++ more, rest)
unfolding ops_from
ops_again v [] front rest all = ap (λ (l : List Op). Some (l, rest)) (sym (append-nil front))
ops_again v (op ∷ more) front rest all =
    let regrouped : flat_map (op_text v) (op ∷ more) ++ rest ≡ op_text v op ++ (flat_map (op_text v) more ++ rest) = ap (λ (x : List ℕ). x ++ rest) (flat_map-cons (op_text v) op more) ∙ append_assoc (op_text v op) (flat_map (op_text v) more) rest in
    ap (λ (b : List ℕ). ops_from v (suc (length more)) front b) regrouped ∙ rw ((op_reads v).again op (flat_map (op_text v) more ++ rest) all.0) (ops_again v more (front ++ op ∷ []) rest all.1 ∙ ap (λ (l : List Op). Some (l, rest)) (append_assoc front (op ∷ []) more))

pub ops_reads : (v : Version) → Reads (ops_text v) (AreOps v) (ops_at v)
unfolding ops_at
ops_reads v = record { takes = took; again = reads_again }
  where
    counts : Reads (λ b. b ∷ []) (λ n. (n < 256) × ((1 ≤ n) × (n ≤ 16))) (λ bytes. tested (is_between 1 16) (byte_at bytes))
    counts = tested_read byte_reads (is_between 1 16) (λ n. (1 ≤ n) × (n ≤ 16)) (λ n. between_decides 1 16 n)

    took : (bytes : List ℕ) (ops : List Op) (rest : List ℕ) → IsBytes bytes → ops_at v bytes ≡ Some (ops, rest) → Takes bytes (ops_text v ops) rest × AreOps v ops
    took bytes ops rest fits e =
        let count = bound (tested (is_between 1 16) (byte_at bytes)) (λ count. op_at v count.1 >>= λ first. ops_from v (count.0 - 1) (first.0 ∷ []) first.1) (ops, rest) e in
        let first = bound (op_at v count.0.1) (λ first. ops_from v (count.0.0 - 1) (first.0 ∷ []) first.1) (ops, rest) count.2 in
        let number = counts.takes bytes count.0.0 count.0.1 fits count.1 in
        let one = (op_reads v).takes count.0.1 first.0.0 first.0.1 number.0.rest_fits first.1 in
        let others = ops_told v (count.0.0 - 1) (first.0.0 ∷ []) first.0.1 ops rest one.0.rest_fits first.2 in
        let all = one_more (op_text v) (IsOp v) (count.0.0 - 1) [] count.0.1 first.0.0 first.0.1 ops rest one.0 one.1 others in
        let many : length ops ≡ count.0.0 = omega (arith, ap length all.items_are, all.many, number.1.1.0) in
        let takes = Takes-then bytes (count.0.0 ∷ []) count.0.1 (flat_map (op_text v) all.more) rest number.0 all.takes in
        let same : all.more ≡ ops = sym all.items_are in (
          subst (λ (k : ℕ). Takes bytes (k ∷ flat_map (op_text v) ops) rest) (sym many) (subst (λ (l : List Op). Takes bytes (count.0.0 ∷ flat_map (op_text v) l) rest) same takes),
          record { some = omega (arith, many, number.1.1.0); most = omega (arith, many, number.1.1.1); each = subst (λ (l : List Op). AllByRecursion (IsOp v) l) same all.each },
        )

    reads_again : (ops : List Op) (rest : List ℕ) → AreOps v ops → ops_at v (ops_text v ops ++ rest) ≡ Some (ops, rest)
    reads_again [] rest are = absurd (omega (arith, are.some))
    reads_again (op ∷ more) rest are =
        let ranged : is_between 1 16 (suc (length more)) ≡ true = (between_decides 1 16 (suc (length more))).1 (omega (arith, are.some), are.most) in
        let less : suc (length more) - 1 ≡ length more = omega arith in
        let regrouped : flat_map (op_text v) (op ∷ more) ++ rest ≡ op_text v op ++ (flat_map (op_text v) more ++ rest) = ap (λ (x : List ℕ). x ++ rest) (flat_map-cons (op_text v) op more) ∙ append_assoc (op_text v op) (flat_map (op_text v) more) rest in
        ap (λ (b : List ℕ). ops_at v (suc (length more) ∷ b)) regrouped ∙ rw (ranged, (op_reads v).again op (flat_map (op_text v) more ++ rest) are.each.0, less) (ops_again v more (op ∷ []) rest are.each.1)

-- ---- rows

rows_told : (v : Version) (n : ℕ) (front : RowMap) (bytes : List ℕ) (rows : RowMap) (rest : List ℕ) → IsBytes bytes → IsRising front → rows_from v n front bytes ≡ Some (rows, rest) → IsMore (row_text v) (IsRow v) n front bytes rows rest × IsRising rows
unfolding rows_from
rows_told v zero front bytes rows rest fits rising e =
    let same = pair_is front rows bytes rest e in
    (no_more (row_text v) (IsRow v) front bytes rows rest fits same.0 same.1, subst (λ (l : RowMap). IsRising l) same.0 rising)
rows_told v (suc n) front bytes rows rest fits rising e =
    let row = bound (row_at v bytes) (λ row. if is_above front row.0.0 then rows_from v n (front ++ row.0 ∷ []) row.1 else None) (rows, rest) e in
    let first = (row_reads v).takes bytes row.0.0 row.0.1 fits row.1 in
    elim (chosen (is_above front row.0.0.0) _ _ _ row.2) [
      | inl h ↦ (
          let below = (above_decides front row.0.0.0).0 h.0 in
          let later = rows_told v n (front ++ row.0.0 ∷ []) row.0.1 rows rest first.0.rest_fits (rising_push front row.0.0 rising below) h.1 in
          (one_more (row_text v) (IsRow v) n front bytes row.0.0 row.0.1 rows rest first.0 first.1 later.0, later.1)
          )
      | inr h ↦ absurd (let none = h.1 in cc)
    ]

rows_again : (v : Version) (more front : RowMap) (rest : List ℕ) → IsRising (front ++ more) → AllByRecursion (IsRow v) more → rows_from v (length more) front (flat_map (row_text v) more ++ rest) ≡ Some (front ++ more, rest)
unfolding rows_from
rows_again v [] front rest rising all = ap (λ (l : RowMap). Some (l, rest)) (sym (append-nil front))
rows_again v (row ∷ more) front rest rising all =
    let regrouped : flat_map (row_text v) (row ∷ more) ++ rest ≡ row_text v row ++ (flat_map (row_text v) more ++ rest) = ap (λ (x : List ℕ). x ++ rest) (flat_map-cons (row_text v) row more) ∙ append_assoc (row_text v row) (flat_map (row_text v) more) rest in
    let other : front ++ (row ∷ more) ≡ (front ++ row ∷ []) ++ more = sym (append_assoc front (row ∷ []) more) in
    let pushed : IsRising ((front ++ row ∷ []) ++ more) = subst (λ (l : RowMap). IsRising l) other rising in
    let above : is_above front row.0 ≡ true = (above_decides front row.0).1 (below_pushed front row (rising_front (front ++ row ∷ []) more pushed)) in
    ap (λ (b : List ℕ). rows_from v (suc (length more)) front b) regrouped
    ∙ rw ((row_reads v).again row (flat_map (row_text v) more ++ rest) all.0, above) (rows_again v more (front ++ row ∷ []) rest pushed all.1 ∙ ap (λ (l : RowMap). Some (l, rest)) (append_assoc front (row ∷ []) more))

pub rows_read : (v : Version) → Reads (rows_text v) (AreRows v) (rows_at v)
unfolding rows_at
rows_read v = record { takes = took; again = reads_again }
  where
    counts : Reads (number_text w16) (λ n. (n < 2 ^ 16) × (n ≤ 1000)) (λ bytes. tested (λ n. nat_le n 1000) (number_at w16 bytes))
    counts = tested_read (number_reads w16 (2 ^ 16) wide16) (λ n. nat_le n 1000) (λ n. n ≤ 1000) (λ n. le_decides n 1000)

    took : (bytes : List ℕ) (rows : RowMap) (rest : List ℕ) → IsBytes bytes → rows_at v bytes ≡ Some (rows, rest) → Takes bytes (rows_text v rows) rest × AreRows v rows
    took bytes rows rest fits e =
        let count = bound (tested (λ n. nat_le n 1000) (number_at w16 bytes)) (λ count. rows_from v count.0 [] count.1) (rows, rest) e in
        let number = counts.takes bytes count.0.0 count.0.1 fits count.1 in
        let told = rows_told v count.0.0 [] count.0.1 rows rest number.0.rest_fits tt count.2 in
        let all = told.0 in
        let many : length rows ≡ count.0.0 = omega (arith, ap length all.items_are, all.many) in
        let takes = Takes-then bytes (number_text w16 count.0.0) count.0.1 (flat_map (row_text v) all.more) rest number.0 all.takes in
        let same : all.more ≡ rows = sym all.items_are in (
          subst (λ (k : ℕ). Takes bytes (number_text w16 k ++ flat_map (row_text v) rows) rest) (sym many) (subst (λ (l : RowMap). Takes bytes (number_text w16 count.0.0 ++ flat_map (row_text v) l) rest) same takes),
          record { page = record { rising = told.1; short = omega (arith, many, number.1.1) }; each = subst (λ (l : RowMap). AllByRecursion (IsRow v) l) same all.each },
        )

    reads_again : (rows : RowMap) (rest : List ℕ) → AreRows v rows → rows_at v (rows_text v rows ++ rest) ≡ Some (rows, rest)
    reads_again rows rest are =
        let regrouped : rows_text v rows ++ rest ≡ number_text w16 (length rows) ++ (flat_map (row_text v) rows ++ rest) = append_assoc (number_text w16 (length rows)) (flat_map (row_text v) rows) rest in
        ap (rows_at v) regrouped ∙ rw (counts.again (length rows) (flat_map (row_text v) rows ++ rest) (omega (arith, are.page.short), are.page.short)) (rows_again v rows [] rest are.page.rising are.each)
