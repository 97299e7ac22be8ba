-- Reading one operation or one row after the other, as a loop does.
use Rattle.std.proofs.Common.{◌≡◌, ℕ, suc, ◌-◌, ◌+◌, ◌≤◌, ◌<◌, true, false, List, [], ◌∷◌, ◌++◌, Option, Some, None, refl, sym, ◌∙◌, arith}
use Rattle.vs_rows.specs.RowMap.{RowMap}
use Rattle.vs_rows.specs.declared.op.Op.{Op}
use Rattle.vs_record.specs.declared.fault.RecordFault.{RecordFault}
use Rattle.vs_record.specs.declared.fault.RecordFault.TheVariants.{BadBody, NoMemory}
use Rattle.vs_record.specs.declared.version.Version.{Version}
use Rattle.vs_record.specs.Reading.{Fails, op_at, ops_from, row_at, rows_from, is_above}

module _ (v : Version) (count i : ℕ) (bytes : List ℕ) (lt : i < count) where
  one : count - i ≡ suc (count - (i + 1))
  one = omega arith

  module _ (ops : List Op) (total : Option (List Op × List ℕ)) (so_far : ops_from v (count - i) ops bytes ≡ total) where
    pub ops_on : (op : Op) (rest : List ℕ) → op_at v bytes ≡ Some (op, rest) → ops_from v (count - (i + 1)) (ops ++ op ∷ []) rest ≡ total
    unfolding ops_from
    ops_on op rest is =
        let step : ops_from v (count - i) ops bytes ≡ ops_from v (count - (i + 1)) (ops ++ op ∷ []) rest = rw (one, is) refl in
        sym step ∙ so_far

    pub ops_stop : (e : RecordFault) → Fails e (op_at v bytes) → Fails e total
    unfolding ops_from
    ops_stop NoMemory fails = tt
    ops_stop BadBody fails =
        let step : ops_from v (count - i) ops bytes ≡ None = rw (one, fails) refl in
        sym so_far ∙ step

  module _ (rows : RowMap) (total : Option (RowMap × List ℕ)) (so_far : rows_from v (count - i) rows bytes ≡ total) where
    pub rows_on : (row : List ℕ × List ℕ) (rest : List ℕ) → row_at v bytes ≡ Some (row, rest) → is_above rows row.0 ≡ true → rows_from v (count - (i + 1)) (rows ++ row ∷ []) rest ≡ total
    unfolding rows_from
    rows_on row rest is above =
        let step : rows_from v (count - i) rows bytes ≡ rows_from v (count - (i + 1)) (rows ++ row ∷ []) rest = rw (one, is, above) refl in
        sym step ∙ so_far

    pub rows_stop : (e : RecordFault) → Fails e (row_at v bytes) → Fails e total
    unfolding rows_from
    rows_stop NoMemory fails = tt
    rows_stop BadBody fails =
        let step : rows_from v (count - i) rows bytes ≡ None = rw (one, fails) refl in
        sym so_far ∙ step

    pub rows_fall : (row : List ℕ × List ℕ) (rest : List ℕ) → row_at v bytes ≡ Some (row, rest) → is_above rows row.0 ≡ false → total ≡ None
    unfolding rows_from
    rows_fall row rest is above =
        let step : rows_from v (count - i) rows bytes ≡ None = rw (one, is, above) refl in
        sym so_far ∙ step

pub ops_done : (v : Version) (count i : ℕ) (ops : List Op) (bytes : List ℕ) (total : Option (List Op × List ℕ)) → count ≤ i → ops_from v (count - i) ops bytes ≡ total → total ≡ Some (ops, bytes)
unfolding ops_from
ops_done v count i ops bytes total le so_far =
    let none : count - i ≡ 0 = omega arith in
    let last : ops_from v (count - i) ops bytes ≡ Some (ops, bytes) = rw none refl in
    sym so_far ∙ last

pub rows_done : (v : Version) (count i : ℕ) (rows : RowMap) (bytes : List ℕ) (total : Option (RowMap × List ℕ)) → count ≤ i → rows_from v (count - i) rows bytes ≡ total → total ≡ Some (rows, bytes)
unfolding rows_from
rows_done v count i rows bytes total le so_far =
    let none : count - i ≡ 0 = omega arith in
    let last : rows_from v (count - i) rows bytes ≡ Some (rows, bytes) = rw none refl in
    sym so_far ∙ last
