-- A state of buckets up to a count stays one.
use Rattle.std.proofs.Common.{◌≡◌, ℕ, ◌+◌, ◌<◌, ◌≤◌, ◌==◌, ◌&&◌, nat_le, nat_lt, Bool, true, false, drop, Option, Some, None, if◌then◌else◌, refl, ◌∙◌, arith}
use Rattle.std.proofs.lemmas.Bool.Decides.{nat_tests}
use Rattle.vs_rows.specs.RowMap.{RowMap, with_rows}
use Rattle.vs_rows.specs.Operations.{rows_after}
use Rattle.vs_space.specs.declared.status.Status.{Status}
use Rattle.vs_space.specs.declared.status.Status.TheVariants.{Active, Receiving}
use Rattle.vs_record.specs.Change.{Change, SetStatus, AddRows, Write, Wipe, Forget}
use Rattle.vs_record.specs.Durable.{Durable, put, booted, with_entry, with_rows_at, applied, FitsState, IsOfBuckets}

-- what stands at a bucket up to n is nothing to those above
put_below : {A : Type 0} (f : ℕ → A) (n b q : ℕ) (x : A) → b ≤ n → n < q → put f b x q ≡ f q
put_below f n b q x upto above = let other : (q == b) ≡ false = grind (arith, nat_tests, upto, above) in rw other refl

entry_below : (n b : ℕ) (d : Durable) (entry : Option Status) → b ≤ n → IsOfBuckets n d → IsOfBuckets n (with_entry d b entry)
entry_below n b d entry upto is = record { entry = λ q above. put_below d.entry n b q entry upto above ∙ is.entry q above; rows = is.rows }

rows_below : (n b : ℕ) (d : Durable) (rows : RowMap) → b ≤ n → IsOfBuckets n d → IsOfBuckets n (with_rows_at d b rows)
rows_below n b d rows upto is = record { entry = is.entry; rows = λ q above. put_below d.rows n b q rows upto above ∙ is.rows q above }

pub booted_is : (n first count : ℕ) → (1 ≤ count → first + count ≤ n + 1) → IsOfBuckets n (booted first count)
booted_is n first count few = record { entry = λ b above. by b above (nat_le first b && nat_lt b (first + count)) refl; rows = λ b above. refl }
  where
    by : (b : ℕ) → n < b → (t : Bool) → (nat_le first b && nat_lt b (first + count)) ≡ t → (if t then Some Active else None) ≡ None
    by b above true is =
        let low : first ≤ b = grind (arith, nat_tests, is) in
        let high : b < first + count = grind (arith, nat_tests, is) in
        absurd (omega (arith, low, high, above, few (omega (arith, low, high))))
    by b above false is = refl

pub applied_is : (n : ℕ) (d : Durable) (c : Change) → FitsState n d c → IsOfBuckets n d → IsOfBuckets n (applied d c)
applied_is n d (SetStatus b status) fit is = entry_below n b d (Some status) fit.bucket is
applied_is n d (AddRows b x rows) fit is = rows_below n b (with_entry d b (Some (Receiving x))) (with_rows (d.rows b) rows) fit.bucket (entry_below n b d (Some (Receiving x)) fit.bucket is)
applied_is n d (Write id b ops) fit is = rows_below n b d (rows_after (d.rows b) ops) fit.bucket is
applied_is n d (Wipe b m) fit is = rows_below n b d (drop m (d.rows b)) fit.bucket is
applied_is n d (Forget b) fit is = entry_below n b d None fit.bucket is
