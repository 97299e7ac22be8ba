-- A state that is read from a journal is of the buckets up to the count in its head.
use Rattle.std.proofs.Common.{◌≡◌, ⊎_elim, ℕ, Bool, true, false, Option, Some, None, Ok, Err, if◌then◌else◌, refl, sym, subst, arith}
use Rattle.vs_frame.specs.Head.{IsHead}
use Rattle.vs_frame.specs.declared.head.Head.{Head}
use Rattle.vs_record.specs.Change.{Change}
use Rattle.vs_record.specs.Durable.{Durable, booted, applied, IsOfBuckets}
use Rattle.vs_record.specs.Fitting.{fits}
use Rattle.vs_record.proofs.Buckets.{booted_is, applied_is}
use Rattle.vs_record.proofs.Fitting.{fits_decides}
use Rattle.vs_store.specs.Standing.{stepped}

-- what a journal begins with
pub begins_within : (head : Head) (d : Durable) → IsHead head → d ≡ booted head.boot_first head.boot_count → IsOfBuckets head.bucket_count d
begins_within head d is begins = subst (IsOfBuckets head.bucket_count) (sym begins)
    (booted_is head.bucket_count head.boot_first head.boot_count (λ some. ⊎_elim (λ none. absurd (omega (arith, some, none.1))) (λ boots. omega (arith, boots.0, boots.1, boots.2)) is.boots))

-- one change more
pub stepped_within : (n : ℕ) (d : Durable) (gate : ℕ) (change : Option Change) (x : Durable) → stepped n d gate change ≡ Ok x → IsOfBuckets n d → IsOfBuckets n x
stepped_within n d gate None x is within = absurd cc
stepped_within n d gate (Some c) x is within = by (fits n d c) refl is
  where
    by : (t : Bool) → fits n d c ≡ t → (if t then Ok (applied d c) else Err gate) ≡ Ok x → IsOfBuckets n x
    by true fit e =
        let same : applied d c ≡ x = cc in
        subst (IsOfBuckets n) same (applied_is n d c ((fits_decides n d c).0 fit) within)
    by false fit e = absurd cc
