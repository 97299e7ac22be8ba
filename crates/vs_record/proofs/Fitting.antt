-- The test of a change says what the words do.
use Rattle.std.proofs.Common.{◌≡◌, ℕ, ◌≤◌, ◌==◌, nat_le, Bool, true, false, ◌&&◌, List, [], length, Option, Some, None, refl, sym, ap}
use Rattle.std.specs.Bool.{Decides}
use Rattle.std.proofs.lemmas.Bool.{false≢true}
use Rattle.std.proofs.lemmas.Bool.Decides.{Decides-eqb, Decides-and, Decides-like}
use Rattle.std.proofs.lemmas.List.{nil_from_length}
use Rattle.vs_space.specs.Status.{MayChange}
use Rattle.vs_space.specs.declared.status.Status.{Status}
use Rattle.vs_space.specs.declared.status.Status.TheVariants.{Active, Pinned, Sending, Receiving, Sent, Garbage}
use Rattle.vs_record.specs.Change.{Change, SetStatus, AddRows, Write, Wipe, Forget, bucket_of}
use Rattle.vs_record.specs.Durable.{Durable, HasEntry, Receives, TakesWrites, Fits, FitsState}
use Rattle.vs_record.specs.Fitting.{follows, receives, takes_writes, is_garbage, fits_state, fits}
use Rattle.vs_record.proofs.Names.{le_decides, between_decides}

yes_decides : {P : Type 0} → P → Decides true P
yes_decides p = (λ e. p, λ h. refl)

no_decides : {P : Type 0} → ¬ P → Decides false P
no_decides none = (λ e. absurd (false≢true e), λ h. absurd (none h))

follows_decides : (old : Option Status) (new : Status) → Decides (follows old new) (HasEntry old × MayChange old (Some new))
follows_decides None new = no_decides (λ h. h.0)
follows_decides (Some Active) Active = no_decides (λ h. h.1)
follows_decides (Some Active) Pinned = yes_decides (tt, tt)
follows_decides (Some Active) (Sending b) = yes_decides (tt, tt)
follows_decides (Some Active) (Receiving b) = no_decides (λ h. h.1)
follows_decides (Some Active) (Sent b) = no_decides (λ h. h.1)
follows_decides (Some Active) Garbage = no_decides (λ h. h.1)
follows_decides (Some Pinned) Active = yes_decides (tt, tt)
follows_decides (Some Pinned) Pinned = no_decides (λ h. h.1)
follows_decides (Some Pinned) (Sending b) = no_decides (λ h. h.1)
follows_decides (Some Pinned) (Receiving b) = no_decides (λ h. h.1)
follows_decides (Some Pinned) (Sent b) = no_decides (λ h. h.1)
follows_decides (Some Pinned) Garbage = no_decides (λ h. h.1)
follows_decides (Some (Sending a)) Active = yes_decides (tt, tt)
follows_decides (Some (Sending a)) Pinned = no_decides (λ h. h.1)
follows_decides (Some (Sending a)) (Sending b) = no_decides (λ h. h.1)
follows_decides (Some (Sending a)) (Receiving b) = no_decides (λ h. h.1)
follows_decides (Some (Sending a)) (Sent b) = Decides-like (a == b) (λ same. (tt, same)) (λ h. h.1) (Decides-eqb a b)
follows_decides (Some (Sending a)) Garbage = no_decides (λ h. h.1)
follows_decides (Some (Receiving a)) Active = yes_decides (tt, tt)
follows_decides (Some (Receiving a)) Pinned = no_decides (λ h. h.1)
follows_decides (Some (Receiving a)) (Sending b) = no_decides (λ h. h.1)
follows_decides (Some (Receiving a)) (Receiving b) = no_decides (λ h. h.1)
follows_decides (Some (Receiving a)) (Sent b) = no_decides (λ h. h.1)
follows_decides (Some (Receiving a)) Garbage = yes_decides (tt, tt)
follows_decides (Some (Sent a)) Active = no_decides (λ h. h.1)
follows_decides (Some (Sent a)) Pinned = no_decides (λ h. h.1)
follows_decides (Some (Sent a)) (Sending b) = no_decides (λ h. h.1)
follows_decides (Some (Sent a)) (Receiving b) = no_decides (λ h. h.1)
follows_decides (Some (Sent a)) (Sent b) = no_decides (λ h. h.1)
follows_decides (Some (Sent a)) Garbage = yes_decides (tt, tt)
follows_decides (Some Garbage) Active = no_decides (λ h. h.1)
follows_decides (Some Garbage) Pinned = no_decides (λ h. h.1)
follows_decides (Some Garbage) (Sending b) = no_decides (λ h. h.1)
follows_decides (Some Garbage) (Receiving b) = no_decides (λ h. h.1)
follows_decides (Some Garbage) (Sent b) = no_decides (λ h. h.1)
follows_decides (Some Garbage) Garbage = no_decides (λ h. h.1)

receives_decides : (old : Option Status) (x : ℕ) → Decides (receives old x) (Receives old x)
receives_decides None x = yes_decides tt
receives_decides (Some Active) x = no_decides (λ h. h)
receives_decides (Some Pinned) x = no_decides (λ h. h)
receives_decides (Some (Sending a)) x = no_decides (λ h. h)
receives_decides (Some (Receiving a)) x = Decides-eqb a x
receives_decides (Some (Sent a)) x = no_decides (λ h. h)
receives_decides (Some Garbage) x = no_decides (λ h. h)

writes_decides : (old : Option Status) → Decides (takes_writes old) (TakesWrites old)
writes_decides None = no_decides (λ h. h)
writes_decides (Some Active) = yes_decides tt
writes_decides (Some Pinned) = yes_decides tt
writes_decides (Some (Sending a)) = no_decides (λ h. h)
writes_decides (Some (Receiving a)) = no_decides (λ h. h)
writes_decides (Some (Sent a)) = no_decides (λ h. h)
writes_decides (Some Garbage) = no_decides (λ h. h)

garbage_decides : (old : Option Status) → Decides (is_garbage old) (old ≡ Some Garbage)
garbage_decides None = no_decides (λ h. cc)
garbage_decides (Some Active) = no_decides (λ h. cc)
garbage_decides (Some Pinned) = no_decides (λ h. cc)
garbage_decides (Some (Sending a)) = no_decides (λ h. cc)
garbage_decides (Some (Receiving a)) = no_decides (λ h. cc)
garbage_decides (Some (Sent a)) = no_decides (λ h. cc)
garbage_decides (Some Garbage) = yes_decides refl

empty_decides : {X : Type 0} (xs : List X) → Decides (length xs == 0) (xs ≡ [])
empty_decides xs = Decides-like (length xs == 0) (λ none. nil_from_length xs none) (λ none. ap length none) (Decides-eqb (length xs) 0)

state_decides : (d : Durable) (c : Change) → Decides (fits_state d c) (Fits d c)
state_decides d (SetStatus b status) = follows_decides (d.entry b) status
state_decides d (AddRows b x rows) = receives_decides (d.entry b) x
state_decides d (Write id b ops) = Decides-and (takes_writes (d.entry b)) (nat_le 1 id.call && nat_le id.call 200000) (writes_decides (d.entry b)) (between_decides 1 200000 id.call)
state_decides d (Wipe b n) = Decides-and (is_garbage (d.entry b)) (nat_le n (length (d.rows b))) (garbage_decides (d.entry b)) (le_decides n (length (d.rows b)))
state_decides d (Forget b) = Decides-and (is_garbage (d.entry b)) (length (d.rows b) == 0) (garbage_decides (d.entry b)) (empty_decides (d.rows b))

pub fits_decides : (buckets : ℕ) (d : Durable) (c : Change) → Decides (fits buckets d c) (FitsState buckets d c)
fits_decides buckets d c =
    Decides-like (fits buckets d c) (λ (is : (bucket_of c ≤ buckets) × Fits d c). record { bucket = is.0; fits = is.1 }) (λ (is : FitsState buckets d c). (is.bucket, is.fits))
    (Decides-and (nat_le (bucket_of c) buckets) (fits_state d c) (le_decides (bucket_of c) buckets) (state_decides d c))

-- what was tested by the words is what the test gives
pub same_test : (r : Bool) (buckets : ℕ) (d : Durable) (c : Change) → (r ≡ true → FitsState buckets d c) → (FitsState buckets d c → r ≡ true) → r ≡ fits buckets d c
same_test true buckets d c told tells = sym ((fits_decides buckets d c).1 (told refl))
same_test false buckets d c told tells = by (fits buckets d c) (fits_decides buckets d c)
  where
    by : (t : Bool) → Decides t (FitsState buckets d c) → false ≡ t
    by true decides = tells (decides.0 refl)
    by false decides = refl
